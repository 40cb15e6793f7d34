use Rattle.std.proofs.Common.{inr, refl, sym, ◌∙◌, ⊎_elim}
use Rattle.std.proofs.lemmas.Bool.{false≢true}
use Rattle.exact_ops.specs.Fields.{column_in}
use Rattle.affine_sets.proofs.EnoughShifts.{same_but_cells, opposite_but_cells, cells_less, cells_sum}
use Rattle.affine_sets.proofs.keys.size_beside.Goals as goal

pub returns-then-are_whole-clause-value : goal.returns-then-are_whole-clause-value
returns-then-are_whole-clause-value c = let r = c.are_whole.ensures.0 c.if-are_whole.true in inr (refl, same_but_cells c.args.over (column_in c.args.column.now) (column_in c.args.other.now) r.0 c.requires.column c.requires.other r.1)

pub returns-then-are_whole-2-clause-value : goal.returns-then-are_whole-2-clause-value
returns-then-are_whole-2-clause-value c = let r = c.are_whole-2.ensures.0 c.if-are_whole-2.true in inr (refl, opposite_but_cells c.args.over (column_in c.args.column.now) (column_in c.args.other.now) r.0 c.requires.column c.requires.other r.1)

pub returns-clause-one : goal.returns-clause-one
returns-clause-one c = λ s.
    let a = column_in c.args.column.now in
    let b = column_in c.args.other.now in
    ⊎_elim
    (λ e. absurd (false≢true (sym c.if-are_whole.false ∙ c.are_whole.ensures.1 (s.0, cells_less c.args.over a b s.0 c.requires.column c.requires.other e))))
    (λ e. absurd (false≢true (sym c.if-are_whole-2.false ∙ c.are_whole-2.ensures.1 (s.0, cells_sum c.args.over a b s.0 c.requires.column c.requires.other e))))
    s.1
