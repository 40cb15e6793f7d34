use Rattle.std.proofs.Common.{sym, ap, subst, ◌∙◌, unsigned_abs, neg_ℤ}
use Rattle.std.proofs.lemmas.Bool.{false≢true}
use Rattle.std.specs.Int.{◌∣◌}
use Rattle.lattice_algebra.specs.Matrix.{times}
use Rattle.exact_ops.specs.Fields.{column_in}
use Rattle.op_types.specs.Vector.{Divides}
use Rattle.lattice_algebra.proofs.Numbers.{positive_size, positive_is, abs_neg}
use Rattle.op_types.proofs.Directions.{directed_part, directed_opposite}
use Rattle.op_types.proofs.Divisors.{same_back, opposite_back, opposite_divides}
use Rattle.op_types.proofs.direction.signed_divisor.Goals as goal

pub returns-then-is_directed-clause-greatest : goal.returns-then-is_directed-clause-greatest
returns-then-is_directed-clause-greatest c =
    let g = c.common_divisor.ensures in
    λ d h. subst (λ n. unsigned_abs d ∣ n) (sym (ap unsigned_abs (same_back c.common_divisor.result g.small))) (g.greatest d h)

pub returns-then-is_directed-clause-directed : goal.returns-then-is_directed-clause-directed
returns-then-is_directed-clause-directed c =
    let g = c.common_divisor.ensures in
    λ b e.
    directed_part (unsigned_abs c.common_divisor.result) (column_in c.args.v.now) b (positive_size _ g.positive) (e ∙ ap (λ k. times k b) (same_back _ g.small ∙ positive_is _ g.positive)) (c.is_directed.ensures.0 c.if-is_directed.true)

pub returns-clause-divides : goal.returns-clause-divides
returns-clause-divides c =
    let g = c.common_divisor-2.ensures in
    subst (λ k. Divides k (column_in c.args.v.now)) (sym (opposite_back _ g.small)) (opposite_divides c.common_divisor-2.result (column_in c.args.v.now) g.divides)

pub returns-clause-greatest : goal.returns-clause-greatest
returns-clause-greatest c =
    let g = c.common_divisor-2.ensures in
    λ d h. subst (λ n. unsigned_abs d ∣ n) (sym (ap unsigned_abs (opposite_back _ g.small) ∙ abs_neg c.common_divisor-2.result)) (g.greatest d h)

pub returns-clause-directed : goal.returns-clause-directed
returns-clause-directed c =
    let g = c.common_divisor-2.ensures in
    λ b e.
    directed_opposite (unsigned_abs c.common_divisor-2.result) (column_in c.args.v.now) b (positive_size _ g.positive) (e ∙ ap (λ k. times k b) (opposite_back _ g.small ∙ ap neg_ℤ (positive_is _ g.positive))) c.requires.some
    (λ d. false≢true (sym c.if-is_directed.false ∙ c.is_directed.ensures.1 d))
