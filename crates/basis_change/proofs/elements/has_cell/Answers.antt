use Rattle.std.proofs.Common.{◌∙◌, sym, subst, Contains}
use Rattle.std.proofs.lemmas.Bool.{false≢true}
use Rattle.lattice_algebra.specs.Matrix.{identity}
use Rattle.lattice_algebra.specs.Map.{operator_of}
use Rattle.basis_change.specs.Wide.{wide_column}
use Rattle.exact_ops.specs.declared.TheConstants.{UNIT}
use Rattle.basis_change.proofs.Generators.{frame_cell, one_column}
use Rattle.basis_change.proofs.elements.has_cell.Goals as goal

pub cell_before-requires-clause-frame : goal.cell_before-requires-clause-frame
cell_before-requires-clause-frame c = c.requires.frame

pub cell_before-requires-clause-axis : goal.cell_before-requires-clause-axis
cell_before-requires-clause-axis c = c.requires.axis

pub returns-in_default : goal.returns-in_default
returns-in_default c = λ e h. ((λ t. absurd (false≢true t)), (λ k. let q = (frame_cell c.args.group.now c.len-count.ensures.group c.args.frame.now c.requires.frame e).0 k in absurd (false≢true ((c.in_default.ensures.some e h).1 (q.0, q.1)))))

pub returns-in_default-translation_by : goal.returns-in_default-translation_by
returns-in_default-translation_by c = λ e h. absurd (false≢true c.in_default-translation_by.ensures.some)

pub returns : goal.returns
returns c = λ e h.
    let v = c.in-Some.ensures.value e h in (
      (λ t. (frame_cell c.args.group.now c.len-count.ensures.group c.args.frame.now c.requires.frame e).1 (wide_column c.in-Some.s, v, subst (Contains c.args.group.now) c.in-Some-translation_by.ensures.value (c.find.ensures.some.0 (sym c.is_some.ensures ∙ t)))),
      (λ k.
          let q = (frame_cell c.args.group.now c.len-count.ensures.group c.args.frame.now c.requires.frame e).0 k in
          let same = one_column c.args.frame.now c.requires.frame q.0 (wide_column c.in-Some.s) _ q.1 v in
          c.is_some.ensures ∙ c.find.ensures.some.1 (subst (Contains c.args.group.now) (sym c.in-Some-translation_by.ensures.value) (subst (λ s. Contains c.args.group.now (operator_of UNIT (record { w = identity; s = s }))) same q.2))),
    )
