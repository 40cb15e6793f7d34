use Rattle.std.proofs.Common.{sym, ap, ◌∙◌}
use Rattle.lattice_algebra.specs.Matrix.{identity, matrix_of}
use Rattle.lattice_algebra.proofs.Equality.{matrix_eq-is}
use Rattle.exact_ops.specs.Fields.{matrix_in}
use Rattle.affine_sets.proofs.Putting.{held_apart, identity_apart}
use Rattle.affine_sets.proofs.growth.put.Goals as goal

pub returns-in-Some-clause-apart : goal.returns-in-Some-clause-apart
returns-in-Some-clause-apart c =
    held_apart c.args.g.now c.args.held.now c.args.x.now c.in-Some.shift c.requires.place (sym c.shift_at.ensures ∙ c.in-Some.is) (sym c.eq.ensures ∙ c.if-eq.false)

pub returns-then-eq-2-clause-apart : goal.returns-then-eq-2-clause-apart
returns-then-eq-2-clause-apart c =
    let is_identity = (matrix_eq-is (matrix_in c.of.result) identity c.eq-2.result c.eq-2.ensures).0 c.if-eq-2.true in
    identity_apart c.args.g.now c.args.held.now c.args.x.now c.op.result c.op.ensures.group c.requires.place c.requires.zero (λ k h. c.in_default.not-Some k (c.shift_at.ensures ∙ h)) c.op.ensures.value (sym (c.of.ensures ∙ ap matrix_of c.w.ensures.value) ∙ is_identity)

pub hold-requires-clause-fresh : goal.hold-requires-clause-fresh
hold-requires-clause-fresh c = sym c.shift_at.ensures ∙ c.in_default.is
