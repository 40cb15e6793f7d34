use Rattle.std.proofs.Common.{w64, ◌≤◌, unsigned_abs, ◌∙◌, ap₂, sym, subst, refl, pos, ℤ}
use Rattle.std.proofs.lemmas.Bool.{false≢true}
use Rattle.lattice_algebra.specs.Matrix.{Matrix, IsUnimodular, scaled, adjugate}
use Rattle.lattice_algebra.specs.Operator.{AreParts, HasEntriesWithin}
use Rattle.lattice_algebra.proofs.Machine.{kept, widened}
use Rattle.exact_ops.proofs.Bounds.{passed}
use Rattle.exact_ops.specs.declared.TheConstants.{UNIT, MAX_ENTRY}
use Rattle.basis_change.proofs.parts.Change.of.Goals as goal

pub returns-then-not-unimodular-clause-some : goal.returns-then-not-unimodular-clause-some
returns-then-not-unimodular-clause-some c = ((λ t. absurd (false≢true t)), (λ u. absurd (false≢true (sym c.if-not-unimodular.true ∙ c.unimodular.ensures.1 u))))

pub sign-requires-clause-small : goal.sign-requires-clause-small
sign-requires-clause-small c = (subst (HasEntriesWithin MAX_ENTRY) (sym c.of-q.ensures) c.args.raw.now.in_range.within)

pub sign-requires-clause-unimodular : goal.sign-requires-clause-unimodular
sign-requires-clause-unimodular c = (subst IsUnimodular (sym c.of-q.ensures) (c.unimodular.ensures.0 c.if-not-unimodular.false))

pub scaled_adjugate-requires-clause-sign : goal.scaled_adjugate-requires-clause-sign
scaled_adjugate-requires-clause-sign c = passed w64 1 c.from-sign.result (subst (λ v. unsigned_abs v ≤ 1) (sym (widened 1 c.sign.result c.from-sign.ensures c.sign.ensures.sign tt)) c.sign.ensures.sign) tt

pub scaled_adjugate-requires-clause-small : goal.scaled_adjugate-requires-clause-small
scaled_adjugate-requires-clause-small c = subst (HasEntriesWithin MAX_ENTRY) (sym c.of-2.ensures) (subst (HasEntriesWithin MAX_ENTRY) (sym c.of-q.ensures) c.args.raw.now.in_range.within)

pub invariant_of-result : goal.invariant_of-result
invariant_of-result c = record { unimodular = (subst IsUnimodular (sym c.of-q.ensures) (c.unimodular.ensures.0 c.if-not-unimodular.false)); within = (subst (HasEntriesWithin MAX_ENTRY) (sym c.of-q.ensures) c.args.raw.now.in_range.within); in_cell = subst (AreParts UNIT) (sym c.of.ensures) c.args.raw.now.in_range.in_cell; inverse = c.scaled_adjugate.ensures.value ∙ ap₂ (λ (s : ℤ) (m : Matrix). scaled s (adjugate m)) (kept w64 1 c.from-sign.result (subst (λ v. unsigned_abs v ≤ 1) (sym (widened 1 c.sign.result c.from-sign.ensures c.sign.ensures.sign tt)) c.sign.ensures.sign) tt ∙ (widened 1 c.sign.result c.from-sign.ensures c.sign.ensures.sign tt) ∙ c.sign.ensures.value) c.of-2.ensures; inverse_within = c.scaled_adjugate.ensures.size }

pub returns-clause-some : goal.returns-clause-some
returns-clause-some c = ((λ t. c.unimodular.ensures.0 c.if-not-unimodular.false), (λ q. refl))

pub returns-clause-value : goal.returns-clause-value
returns-clause-value c = λ i. record { w = c.of-q.ensures i; t = c.of.ensures i; d = pos 1 }
