use Rattle.std.proofs.Common.{inl, inr, sym, refl, ◌∙◌, subst}
use Rattle.std.proofs.lemmas.Bool.{false≢true}
use Rattle.lattice_algebra.specs.Matrix.{coordinates}
use Rattle.space_groups.specs.Keys.{IsBelow}
use Rattle.affine_sets.proofs.keys.earlier_of.Goals as goal

pub returns-then-is_below-clause-value : goal.returns-then-is_below-clause-value
returns-then-is_below-clause-value c =
    inl (refl, subst (λ v. IsBelow v (coordinates c.args.other.now.key.t)) c.t.ensures.value (subst (IsBelow c.t.result) c.t-2.ensures.value (c.is_below.ensures.0 c.if-is_below.true)))

pub returns-clause-value : goal.returns-clause-value
returns-clause-value c =
    inr (refl, λ l. false≢true (sym c.if-is_below.false ∙ c.is_below.ensures.1 (subst (IsBelow c.t.result) (sym c.t-2.ensures.value) (subst (λ v. IsBelow v (coordinates c.args.other.now.key.t)) (sym c.t.ensures.value) l))))
