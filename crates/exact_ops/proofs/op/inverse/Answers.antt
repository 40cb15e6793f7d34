use Rattle.std.proofs.Common.{rules, subst, sym, refl, ◌∙◌, w32, FitsSigned}
use Rattle.lattice_algebra.specs.Operator.{Operator, IsInverse}
use Rattle.exact_ops.specs.declared.TheConstants.{UNIT}
use Rattle.exact_ops.specs.Fields.{matrix_in, column_in, operator_in}
use Rattle.exact_ops.proofs.Narrow.{wider, inverted, inverse_test, inverse_matrix_is, negated_is, IsNarrow-inverse}
use Rattle.exact_ops.proofs.op.inverse.Goals as goal

pub sign-sign-requires-clause-small : goal.sign-sign-requires-clause-small
sign-sign-requires-clause-small c = wider _ c.a.invariant.within_two

pub sign-sign-requires-clause-unimodular : goal.sign-sign-requires-clause-unimodular
sign-sign-requires-clause-unimodular c = c.a.invariant.is_operator.unimodular

pub returns-then-not-is_within-clause-some : goal.returns-then-not-is_within-clause-some
returns-then-not-is_within-clause-some c =
    let f : FitsSigned w32 c.sign-sign.result = search rules in
    let v = inverse_matrix_is (matrix_in c.a.inside.w) (matrix_in c.scaled_adjugate-w.result) _ f c.sign-sign.ensures.value c.scaled_adjugate-w.ensures in
    λ g i.
    let h = inverse_test (operator_in c.a.inside.w c.a.inside.t) _ c.is_within.result c.a.invariant.is_operator.unimodular v c.is_within.ensures g (subst (λ (a : Operator). IsInverse UNIT a g) (sym c.a.view_is) i) in
    (λ t. cc t, λ n. sym c.if-not-is_within.true ∙ h.1 n)

pub moved-t-requires-clause-narrow : goal.moved-t-requires-clause-narrow
moved-t-requires-clause-narrow c = c.is_within.ensures.0 c.if-not-is_within.false

pub returns-clause-some : goal.returns-clause-some
returns-clause-some c =
    let f : FitsSigned w32 c.sign-sign.result = search rules in
    let v = inverse_matrix_is (matrix_in c.a.inside.w) (matrix_in c.scaled_adjugate-w.result) _ f c.sign-sign.ensures.value c.scaled_adjugate-w.ensures in
    λ g i.
    let h = inverse_test (operator_in c.a.inside.w c.a.inside.t) _ c.is_within.result c.a.invariant.is_operator.unimodular v c.is_within.ensures g (subst (λ (a : Operator). IsInverse UNIT a g) (sym c.a.view_is) i) in
    (λ _. h.0 c.if-not-is_within.false, λ _. refl)

pub invariant_of-result : goal.invariant_of-result
invariant_of-result c =
    let f : FitsSigned w32 c.sign-sign.result = search rules in
    let v = inverse_matrix_is (matrix_in c.a.inside.w) (matrix_in c.scaled_adjugate-w.result) _ f c.sign-sign.ensures.value c.scaled_adjugate-w.ensures in
    let t = negated_is (matrix_in c.scaled_adjugate-w.result) (column_in c.a.inside.t) _ _ c.negated.ensures.value c.moved-t.ensures in
    let a = operator_in c.a.inside.w c.a.inside.t in
    IsNarrow-inverse a _ _ (inverted a _ _ c.a.invariant.is_operator.unimodular v t) (c.is_within.ensures.0 c.if-not-is_within.false)

pub returns-clause-value : goal.returns-clause-value
returns-clause-value c =
    let f : FitsSigned w32 c.sign-sign.result = search rules in
    let v = inverse_matrix_is (matrix_in c.a.inside.w) (matrix_in c.scaled_adjugate-w.result) _ f c.sign-sign.ensures.value c.scaled_adjugate-w.ensures in
    let t = negated_is (matrix_in c.scaled_adjugate-w.result) (column_in c.a.inside.t) _ _ c.negated.ensures.value c.moved-t.ensures in
    subst (λ (a : Operator). IsInverse UNIT a (operator_in c.scaled_adjugate-w.result c.moved-t.result)) c.a.view_is
    (inverted (operator_in c.a.inside.w c.a.inside.t) _ _ c.a.invariant.is_operator.unimodular v t)
