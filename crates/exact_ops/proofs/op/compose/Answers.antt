use Rattle.std.proofs.Common.{◌∙◌, ap₂}
use Rattle.lattice_algebra.specs.Operator.{product}
use Rattle.lattice_algebra.proofs.Maps.{operator_path}
use Rattle.exact_ops.specs.declared.TheConstants.{UNIT}
use Rattle.exact_ops.specs.Fields.{operator_in}
use Rattle.exact_ops.proofs.Narrow.{IsNarrow-product}
use Rattle.exact_ops.proofs.op.compose.Goals as goal

pub invariant_of-result : goal.invariant_of-result
invariant_of-result c =
    let a = c.a in
    let b = c.b in
    IsNarrow-product (operator_in a.inside.w a.inside.t) (operator_in b.inside.w b.inside.t) _ _ a.invariant.is_operator b.invariant.is_operator
    c.after-w.ensures c.moved-t.ensures (c.is_within.ensures.0 c.if-not-is_within.false)

pub returns-clause-value : goal.returns-clause-value
unfolding product
returns-clause-value c =
    operator_path _ _ c.after-w.ensures c.moved-t.ensures ∙ ap₂ (λ f g. product UNIT f g) c.a.view_is c.b.view_is
