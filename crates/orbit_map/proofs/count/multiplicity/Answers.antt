use Rattle.std.proofs.Common.{ap, ◌∙◌, ◌/◌, ◌*◌, length}
use Rattle.exact_ops.specs.Numbers.{point_in}
use Rattle.orbit_map.proofs.Counts.{some_order, as_many, whole}
use Rattle.orbit_map.proofs.count.multiplicity.Goals as goal

pub nonzero_div-result : goal.nonzero_div-result
nonzero_div-result c = some_order c.args.group.now (point_in c.args.point.now) c.order_at.result c.len.ensures.group c.args.point.now.in_range.positive c.order_at.ensures

pub returns-clause-value : goal.returns-clause-value
returns-clause-value c =
    λ orbit o. ap (λ n. n / c.order_at.result) c.len.ensures.value ∙ as_many c.args.group.now (point_in c.args.point.now) c.order_at.result c.len.ensures.group c.args.point.now.in_range.positive c.order_at.ensures orbit o

pub returns-clause-law : goal.returns-clause-law
returns-clause-law c =
    λ site s. ap (λ n. length site * (n / c.order_at.result)) c.len.ensures.value ∙ whole c.args.group.now (point_in c.args.point.now) c.order_at.result c.len.ensures.group c.args.point.now.in_range.positive c.order_at.ensures site s
