use Rattle.std.proofs.Common.{sym, ◌∙◌}
use Rattle.std.proofs.lemmas.Bool.{false≢true}
use Rattle.lattice_algebra.specs.Point.{Point}
use Rattle.exact_ops.specs.Numbers.{point_in}
use Rattle.atom_expand.proofs.SamePoints.{small_in_cell, asked, ratios_of, same_of}
use Rattle.atom_expand.proofs.same.is_same_point.Goals as goal

pub returns-then-is_surely_other : goal.returns-then-is_surely_other
returns-then-is_surely_other c = ((λ t. absurd (false≢true t)), (λ s. absurd (c.is_surely_other.ensures c.if-is_surely_other.true s)))

pub returns-then-not-is_same_ratio : goal.returns-then-not-is_same_ratio
returns-then-not-is_same_ratio c =
    let p : Point = point_in c.args.p.now in
    let q : Point = point_in c.args.q.now in
    let d = c.over_unit-d.result in
    let e = c.over_unit-e.result in
    let small = small_in_cell p d c.args.p.now.in_range c.requires.first c.over_unit-d.ensures.small in
    let other = small_in_cell q e c.args.q.now.in_range c.requires.second c.over_unit-e.ensures.small in
    let x = asked c.is_same_ratio.result p.n.x d q.n.x e (small.x, (small.over, (other.x, (other.over, tt)))) c.is_same_ratio.ensures in (
      (λ t. absurd (false≢true t)),
      (λ s. let r = ratios_of p q d e c.over_unit-d.ensures.exact c.over_unit-e.ensures.exact s in sym c.if-not-is_same_ratio.true ∙ x.1 r.x),
    )

pub returns-then-not-is_same_ratio-2 : goal.returns-then-not-is_same_ratio-2
returns-then-not-is_same_ratio-2 c =
    let p : Point = point_in c.args.p.now in
    let q : Point = point_in c.args.q.now in
    let d = c.over_unit-d.result in
    let e = c.over_unit-e.result in
    let small = small_in_cell p d c.args.p.now.in_range c.requires.first c.over_unit-d.ensures.small in
    let other = small_in_cell q e c.args.q.now.in_range c.requires.second c.over_unit-e.ensures.small in
    let y = asked c.is_same_ratio-2.result p.n.y d q.n.y e (small.y, (small.over, (other.y, (other.over, tt)))) c.is_same_ratio-2.ensures in (
      (λ t. absurd (false≢true t)),
      (λ s. let r = ratios_of p q d e c.over_unit-d.ensures.exact c.over_unit-e.ensures.exact s in sym c.if-not-is_same_ratio-2.true ∙ y.1 r.y),
    )

pub returns : goal.returns
returns c =
    let p : Point = point_in c.args.p.now in
    let q : Point = point_in c.args.q.now in
    let d = c.over_unit-d.result in
    let e = c.over_unit-e.result in
    let small = small_in_cell p d c.args.p.now.in_range c.requires.first c.over_unit-d.ensures.small in
    let other = small_in_cell q e c.args.q.now.in_range c.requires.second c.over_unit-e.ensures.small in
    let x = asked c.is_same_ratio.result p.n.x d q.n.x e (small.x, (small.over, (other.x, (other.over, tt)))) c.is_same_ratio.ensures in
    let y = asked c.is_same_ratio-2.result p.n.y d q.n.y e (small.y, (small.over, (other.y, (other.over, tt)))) c.is_same_ratio-2.ensures in
    let z = asked c.is_same_ratio-3.result p.n.z d q.n.z e (small.z, (small.over, (other.z, (other.over, tt)))) c.is_same_ratio-3.ensures in (
      (λ t. same_of p q d e c.over_unit-d.ensures.exact c.over_unit-e.ensures.exact (record { x = x.0 c.if-not-is_same_ratio.false; y = y.0 c.if-not-is_same_ratio-2.false; z = z.0 t })),
      (λ s. let r = ratios_of p q d e c.over_unit-d.ensures.exact c.over_unit-e.ensures.exact s in z.1 r.z),
    )
