use Rattle.std.proofs.Common.{sym, subst, refl, ◌∙◌}
use Rattle.std.proofs.lemmas.Bool.{false≢true}
use Rattle.exact_ops.specs.Numbers.{point_in}
use Rattle.exact_ops.proofs.Images.{unit_part, kept_part}
use Rattle.affine_sets.proofs.Held.{kept_within}
use Rattle.exact_ops.proofs.Bounds.{numerators_within}
use Rattle.space_groups.specs.Averages.{Block, IsInImage}
use Rattle.affine_sets.specs.Fields.{block_in}
use Rattle.affine_sets.proofs.Held.{good, good_held, row_test}
use Rattle.affine_sets.proofs.fixing.holds.Goals as goal

pub is_left-requires-clause-part : goal.is_left-requires-clause-part
is_left-requires-clause-part c = kept_part (point_in c.args.p.now) c.from.result c.args.p.now.in_range c.from.ensures

pub is_left-requires-2-clause-part : goal.is_left-requires-2-clause-part
is_left-requires-2-clause-part c = kept_part (point_in c.args.p.now) c.from.result c.args.p.now.in_range c.from.ensures

pub is_left-requires-3-clause-part : goal.is_left-requires-3-clause-part
is_left-requires-3-clause-part c = kept_part (point_in c.args.p.now) c.from.result c.args.p.now.in_range c.from.ensures

pub is_left-requires-clause-point : goal.is_left-requires-clause-point
is_left-requires-clause-point c = kept_within _ _ _ (numerators_within (point_in c.args.p.now) c.args.p.now.in_range)

pub is_left-requires-2-clause-point : goal.is_left-requires-2-clause-point
is_left-requires-2-clause-point c = kept_within _ _ _ (numerators_within (point_in c.args.p.now) c.args.p.now.in_range)

pub is_left-requires-3-clause-point : goal.is_left-requires-3-clause-point
is_left-requires-3-clause-point c = kept_within _ _ _ (numerators_within (point_in c.args.p.now) c.args.p.now.in_range)

pub returns-then-not-is_left : goal.returns-then-not-is_left
returns-then-not-is_left c =
    let a = block_in c.s.inside.m c.s.inside.t c.s.inside.over in
    let g = good a (point_in c.args.p.now) c.from.result c.s.inside.over c.s.invariant refl c.args.p.now.in_range c.from.ensures in
    let p = point_in c.args.p.now in
    let x = row_test c.is_left.result a.m.xx a.m.xy a.m.xz a.t.x p.n.x p.n.y p.n.z p.n.x (unit_part p.d c.from.result) c.s.inside.over g.rows.x g.translation.first g.point g.point.first g.part_size c.is_left.ensures in
    λ y e. ((λ t. absurd (false≢true t)), (λ i. absurd (false≢true (sym c.if-not-is_left.true ∙ x.1 ((good_held a p.n p.d (unit_part p.d c.from.result) c.s.inside.over g y e).1 (subst (λ (b : Block). IsInImage b y) (sym c.s.view_is) i)).x))))

pub returns-then-not-is_left-2 : goal.returns-then-not-is_left-2
returns-then-not-is_left-2 c =
    let a = block_in c.s.inside.m c.s.inside.t c.s.inside.over in
    let g = good a (point_in c.args.p.now) c.from.result c.s.inside.over c.s.invariant refl c.args.p.now.in_range c.from.ensures in
    let p = point_in c.args.p.now in
    let x = row_test c.is_left-2.result a.m.yx a.m.yy a.m.yz a.t.y p.n.x p.n.y p.n.z p.n.y (unit_part p.d c.from.result) c.s.inside.over g.rows.y g.translation.second g.point g.point.second g.part_size c.is_left-2.ensures in
    λ y e. ((λ t. absurd (false≢true t)), (λ i. absurd (false≢true (sym c.if-not-is_left-2.true ∙ x.1 ((good_held a p.n p.d (unit_part p.d c.from.result) c.s.inside.over g y e).1 (subst (λ (b : Block). IsInImage b y) (sym c.s.view_is) i)).y))))

pub returns : goal.returns
returns c =
    let a = block_in c.s.inside.m c.s.inside.t c.s.inside.over in
    let g = good a (point_in c.args.p.now) c.from.result c.s.inside.over c.s.invariant refl c.args.p.now.in_range c.from.ensures in
    let p = point_in c.args.p.now in
    let x = row_test c.is_left.result a.m.xx a.m.xy a.m.xz a.t.x p.n.x p.n.y p.n.z p.n.x (unit_part p.d c.from.result) c.s.inside.over g.rows.x g.translation.first g.point g.point.first g.part_size c.is_left.ensures in
    let y = row_test c.is_left-2.result a.m.yx a.m.yy a.m.yz a.t.y p.n.x p.n.y p.n.z p.n.y (unit_part p.d c.from.result) c.s.inside.over g.rows.y g.translation.second g.point g.point.second g.part_size c.is_left-2.ensures in
    let z = row_test c.is_left-3.result a.m.zx a.m.zy a.m.zz a.t.z p.n.x p.n.y p.n.z p.n.z (unit_part p.d c.from.result) c.s.inside.over g.rows.z g.translation.third g.point g.point.third g.part_size c.is_left-3.ensures in
    λ v e.
    let h = good_held a p.n p.d (unit_part p.d c.from.result) c.s.inside.over g v e in (
      (λ t. subst (λ (b : Block). IsInImage b v) c.s.view_is (h.0 (record { x = x.0 c.if-not-is_left.false; y = y.0 c.if-not-is_left-2.false; z = z.0 t }))),
      (λ i. z.1 (h.1 (subst (λ (b : Block). IsInImage b v) (sym c.s.view_is) i)).z),
    )
