use Rattle.std.proofs.Common.{◌≡◌, ◌<◌, ◌+◌, length, ap, sym, subst, ◌∙◌, arith}
use Rattle.std.proofs.lemmas.List.{with_items_is}
use Rattle.grid_tags.specs.Grids.{points, triple_of}
use Rattle.grid_tags.proofs.FirstPoints.{AreFirstUpTo, begun, own_given, other_kept, all_come_to}
use Rattle.grid_tags.proofs.firsts.first_points.Goals as goal
use Rattle.grid_tags.proofs.firsts.first_points.Goals.{then-index-place, else-index-place}

pub loop-place-init : goal.loop-place-init
loop-place-init c = record {
  len = c.in_ok-firsts.ensures.len;
  up_to = begun c.args.group.now c.args.size.now c.len.ensures.group c.points-place-end.ensures.range c.requires c.in_ok-firsts.firsts.items c.in_ok-firsts.ensures.own;
}

pub loop-place-preserved : goal.loop-place-preserved
loop-place-preserved c =
    let members = c.args.group.now in
    let s = c.args.size.now in
    let was = c.loop-place.invariant in
    let k = c.loop-place.place in
    let old = c.loop-place.firsts.items in
    let group = c.len.ensures.group in
    let range = c.points-place-end.ensures.range in
    let within : k < points s = omega (arith, c.loop-place-test.true, c.points-place-end.ensures.value) in
    let inside : k < length old = omega (arith, within, was.len) in
    elim c.if-index-place.branch [
      | then-index-place w ↦
          let same = w.tag_orbit.auto.tags ∙ w.deref_mut.ensures.len in
          let now = (λ h. (w.firsts-is h).items) ∙ with_items_is c.loop-place.firsts w.tag_orbit.new.tags same in
          record {
            len = ap length now ∙ w.tag_orbit.auto.tags ∙ ap length w.deref_mut.ensures.value ∙ was.len;
            up_to = own_given members s group range c.requires old w.deref_mut.result.now w.tag_orbit.new.tags c.if-index-place.firsts.items k c.index.result.now (triple_of w.point_at-at.result) was.up_to inside c.index.ensures w.if-index-place.true w.point_at-at.ensures.within w.point_at-at.ensures.value w.deref_mut.ensures.value w.tag_orbit.ensures.tags now;
          }
      | else-index-place w ↦ record {
        len = (λ h. length (w.firsts-is h).items) ∙ was.len;
        up_to = subst (AreFirstUpTo members s (k + 1)) (λ h. (sym w.firsts-is h).items) (other_kept members s group range c.requires old k c.index.result.now was.up_to within inside c.index.ensures w.if-index-place.false);
      }
    ]

pub returns : goal.returns
returns c =
    let end : c.loop-place.place ≡ points c.args.size.now = omega (arith, c.loop-place-test.false, c.loop-place.auto.place-end, c.points-place-end.ensures.value) in
    all_come_to c.args.group.now c.args.size.now c.len.ensures.group c.points-place-end.ensures.range c.requires c.loop-place.firsts.items c.loop-place.invariant.len
    (subst (λ k. AreFirstUpTo c.args.group.now c.args.size.now k c.loop-place.firsts.items) end c.loop-place.invariant.up_to)
