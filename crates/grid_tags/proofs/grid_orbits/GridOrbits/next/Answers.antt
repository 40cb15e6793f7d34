use Rattle.std.proofs.Common.{sym, subst, ◌∙◌}
use Rattle.std.specs.Option.{IfNone}
use Rattle.std.proofs.lemmas.List.{with_items_is}
use Rattle.grid_tags.specs.GridLists.{IsGridList}
use Rattle.grid_tags.proofs.Tags.{stepped, over}
use Rattle.grid_tags.proofs.grid_orbits.GridOrbits.next.Goals as goal

pub returns-in_err-place-clause-none : goal.returns-in_err-place-clause-none
returns-in_err-place-clause-none c = λ taken walk.
    subst (λ r. IfNone r (IsGridList c.args.group.now c.args.self.now.size taken)) (sym c.from_residual.ensures)
    (over c.args.group.now c.args.self.now _ taken c.deref.result.now c.self.view_is walk c.deref.ensures.value c.self.invariant.0 c.in_err-place.ensures.none)

pub returns-clause-some : goal.returns-clause-some
returns-clause-some c = λ taken walk.
    stepped c.args.group.now c.args.self.now _ taken c.in_ok-place.place c.len.result c.tag_orbit-fixing.result c.point_at-at.result c.deref.result.now c.deref_mut.result.now c.tag_orbit-fixing.new.tags _ c.self.view_is walk c.deref.ensures.value c.deref_mut.ensures.value
    (with_items_is c.self.inside.tags c.tag_orbit-fixing.new.tags (c.tag_orbit-fixing.auto.tags ∙ c.deref_mut.ensures.len))
    c.in_ok-place.ensures.some c.point_at-at.ensures.within c.point_at-at.ensures.value c.point_at-at.ensures.three c.len.ensures.value
    c.tag_orbit-fixing.ensures.some c.tag_orbit-fixing.ensures.count c.tag_orbit-fixing.ensures.tags
