use Rattle.std.proofs.Common.{◌≡◌, ◌∷◌, length, map, ap, sym, subst, arith}
use Rattle.std.proofs.lemmas.List.{length-map}
use Rattle.std.proofs.lemmas.List.Elements.{All-cons}
use Rattle.std.proofs.lemmas.Option.{slice_get_within}
use Rattle.lattice_algebra.specs.Map.{identity_map}
use Rattle.exact_ops.specs.declared.TheConstants.{UNIT}
use Rattle.exact_ops.specs.Elements.{map_in}
use Rattle.space_groups.specs.Space.{IsElement}
use Rattle.group_closure.proofs.Places.{some_member}
use Rattle.affine_sets.specs.declared.TheConstants.{MAX_GROWN_SHIFT}
use Rattle.affine_sets.specs.Growth.{placed_map, given_maps, AreHeld, IsTorn}
use Rattle.affine_sets.specs.Subs.{IsSubList, AreElements}
use Rattle.affine_sets.proofs.FirstBlock.{are_at, are_old, begun, first_shift, rest_shifts, shift_within}
use Rattle.affine_sets.proofs.GrownGroups.{HasGrown, first_products, given_are, torn_fixes_none, has_grown, grown_elements, grown_generated, grown_sub}
use Rattle.affine_sets.proofs.growth.grow.Goals.{After-put_all, After-list_held}
use Rattle.affine_sets.proofs.growth.grow.Goals as goal

-- the given elements, and the group that has grown
given : (c : After-put_all) → given_maps c.args.g.now c.deref.result.now c.with_place-e.result ≡ map_in c.args.e.now ∷ c.args.s.now
given c = given_are c.args.g.now c.hold_elements.new.old.items c.deref.result.now c.with_place-e.result c.args.s.now (map_in c.args.e.now) c.deref.ensures.value c.hold_elements.ensures.maps c.with_place-e.ensures.value

valid : (c : After-put_all) → AreElements c.args.g.now (map_in c.args.e.now ∷ c.args.s.now)
valid c = All-cons (IsElement UNIT c.args.g.now) (map_in c.args.e.now) c.args.s.now c.requires.element c.requires.elements

has : (c : After-list_held) → given_maps c.args.g.now c.deref.result.now c.with_place-e.result ≡ map_in c.args.e.now ∷ c.args.s.now → HasGrown c.args.g.now (map_in c.args.e.now ∷ c.args.s.now) c.put_all.new.held (map map_in c.list_held.new.moves.items)
has c are = has_grown c.args.g.now c.deref.result.now c.put_all.new.firsts.items c.with_place-e.result (map_in c.args.e.now ∷ c.args.s.now) c.put_all.new.held (map map_in c.list_held.new.moves.items) are c.in-Ok-put_all.ensures.growing c.in-Ok-put_all.ensures.products c.in-Ok-put_all.ensures.closed c.list_held.ensures.listed

pub hold_elements-requires-clause-group : goal.hold_elements-requires-clause-group
hold_elements-requires-clause-group c = c.len-2.ensures.group

pub hold_elements-requires-clause-elements : goal.hold_elements-requires-clause-elements
hold_elements-requires-clause-elements c = c.requires.elements

pub hold_elements-requires-clause-room : goal.hold_elements-requires-clause-room
hold_elements-requires-clause-room c = omega (arith, c.in-Ok.ensures.capacity, c.len.ensures, ap length c.s.view_is, length-map c.s.inside.moves.items map_in, c.s.inside.moves.ok.0)

pub hold_elements-requires-clause-empty : goal.hold_elements-requires-clause-empty
hold_elements-requires-clause-empty c = c.in-Ok.ensures.items

pub hold_elements-requires-clause-none : goal.hold_elements-requires-clause-none
hold_elements-requires-clause-none c = c.in_ok-held.ensures

pub index-requires : goal.index-requires
index-requires c = omega (arith, slice_get_within c.args.s.now 0 identity_map (subst IsSubList c.s.view_is c.s.invariant).first, ap length c.hold_elements.ensures.maps, length-map c.hold_elements.new.old.items (placed_map c.args.g.now), c.hold_elements.new.old.ok.0)

pub push_reserved-requires : goal.push_reserved-requires
push_reserved-requires c = omega (arith, c.in-Ok-with_capacity.ensures.len, c.in-Ok-with_capacity.ensures.capacity, c.from.ensures, c.len-2.ensures.value, some_member c.args.g.now c.len-2.ensures.group)

pub with_place-e-requires : goal.with_place-e-requires
with_place-e-requires c = c.requires.element

pub put_all-requires-clause-group : goal.put_all-requires-clause-group
put_all-requires-clause-group c = c.len-2.ensures.group

pub put_all-requires-clause-old : goal.put_all-requires-clause-old
put_all-requires-clause-old c =
    let s = subst IsSubList c.s.view_is c.s.invariant in
    are_old c.args.g.now c.len-2.ensures.group c.args.s.now s c.deref.result.now (are_at c.args.g.now c.args.s.now c.hold_elements.new.old.items c.deref.result.now c.deref.ensures.value c.hold_elements.ensures.maps c.hold_elements.ensures.within)
    (rest_shifts MAX_GROWN_SHIFT (map_in c.args.e.now) c.args.s.now c.requires.shifts)

pub put_all-requires-clause-growing : goal.put_all-requires-clause-growing
put_all-requires-clause-growing c =
    let s = subst IsSubList c.s.view_is c.s.invariant in
    let at = are_at c.args.g.now c.args.s.now c.hold_elements.new.old.items c.deref.result.now c.deref.ensures.value c.hold_elements.ensures.maps c.hold_elements.ensures.within in
    let old = are_old c.args.g.now c.len-2.ensures.group c.args.s.now s c.deref.result.now at (rest_shifts MAX_GROWN_SHIFT (map_in c.args.e.now) c.args.s.now c.requires.shifts) in
    let held = subst (λ v. AreHeld v c.hold_elements.new.held) (sym c.deref.ensures.value) c.hold_elements.ensures.held in
    begun c.args.g.now c.len-2.ensures.group c.args.s.now s c.deref.result.now at old c.hold_elements.new.held held c.hold_elements.new.old.items c.in-Ok-with_capacity.firsts.items c.push_reserved.new.self.items c.index.result.now c.deref.ensures.value
    c.in-Ok-with_capacity.ensures.items c.push_reserved.ensures.items c.index.ensures

pub put_all-requires-clause-products : goal.put_all-requires-clause-products
put_all-requires-clause-products c =
    let held = subst (λ v. AreHeld v c.hold_elements.new.held) (sym c.deref.ensures.value) c.hold_elements.ensures.held in
    first_products c.args.g.now c.deref.result.now c.with_place-e.result c.hold_elements.new.held held

pub put_all-requires-clause-room : goal.put_all-requires-clause-room
put_all-requires-clause-room c = omega (arith, c.push_reserved.ensures.capacity, c.in-Ok-with_capacity.ensures.capacity, c.from.ensures, c.len-2.ensures.value)

pub put_all-requires-clause-element : goal.put_all-requires-clause-element
put_all-requires-clause-element c = c.with_place-e.ensures.within

pub put_all-requires-clause-size : goal.put_all-requires-clause-size
put_all-requires-clause-size c =
    let e = map_in c.args.e.now in
    shift_within MAX_GROWN_SHIFT c.args.g.now c.len-2.ensures.group c.with_place-e.result e c.with_place-e.ensures.within c.with_place-e.ensures.value (first_shift MAX_GROWN_SHIFT e c.args.s.now c.requires.shifts)

pub returns-in_default-put_all-clause-none : goal.returns-in_default-put_all-clause-none
returns-in_default-put_all-clause-none c =
    let at = goal.at.returns-in_default-put_all-clause-none c in
    torn_fixes_none c.args.g.now c.len-2.ensures.group (map_in c.args.e.now ∷ c.args.s.now) (valid at.After-put_all) (subst IsTorn (given at.After-put_all) c.in_default-put_all.ensures.torn)

pub list_held-requires-clause-room : goal.list_held-requires-clause-room
list_held-requires-clause-room c = omega (arith, c.in-Ok-with_capacity-2.ensures.capacity, c.from-2.ensures, c.len-3.ensures.value)

pub list_held-requires-clause-empty : goal.list_held-requires-clause-empty
list_held-requires-clause-empty c = c.in-Ok-with_capacity-2.ensures.items

pub list_held-requires-clause-small : goal.list_held-requires-clause-small
list_held-requires-clause-small c = λ p k h. (c.in-Ok-put_all.ensures.growing.small p k h).1

pub invariant_of-result : goal.invariant_of-result
invariant_of-result c =
    let list = map map_in c.list_held.new.moves.items in
    let at = goal.at.invariant_of-result c in
    grown_sub c.args.g.now c.len-2.ensures.group (map_in c.args.e.now ∷ c.args.s.now) (valid at.After-put_all) c.put_all.new.held list (has at.After-list_held (given at.After-put_all)) (omega (arith, c.list_held.ensures.short, length-map c.list_held.new.moves.items map_in, c.len-2.ensures.group.within))

pub returns-clause-some : goal.returns-clause-some
returns-clause-some c =
    let list = map map_in c.list_held.new.moves.items in
    let at = goal.at.returns-clause-some c in
    grown_generated c.args.g.now c.len-2.ensures.group (map_in c.args.e.now ∷ c.args.s.now) (valid at.After-put_all) c.put_all.new.held list (has at.After-list_held (given at.After-put_all))

pub returns-clause-elements : goal.returns-clause-elements
returns-clause-elements c =
    let list = map map_in c.list_held.new.moves.items in
    let at = goal.at.returns-clause-elements c in
    grown_elements c.args.g.now c.len-2.ensures.group (map_in c.args.e.now ∷ c.args.s.now) (valid at.After-put_all) c.put_all.new.held list (has at.After-list_held (given at.After-put_all))
