use Rattle.std.proofs.Common.{◌≡◌, ◌≢◌, ◌<◌, All, AllPairs, Contains, length, map, ap, sym, ◌∙◌, subst, arith}
use Rattle.std.proofs.lemmas.List.{length-map}
use Rattle.std.proofs.lemmas.List.Elements.{All-contains, All-nil, All-push}
use Rattle.finite_groups.proofs.Members as lists
use Rattle.lattice_algebra.specs.Map.{Map}
use Rattle.exact_ops.specs.declared.TheConstants.{UNIT}
use Rattle.exact_ops.specs.Elements.{map_in}
use Rattle.space_groups.specs.Space.{IsElement}
use Rattle.affine_sets.specs.declared.growth.Placed.{Placed}
use Rattle.affine_sets.specs.Growth.{placed_map}
use Rattle.affine_sets.specs.Subs.{IsSubList}
use Rattle.affine_sets.proofs.NearSets.{item_in}
use Rattle.affine_sets.proofs.FirstBlock.{placed_next, placed_all, new_place, held_next, none_there}
use Rattle.affine_sets.proofs.growth.hold_elements.Goals.{After-with_place-x}
use Rattle.affine_sets.proofs.growth.hold_elements.Goals as goal

pub loop-element-init : goal.loop-element-init
loop-element-init c =
    let none = c.requires.empty in
    record {
      maps = ap (map (placed_map c.args.g.now)) none;
      within = subst (All (λ (x : Placed). x.place < length c.args.g.now)) (sym none) (All-nil (λ (x : Placed). x.place < length c.args.g.now));
      held = λ p k. ((λ h. absurd (c.requires.none p k h)), (λ m. lists.not_in_nil (record { place = p; shift = k }) (subst (λ v. Contains v (record { place = p; shift = k })) none m)));
      short = omega (arith, c.args.old.now.ok.0, ap length none);
      room = omega (arith, c.requires.room, c.deref-element-items.ensures.len, ap length c.s.view_is, length-map c.s.inside.moves.items map_in);
    }

pub offset_bounds-element-items-element-index : goal.offset_bounds-element-items-element-index
offset_bounds-element-items-element-index c =
    let s = subst IsSubList c.s.view_is c.s.invariant in
    omega (arith, s.within, c.loop-element-test.true, c.deref-element-items.ensures.len, ap length c.s.view_is, length-map c.s.inside.moves.items map_in)

pub with_place-x-requires : goal.with_place-x-requires
with_place-x-requires c =
    let e = c.element-item.result in
    let m = item_in c.deref-element-items.result.now c.s.inside.moves.items c.args.s.now c.loop-element.element-index e c.deref-element-items.ensures.value c.s.view_is c.loop-element-test.true c.element-item.is in
    All-contains (IsElement UNIT c.args.g.now) c.args.s.now (map_in e) c.requires.elements m

-- no element before stands at its place
new : (c : After-with_place-x) → (y : Placed) → Contains c.loop-element.old.items y → y.place ≡ c.with_place-x.result.place → ⊥
new c =
    let items = c.deref-element-items.result.now in
    let s = subst IsSubList c.s.view_is c.s.invariant in
    let all : map map_in items ≡ c.args.s.now = ap (map map_in) c.deref-element-items.ensures.value ∙ c.s.view_is in
    let apart = subst (AllPairs (λ (a b : Map). a.w ≢ b.w)) (sym all) s.apart in
    let e = c.element-item.result in
    new_place c.args.g.now items c.loop-element.old.items c.loop-element.element-index e e c.with_place-x.result apart c.loop-element-test.true c.element-item.is c.with_place-x.ensures.value c.loop-element.invariant.maps

pub hold-requires-clause-room : goal.hold-requires-clause-room
hold-requires-clause-room c = omega (arith, c.with_place-x.ensures.within, c.requires.group.within)

pub hold-requires-clause-fresh : goal.hold-requires-clause-fresh
hold-requires-clause-fresh c = none_there c.loop-element.old.items c.loop-element.held c.with_place-x.result c.loop-element.invariant.held (new (goal.at.hold-requires-clause-fresh c).After-with_place-x)

pub push_reserved-requires : goal.push_reserved-requires
push_reserved-requires c = omega (arith, c.loop-element.invariant.short, c.loop-element.invariant.room, c.loop-element-test.true)

pub loop-element-preserved : goal.loop-element-preserved
loop-element-preserved c =
    let g = c.args.g.now in
    let was = c.loop-element.invariant in
    let x = c.with_place-x.result in
    let e = c.element-item.result in
    let i = c.loop-element.element-index in
    let items = c.deref-element-items.result.now in
    let more = c.push_reserved.ensures.items in
    record {
      maps = placed_next (placed_map g) items c.loop-element.old.items c.push_reserved.new.self.items i e e x c.loop-element-test.true c.element-item.is more c.with_place-x.ensures.value was.maps;
      within = subst (All (λ (y : Placed). y.place < length g)) (sym more) (All-push (λ (y : Placed). y.place < length g) c.loop-element.old.items x was.within c.with_place-x.ensures.within);
      held = held_next c.loop-element.old.items c.push_reserved.new.self.items c.loop-element.held c.hold.new.self x more c.hold.ensures was.held;
      short = omega (arith, c.push_reserved.ensures.len, was.short);
      room = omega (arith, c.push_reserved.ensures.capacity, was.room);
    }

pub returns-clause-maps : goal.returns-clause-maps
returns-clause-maps c = placed_all (placed_map c.args.g.now) c.deref-element-items.result.now c.s.inside.moves.items c.loop-element.old.items c.args.s.now c.loop-element.element-index c.deref-element-items.ensures.value c.s.view_is c.loop-element-test.false c.loop-element.invariant.maps

pub returns-clause-within : goal.returns-clause-within
returns-clause-within c = c.loop-element.invariant.within

pub returns-clause-held : goal.returns-clause-held
returns-clause-held c = c.loop-element.invariant.held
