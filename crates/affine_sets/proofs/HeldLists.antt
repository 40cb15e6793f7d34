-- The list of what is held, in the order of the members.
use Rattle.std.proofs.Common.{◌≡◌, ◌++◌, ◌∷◌, [], ◌+◌, ◌<◌, ◌≤◌, ℕ, Option, Some, None, List, Contains, length, map, slice_get, slice_index_or, ap, sym, ◌∙◌, subst}
use Rattle.std.proofs.lemmas.Option.{none-some, same_Some}
use Rattle.std.proofs.lemmas.List.{map-append}
use Rattle.lattice_algebra.specs.Matrix.{column_of}
use Rattle.lattice_algebra.specs.Operator.{Operator}
use Rattle.lattice_algebra.specs.Map.{Map, operator_of}
use Rattle.lattice_algebra.proofs.Maps.{shifted}
use Rattle.exact_ops.specs.declared.TheConstants.{UNIT}
use Rattle.exact_ops.specs.declared.moves.Move.{Move}
use Rattle.exact_ops.specs.Elements.{map_in}
use Rattle.group_closure.specs.GroupList.{IsGroup}
use Rattle.group_closure.proofs.Places.{one_place}
use Rattle.affine_sets.specs.declared.growth.Placed.{Placed}
use Rattle.affine_sets.specs.declared.numbers.Offset.{Offset}
use Rattle.affine_sets.specs.Fields.{offset_in}
use Rattle.affine_sets.specs.Growth.{placed_map, HoldsMap, AreListed}
use Rattle.affine_sets.proofs.Picked.{ArePicked, one_picked, no_picked, picked_exactly}
use Rattle.affine_sets.proofs.Placing.{at_place_is}
use Rattle.affine_sets.proofs.PlacedMaps.{placed_operator, placed_element}

module _ (members : List Operator) (g : IsGroup members) (held : List (Option Offset)) where
  -- the place of what is held of the member at i is i
  place_is : (i : ℕ) (t : Map) → slice_get members i ≡ Some (operator_of UNIT t) → (h : HoldsMap members held t) → h.0.place ≡ i
  place_is i t at h = one_place members (operator_of UNIT t) h.0.place i g.distinct (placed_operator members g h.0 h.1 ∙ ap (λ v. Some (operator_of UNIT v)) h.3) at

  -- one more member, of which a shift is held
  one_held : (i : ℕ) (k : Offset) (list : List Map) → i < length members → ArePicked members (HoldsMap members held) i list → slice_index_or held i None ≡ Some k
      → ArePicked members (HoldsMap members held) (i + 1) (list ++ placed_map members (record { place = i; shift = k }) ∷ [])
  one_held i k list l was e =
      let x : Placed = record { place = i; shift = k } in
      let s = placed_map members x in
      let at = placed_operator members g x l in
      one_picked members (HoldsMap members held) i list s g was at (x, l, e, λ _. s) (λ t q h.
      let p = place_is i t (at ∙ ap Some (sym q)) h in
      let shift : h.0.shift ≡ k = same_Some h.0.shift k (sym h.2 ∙ ap (λ j. slice_index_or held j None) p ∙ e) in
      let same : h.0 ≡ x = λ j. record { place = p j; shift = shift j } in
      sym (ap (placed_map members) same) ∙ h.3)

  pub one_listed : (i : ℕ) (k : Offset) (items more : List Move) (m : Move) → more ≡ items ++ m ∷ [] → slice_get members i ≡ Some m.op → column_of m.shift ≡ offset_in k → i < length members → ArePicked members (HoldsMap members held) i (map map_in items)
      → slice_index_or held i None ≡ Some k → ArePicked members (HoldsMap members held) (i + 1) (map map_in more)
  one_listed i k items more m e at shift l was h =
      let x : Placed = record { place = i; shift = k } in
      let is : placed_map members x ≡ map_in m = at_place_is members x m.op at ∙ ap (shifted UNIT m.op) (sym shift) in
      let maps : map map_in more ≡ map map_in items ++ map_in m ∷ [] = ap (map map_in) e ∙ map-append map_in items (m ∷ []) in
      subst (ArePicked members (HoldsMap members held) (i + 1)) (ap (λ s. map map_in items ++ s ∷ []) is ∙ sym maps) (one_held i k (map map_in items) l was h)

  -- and one of which none is held
  pub none_held : (i : ℕ) (f : Operator) (list : List Map) → ArePicked members (HoldsMap members held) i list → slice_get members i ≡ Some f → slice_index_or held i None ≡ None → ArePicked members (HoldsMap members held) (i + 1) list
  none_held i f list was at e =
      no_picked members (HoldsMap members held) i list f was at (λ t q h. none-some h.0.shift (sym e ∙ ap (λ j. slice_index_or held j None) (sym (place_is i t (at ∙ ap Some (sym q)) h)) ∙ h.2))

  pub all_listed : (i : ℕ) (list : List Map) → length members ≤ i → ArePicked members (HoldsMap members held) i list → AreListed members held list
  all_listed i list l h = record {
    exactly = λ e. (
      (λ c. ((h.exactly e).0 c).3),
      (λ r. (picked_exactly members (HoldsMap members held) i list l h e).1 (subst (Contains members) (ap (operator_of UNIT) r.3) (placed_element members g r.0 r.1), r)),
    );
    ordered = h.ordered;
  }

  pub listed_picked : (list : List Map) → AreListed members held list → ArePicked members (HoldsMap members held) (length members) list
  listed_picked list h = record {
    exactly = λ e. (
      (λ c. let r = (h.exactly e).0 c in (r.0.place, r.1, placed_operator members g r.0 r.1 ∙ ap (λ v. Some (operator_of UNIT v)) r.3, r)),
      (λ r. (h.exactly e).1 r.3),
    );
    ordered = h.ordered;
  }
