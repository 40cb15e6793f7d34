-- The elements of a group that is to grow, by their places: how they are listed and held, and that they are the first block.
use Rattle.std.proofs.Common.{◌≡◌, ◌≢◌, ◌++◌, ◌∷◌, [], ◌+◌, ◌*◌, ◌<◌, ◌≤◌, ◌↔◌, ℕ, Option, Some, None, List, All, AllPairs, Contains, length, map, take, get_or, slice_get, inl, inr, ⊎_elim, le_trans, ap, ap₂, sym, ◌∙◌, subst, arith}
use Rattle.std.proofs.lemmas.Option.{slice_get-get_or, slice_get_within, get_or_from_slice_get}
use Rattle.std.proofs.lemmas.List.{take_more, take_all, map-append, length-map, length-take-le, get_or-map, get_or-take}
use Rattle.std.proofs.lemmas.List.Elements.{All-contains, All-nil, All-cons, All-head, All-tail, Contains-get_or, Contains-append_left, Contains-push, Contains-push_cases}
use Rattle.finite_groups.proofs.Members as lists
use Rattle.lattice_algebra.specs.Matrix.{Column}
use Rattle.lattice_algebra.specs.Operator.{Operator, AreWithin, identity_operator}
use Rattle.lattice_algebra.specs.Map.{Map, ◌∘◌, identity_map, IsShift}
use Rattle.lattice_algebra.proofs.Maps.{∘-identity}
use Rattle.exact_ops.specs.declared.TheConstants.{UNIT}
use Rattle.exact_ops.specs.declared.moves.Move.{Move}
use Rattle.exact_ops.specs.Elements.{map_in}
use Rattle.group_closure.specs.GroupList.{IsGroup}
use Rattle.affine_sets.specs.declared.TheConstants.{MAX_GROWN_SHIFT}
use Rattle.affine_sets.specs.declared.growth.Placed.{Placed}
use Rattle.affine_sets.specs.declared.numbers.Offset.{Offset}
use Rattle.affine_sets.specs.Fields.{offset_in}
use Rattle.affine_sets.specs.Subs.{IsSubList, AreShiftsWithin}
use Rattle.affine_sets.specs.Growth.{placed_map, no_shift, Holds, Puts, HoldsMap, AreHeld, AreOld, IsGrowing}
use Rattle.affine_sets.proofs.Putting.{same_placed}
use Rattle.affine_sets.proofs.PlacedMaps.{placed_shift, placed_once, identity_place, identity_placed}

-- ---- the loop over the elements

no_shift_held : (held : Option Offset) → ((k : Offset) → held ≡ Some k → ⊥) → held ≡ None
no_shift_held None h = λ _. None
no_shift_held (Some k) h = absurd (h k (λ _. Some k))

pub placed_next : (v : Placed → Map) (items : List Move) (old more : List Placed) (i : ℕ) (e d : Move) (x : Placed) → i < length items → e ≡ get_or items i d → more ≡ old ++ x ∷ [] → v x ≡ map_in e → map v old ≡ map map_in (take i items)
    → map v more ≡ map map_in (take (i + 1) items)
placed_next v items old more i e d x l q p h was =
    let next : map map_in (take (i + 1) items) ≡ map map_in (take i items) ++ map_in e ∷ [] =
    ap (map map_in) (take_more items i d l) ∙ map-append map_in (take i items) (get_or items i d ∷ []) ∙ ap (λ y. map map_in (take i items) ++ map_in y ∷ []) (sym q) in
    ap (map v) p ∙ map-append v old (x ∷ []) ∙ ap₂ (λ y z. y ++ z ∷ []) was h ∙ sym next

pub placed_all : (v : Placed → Map) (items inside : List Move) (old : List Placed) (list : List Map) (i : ℕ) → items ≡ inside → map map_in inside ≡ list → length items ≤ i → map v old ≡ map map_in (take i items) → map v old ≡ list
placed_all v items inside old list i e f l h = h ∙ ap (map map_in) (take_all i items l ∙ e) ∙ f

-- no element before stands at the place of the next one, since no two have one rotation part
pub new_place : (members : List Operator) (items : List Move) (old : List Placed) (i : ℕ) (e d : Move) (x : Placed) → AllPairs (λ (a b : Map). a.w ≢ b.w) (map map_in items) → i < length items → e ≡ get_or items i d → placed_map members x ≡ map_in e
    → map (placed_map members) old ≡ map map_in (take i items) → (y : Placed) → Contains old y → y.place ≡ x.place → ⊥
new_place members items old i e d x apart l q is was y c same =
    let v = placed_map members in
    let m = map_in e in
    let long : length old ≡ i = sym (length-map old v) ∙ ap length was ∙ length-map (take i items) map_in ∙ length-take-le i items (omega (arith, l)) in
    let j : c.0 < i = omega (arith, c.1, long) in
    let k : c.0 < length (take i items) = omega (arith, j, length-take-le i items (omega (arith, l))) in
    let here : get_or (map map_in items) c.0 m ≡ v y =
    get_or-map map_in items c.0 d m (omega (arith, j, l)) ∙ ap map_in (sym (get_or-take i items c.0 d j)) ∙ sym (get_or-map map_in (take i items) c.0 d m k) ∙ ap (λ list. get_or list c.0 m) (sym was) ∙ get_or-map v old c.0 y m c.1 ∙ ap v c.2 in
    let there : get_or (map map_in items) i m ≡ v x = get_or-map map_in items i d m l ∙ ap map_in (sym q) ∙ sym is in
    apart c.0 i m j (omega (arith, l, length-map items map_in)) (ap (λ (f : Map). f.w) here ∙ ap (λ p. (get_or members p identity_operator).w) same ∙ sym (ap (λ (f : Map). f.w) there))

pub held_next : (old more : List Placed) (held new : List (Option Offset)) (x : Placed) → more ≡ old ++ x ∷ [] → Puts held new x → AreHeld old held → AreHeld more new
held_next old more held new x e puts was p k = subst (λ list. Holds new p k ↔ Contains list (record { place = p; shift = k })) (sym e) (
  (λ h. ⊎_elim
      (λ o. Contains-append_left old (x ∷ []) _ ((was p k).0 o))
      (λ s. subst (Contains (old ++ x ∷ [])) (same_placed p k x s) (Contains-push old x))
      ((puts p k).0 h)),
  (λ c. (puts p k).1 (⊎_elim
      (λ d. inl ((was p k).1 d))
      (λ y. inr (ap (λ (z : Placed). z.place) (sym y), ap (λ (z : Placed). z.shift) (sym y)))
      (Contains-push_cases old x _ c))),
)

-- nothing is held at a place at which none of these stands
pub none_there : (old : List Placed) (held : List (Option Offset)) (x : Placed) → AreHeld old held → ((y : Placed) → Contains old y → y.place ≡ x.place → ⊥) → get_or held x.place None ≡ None
none_there old held x are new = no_shift_held (get_or held x.place None) (λ k h. new (record { place = x.place; shift = k }) ((are x.place k).0 h) (λ _. x.place))

-- ---- the first block

abbrev pub IsWithin : ℕ → Map → Type 0
IsWithin size e = (k : Column) → IsShift UNIT e k → AreWithin size k.x k.y k.z

pub first_shift : (size : ℕ) (e : Map) (list : List Map) → AreShiftsWithin size (e ∷ list) → IsWithin size e
first_shift size e list h = All-head (IsWithin size) e list h

pub rest_shifts : (size : ℕ) (e : Map) (list : List Map) → AreShiftsWithin size (e ∷ list) → AreShiftsWithin size list
rest_shifts size e list h = All-tail (IsWithin size) e list h

pub shift_within : (size : ℕ) (members : List Operator) → IsGroup members → (x : Placed) (e : Map) → x.place < length members → placed_map members x ≡ e → IsWithin size e → AreWithin size x.shift.x x.shift.y x.shift.z
shift_within size members g x e l is h = h (offset_in x.shift) (subst (λ v. IsShift UNIT v (offset_in x.shift)) is (placed_shift members g x l))

-- the elements of the group by their places
pub record AreAt (members : List Operator) (list : List Map) (old : List Placed) : Type 0 where
  pub maps : map (placed_map members) old ≡ list
  pub within : All (λ (x : Placed). x.place < length members) old

pub are_at : (members : List Operator) (list : List Map) (old lent : List Placed) → lent ≡ old → map (placed_map members) old ≡ list → All (λ (x : Placed). x.place < length members) old → AreAt members list lent
are_at members list old lent e m w = record { maps = ap (map (placed_map members)) e ∙ m; within = subst (All (λ (x : Placed). x.place < length members)) (sym e) w }

module _ (members : List Operator) (g : IsGroup members) (list : List Map) (s : IsSubList list) (old : List Placed) (a : AreAt members list old) where
  open a use {maps, within}

  at_old : (h : Placed) → Contains old h → h.place < length members
  at_old h c = All-contains (λ (x : Placed). x.place < length members) old h within c

  in_list : (h : Placed) → Contains old h → Contains list (placed_map members h)
  in_list h c = subst (λ v. Contains v (placed_map members h)) maps (lists.Contains-map (placed_map members) h old c)

  from_list : (e : Map) → Contains list e → (h : Placed) × Contains old h × (placed_map members h ≡ e)
  from_list e c = lists.Contains-from_map (placed_map members) e old (subst (λ v. Contains v e) (sym maps) c)

  first_old : slice_get old 0 ≡ Some identity_place
  first_old =
      let l : 0 < length old = omega (arith, slice_get_within list 0 identity_map s.first, ap length maps, length-map old (placed_map members)) in
      let x = get_or old 0 identity_place in
      let is : placed_map members x ≡ identity_map =
      sym (get_or-map (placed_map members) old 0 identity_place identity_map l) ∙ ap (λ v. get_or v 0 identity_map) maps ∙ get_or_from_slice_get list 0 identity_map identity_map s.first in
      let same : x ≡ identity_place = placed_once members g x identity_place (at_old x (Contains-get_or old 0 identity_place l)) (slice_get_within members 0 identity_operator g.first) (is ∙ sym (identity_placed members g)) in
      slice_get-get_or old 0 identity_place l ∙ ap Some same

  products_old : (a b : Placed) → Contains old a → Contains old b → (h : Placed) × Contains old h × (placed_map members h ≡ placed_map members a ∘ placed_map members b)
  products_old a b p q = from_list (placed_map members a ∘ placed_map members b) (s.products (placed_map members a) (placed_map members b) (in_list a p) (in_list b q))

  pub are_old : AreShiftsWithin MAX_GROWN_SHIFT list → AreOld members old
  are_old small = record {
    first = first_old;
    within = within;
    size = λ j d l.
        let h = get_or old j d in
        let c = Contains-get_or old j d l in
        shift_within MAX_GROWN_SHIFT members g h (placed_map members h) (at_old h c) (λ _. placed_map members h) (All-contains (IsWithin MAX_GROWN_SHIFT) list (placed_map members h) small (in_list h c));
    products = products_old;
  }

  module _ (o : AreOld members old) (held : List (Option Offset)) (are : AreHeld old held) where
    holds_old : (h : Placed) → Contains old h → HoldsMap members held (placed_map members h)
    holds_old h c = (h, at_old h c, (are h.place h.shift).1 c, λ _. placed_map members h)

    first_growing : IsGrowing members old held (identity_place ∷ [])
    first_growing =
        let here : Contains old identity_place = (0, slice_get_within old 0 identity_place o.first, get_or_from_slice_get old 0 identity_place identity_place o.first) in
        let identity_held = (are 0 no_shift).1 here in
        record {
          has_old = holds_old;
          zero = identity_held;
          small = λ p k h.
              let c = (are p k).0 h in
              let w = All-contains (λ (x : Placed). AreWithin MAX_GROWN_SHIFT x.shift.x x.shift.y x.shift.z) old _ o.size c in
              (at_old _ c, record { first = le_trans w.first (omega arith); second = le_trans w.second (omega arith); third = le_trans w.third (omega arith) });
          blocks = λ h e c r.
              let y = o.products h r.0 c ((are r.0.place r.0.shift).0 r.2) in
              subst (HoldsMap members held) (y.2 ∙ ap (λ m. placed_map members h ∘ m) r.3) (holds_old y.0 y.1);
          origin = λ e r. (
            identity_place,
            lists.Contains-here identity_place [],
            (r.0, (are r.0.place r.0.shift).0 r.2, ap (λ m. placed_map members r.0 ∘ m) (identity_placed members g) ∙ ∘-identity (placed_map members r.0) ∙ r.3),
          );
          firsts_held = All-cons (λ (r : Placed). Holds held r.place r.shift) identity_place [] identity_held (All-nil _);
          apart = λ i j d l m. absurd (omega (arith, l, m));
          near = λ j r e.
              let l = slice_get_within (identity_place ∷ []) j r e in
              let z : j ≡ 0 = omega (arith, l) in
              let q : identity_place ≡ r = ap (λ k. get_or (identity_place ∷ []) k identity_place) (sym z) ∙ get_or_from_slice_get (identity_place ∷ []) j r identity_place e in
              subst (λ (x : Placed). AreWithin ((j + 1) * 7000000) x.shift.x x.shift.y x.shift.z) q (record { first = omega arith; second = omega arith; third = omega arith });
        }

    -- where this is the list that the code makes of it
    pub begun : (inside firsts more : List Placed) (x : Placed) → old ≡ inside → firsts ≡ [] → more ≡ firsts ++ x ∷ [] → x ≡ get_or inside 0 x → IsGrowing members old held more
    begun inside firsts more x same none push read =
        let first : x ≡ identity_place = read ∙ ap (λ v. get_or v 0 x) (sym same) ∙ get_or_from_slice_get old 0 identity_place x o.first in
        subst (IsGrowing members old held) (sym (push ∙ ap (λ v. v ++ x ∷ []) none ∙ ap (λ v. v ∷ []) first)) first_growing
