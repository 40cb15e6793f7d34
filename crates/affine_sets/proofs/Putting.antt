-- How the block of an element is put among those that are held.
use Rattle.std.proofs.Common.{◌≡◌, ◌≢◌, ◌++◌, ◌∷◌, [], ◌<◌, ◌≤◌, ◌+◌, ◌*◌, ◌⊎◌, ℕ, List, Option, None, Some, true, false, length, get_or, slice_get, Contains, All, inl, inr, ⊎_elim, ap, sym, refl, ◌∙◌, subst, arith, length-append}
use Rattle.std.proofs.lemmas.Bool.{cases_lt, false≢true}
use Rattle.std.proofs.lemmas.Bool.Decides.{Decides-int_eq}
use Rattle.std.proofs.lemmas.Option.{none-some, slice_get_within, slice_get_read, slice_get-get_or, get_or_from_slice_get}
use Rattle.std.proofs.lemmas.List.{get_or_append_left}
use Rattle.std.proofs.lemmas.List.Elements.{All-contains, All-push, All-weaker, Contains-append_left, Contains-push}
use Rattle.std.proofs.Math.Seq.{get_or-append_seam}
use Rattle.finite_groups.proofs.Pairs.{AllPairs-append_one}
use Rattle.lattice_algebra.specs.Matrix.{identity}
use Rattle.lattice_algebra.specs.Operator.{Operator, AreWithin}
use Rattle.lattice_algebra.specs.Map.{Map, ◌∘◌}
use Rattle.lattice_algebra.proofs.Equality.{column_eq}
use Rattle.lattice_algebra.proofs.Maps.{∘_assoc, identity-∘}
use Rattle.exact_ops.specs.declared.TheConstants.{MAX_SHIFT}
use Rattle.group_closure.specs.declared.TheConstants.{MAX_OPERATORS}
use Rattle.group_closure.specs.GroupList.{IsGroup}
use Rattle.affine_sets.specs.declared.TheConstants.{MAX_GROWN_SHIFT}
use Rattle.affine_sets.specs.declared.growth.Placed.{Placed}
use Rattle.affine_sets.specs.declared.numbers.Offset.{Offset}
use Rattle.affine_sets.specs.Fields.{offset_in}
use Rattle.affine_sets.specs.Growth.{placed_map, no_shift, Holds, Puts, HoldsMap, IsApart, AreOld, IsInBlock, IsGrowing, Extends}
use Rattle.affine_sets.proofs.KeySizes.{row_wider}
use Rattle.affine_sets.proofs.Placing.{at_place_is}
use Rattle.affine_sets.proofs.PlacedMaps.{identity_place, identity_placed, placed_once, room_for_one}

-- ---- what is held

pub contained_at : (items : List Placed) (i : ℕ) (h : Placed) → slice_get items i ≡ Some h → Contains items h
contained_at items i h e = (i, slice_get_within items i h e, get_or_from_slice_get items i h h e)

pub place_in : (items : List Placed) (h : Placed) → Contains items h → (i : ℕ) × (i < length items) × (slice_get items i ≡ Some h)
place_in items h c = (c.0, c.1, slice_get-get_or items c.0 h c.1 ∙ ap Some c.2)

pub held_more : (members : List Operator) (a b : List (Option Offset)) → ((p : ℕ) (k : Offset) → Holds a p k → Holds b p k) → (e : Map) → HoldsMap members a e → HoldsMap members b e
held_more members a b f e h = (h.0, h.1, f h.0.place h.0.shift h.2, h.3)

-- ---- the block of x

pub in_own_block : (members : List Operator) (old : List Placed) (x : Placed) → IsGroup members → AreOld members old → IsInBlock members old x (placed_map members x)
in_own_block members old x g o =
    (identity_place, contained_at old 0 identity_place o.first, ap (λ v. v ∘ placed_map members x) (identity_placed members g) ∙ identity-∘ (placed_map members x))

-- while it is put: x, and the first i of the old elements after x
pub record IsPutting (members : List Operator) (old : List Placed) (before held : List (Option Offset)) (x : Placed) (i : ℕ) : Type 0 where
  pub keeps : (p : ℕ) (k : Offset) → Holds before p k → Holds held p k
  pub has : Holds held x.place x.shift
  pub done : (j : ℕ) (h : Placed) → j < i → slice_get old j ≡ Some h → HoldsMap members held (placed_map members h ∘ placed_map members x)
  pub only : (p : ℕ) (k : Offset) → Holds held p k → Holds before p k ⊎ IsInBlock members old x (placed_map members (record { place = p; shift = k }))
  pub small : (p : ℕ) (k : Offset) → Holds held p k → (p < length members) × AreWithin MAX_SHIFT k.x k.y k.z

pub same_placed : (p : ℕ) (k : Offset) (y : Placed) → (p ≡ y.place) × (k ≡ y.shift) → y ≡ record { place = p; shift = k }
same_placed p k y e = λ i. record { place = sym e.0 i; shift = sym e.1 i }

-- a shift that is held now was held before or is that of y
put_small : (members : List Operator) (held new : List (Option Offset)) (y : Placed) → ((p : ℕ) (k : Offset) → Holds held p k → (p < length members) × AreWithin MAX_SHIFT k.x k.y k.z) → Puts held new y → y.place < length members → AreWithin MAX_SHIFT y.shift.x y.shift.y y.shift.z
    → (p : ℕ) (k : Offset) → Holds new p k → (p < length members) × AreWithin MAX_SHIFT k.x k.y k.z
put_small members held new y was puts l s p k h =
    ⊎_elim (λ b. was p k b) (λ e. subst (λ (v : Placed). (v.place < length members) × AreWithin MAX_SHIFT v.shift.x v.shift.y v.shift.z) (same_placed p k y e) (l, s)) ((puts p k).0 h)

pub putting_none : (members : List Operator) (old firsts : List Placed) (before held : List (Option Offset)) (x : Placed) → IsGroup members → AreOld members old → IsGrowing members old before firsts → Puts before held x → x.place < length members → AreWithin MAX_SHIFT x.shift.x x.shift.y x.shift.z
    → IsPutting members old before held x 0
putting_none members old firsts before held x g o was puts l s = record {
  keeps = λ p k h. (puts p k).1 (inl h);
  has = (puts x.place x.shift).1 (inr (refl, refl));
  done = λ j h b e. absurd (omega (arith, b));
  only = λ p k h. ⊎_elim (λ b. inl b) (λ e. inr (subst (λ (v : Placed). IsInBlock members old x (placed_map members v)) (same_placed p k x e) (in_own_block members old x g o))) ((puts p k).0 h);
  small = put_small members before held x was.small puts l s;
}

pub putting_more : (members : List Operator) (old : List Placed) (before held new : List (Option Offset)) (x y h : Placed) (i : ℕ) → IsPutting members old before held x i → Puts held new y → slice_get old i ≡ Some h → placed_map members y ≡ placed_map members h ∘ placed_map members x
    → y.place < length members → AreWithin MAX_SHIFT y.shift.x y.shift.y y.shift.z → IsPutting members old before new x (i + 1)
putting_more members old before held new x y h i was puts at value l s =
    let more : (p : ℕ) (k : Offset) → Holds held p k → Holds new p k = λ p k b. (puts p k).1 (inl b) in
    record {
      keeps = λ p k b. more p k (was.keeps p k b);
      has = more x.place x.shift was.has;
      done = λ j f b e. ⊎_elim
          (λ c. held_more members held new more _ (was.done j f c e))
          (λ c.
          let last : j ≡ i = omega (arith, b, c) in
          let same : h ≡ f = sym (get_or_from_slice_get old i h h at) ∙ ap (λ v. get_or old v h) (sym last) ∙ get_or_from_slice_get old j f h e in
          subst (λ (v : Placed). HoldsMap members new (placed_map members v ∘ placed_map members x)) same (y, l, (puts y.place y.shift).1 (inr (refl, refl)), value))
          (cases_lt j i);
      only = λ p k b. ⊎_elim
          (λ c. was.only p k c)
          (λ e. inr (h, contained_at old i h at, sym value ∙ ap (placed_map members) (same_placed p k y e)))
          ((puts p k).0 b);
      small = put_small members held new y was.small puts l s;
    }

-- ---- all of it

pub holds_only : (members : List Operator) (old : List Placed) (before held : List (Option Offset)) (x : Placed) (i : ℕ) → IsPutting members old before held x i → (e : Map) → HoldsMap members held e → HoldsMap members before e ⊎ IsInBlock members old x e
holds_only members old before held x i p e h =
    ⊎_elim (λ b. inl (h.0, h.1, b, h.3)) (λ b. inr (b.0, b.1, b.2 ∙ h.3)) (p.only h.0.place h.0.shift h.2)

block_held : (members : List Operator) (old : List Placed) (before held : List (Option Offset)) (x : Placed) (i : ℕ) → IsPutting members old before held x i → length old ≤ i → (h : Placed) → Contains old h → HoldsMap members held (placed_map members h ∘ placed_map members x)
block_held members old before held x i p l h c = let a = place_in old h c in p.done a.0 h (omega (arith, l, a.1)) a.2

-- an old element after one that is held is held
blocks_stay : (members : List Operator) (old firsts : List Placed) (before held : List (Option Offset)) (x : Placed) (i : ℕ) → AreOld members old → IsGrowing members old before firsts → IsPutting members old before held x i → length old ≤ i
    → (h : Placed) (e : Map) → Contains old h → HoldsMap members held e → HoldsMap members held (placed_map members h ∘ e)
blocks_stay members old firsts before held x i o was p l h e c m =
    let X = placed_map members x in
    let H = placed_map members h in
    ⊎_elim
    (λ b. held_more members before held p.keeps (H ∘ e) (was.blocks h e c b))
    (λ b.
    let K = placed_map members b.0 in
    let r = o.products h b.0 c b.1 in
    subst (HoldsMap members held) (ap (λ v. v ∘ X) r.2 ∙ ∘_assoc H K X ∙ ap (λ v. H ∘ v) b.2) (block_held members old before held x i p l r.0 r.1))
    (holds_only members old before held x i p e m)

-- ---- one more first

pub extends_one : (items : List Placed) (x : Placed) → Extends items (items ++ x ∷ [])
extends_one items x j r e =
    let l = slice_get_within items j r e in
    slice_get_read (items ++ x ∷ []) (length (items ++ x ∷ [])) j r refl (omega (arith, length-append items (x ∷ []), l)) (sym (get_or_append_left items (x ∷ []) r j l ∙ get_or_from_slice_get items j r r e))

-- what stands in a list with one more at its end
pub pushed_cases : (items : List Placed) (x : Placed) (j : ℕ) (r : Placed) → slice_get (items ++ x ∷ []) j ≡ Some r → (slice_get items j ≡ Some r) ⊎ ((j ≡ length items) × (x ≡ r))
pushed_cases items x j r e =
    let l = slice_get_within (items ++ x ∷ []) j r e in
    let at = get_or_from_slice_get (items ++ x ∷ []) j r r e in
    ⊎_elim
    (λ c. inl (slice_get_read items (length items) j r refl c (sym (sym (get_or_append_left items (x ∷ []) r j c) ∙ at))))
    (λ c.
    let last : j ≡ length items = omega (arith, length-append items (x ∷ []), l, c) in
    inr (last, sym (get_or-append_seam items x [] r) ∙ ap (λ v. get_or (items ++ x ∷ []) v r) (sym last) ∙ at))
    (cases_lt j (length items))

near_one : (items : List Placed) (x : Placed) → ((j : ℕ) (r : Placed) → slice_get items j ≡ Some r → AreWithin ((j + 1) * 7000000) r.shift.x r.shift.y r.shift.z) → AreWithin ((length items + 1) * 7000000) x.shift.x x.shift.y x.shift.z
    → (j : ℕ) (r : Placed) → slice_get (items ++ x ∷ []) j ≡ Some r → AreWithin ((j + 1) * 7000000) r.shift.x r.shift.y r.shift.z
near_one items x near s j r e =
    ⊎_elim
    (λ c. near j r c)
    (λ c. subst (λ v. AreWithin ((v + 1) * 7000000) r.shift.x r.shift.y r.shift.z) (sym c.0) (subst (λ (v : Placed). AreWithin ((length items + 1) * 7000000) v.shift.x v.shift.y v.shift.z) c.1 s))
    (pushed_cases items x j r e)

-- x stands at another place than each first
pub other_place : (members : List Operator) (old firsts : List Placed) (before : List (Option Offset)) (x : Placed) → IsGrowing members old before firsts → get_or before x.place None ≡ None → (r : Placed) → Contains firsts r → r.place ≢ x.place
other_place members old firsts before x was fresh r c e =
    none-some r.shift (sym fresh ∙ ap (λ p. get_or before p None) (sym e) ∙ All-contains (λ (v : Placed). Holds before v.place v.shift) firsts r was.firsts_held c)

pub firsts_within : (members : List Operator) (old firsts : List Placed) (before : List (Option Offset)) → IsGrowing members old before firsts → All (λ (r : Placed). r.place < length members) firsts
firsts_within members old firsts before was = All-weaker (λ (r : Placed). Holds before r.place r.shift) (λ (r : Placed). r.place < length members) (λ r h. (was.small r.place r.shift h).0) firsts was.firsts_held

pub room_for_first : (members : List Operator) (old firsts : List Placed) (before : List (Option Offset)) (x : Placed) → IsGrowing members old before firsts → get_or before x.place None ≡ None → x.place < length members → length firsts < length members
room_for_first members old firsts before x was fresh l = room_for_one (length members) firsts x (firsts_within members old firsts before was) was.apart l (other_place members old firsts before x was fresh)

pub put_whole : (members : List Operator) (old firsts : List Placed) (before held : List (Option Offset)) (x : Placed) (i : ℕ) → AreOld members old → IsGrowing members old before firsts → IsPutting members old before held x i → length old ≤ i
    → get_or before x.place None ≡ None → AreWithin ((length firsts + 1) * 7000000) x.shift.x x.shift.y x.shift.z → IsGrowing members old held (firsts ++ x ∷ [])
put_whole members old firsts before held x i o was p l fresh s = record {
  has_old = λ h c. held_more members before held p.keeps _ (was.has_old h c);
  zero = p.keeps 0 _ was.zero;
  small = p.small;
  blocks = blocks_stay members old firsts before held x i o was p l;
  origin = λ e m. ⊎_elim
      (λ b. let r = was.origin e b in (r.0, Contains-append_left firsts (x ∷ []) r.0 r.1, r.2))
      (λ b. (x, Contains-push firsts x, b))
      (holds_only members old before held x i p e m);
  firsts_held = All-push (λ (r : Placed). Holds held r.place r.shift) firsts x (All-weaker (λ (r : Placed). Holds before r.place r.shift) (λ (r : Placed). Holds held r.place r.shift) (λ r h. p.keeps r.place r.shift h) firsts was.firsts_held) p.has;
  apart = AllPairs-append_one (λ (a b : Placed). a.place ≢ b.place) firsts x was.apart (other_place members old firsts before x was fresh);
  near = near_one firsts x was.near s;
}

-- ---- two that stand apart

abbrev pub AreTorn : List Operator → List Placed → List (Option Offset) → Placed → Type 0
AreTorn members old before x = (y z : Map) × (HoldsMap members before y ⊎ IsInBlock members old x y) × IsInBlock members old x z × (y.w ≡ z.w) × (y ≢ z)

pub torn_by : (members : List Operator) (old : List Placed) (before held : List (Option Offset)) (x y : Placed) → IsGroup members → y.place < length members → ((e : Map) → HoldsMap members held e → HoldsMap members before e ⊎ IsInBlock members old x e)
    → IsInBlock members old x (placed_map members y) → IsApart members held y → AreTorn members old before x
torn_by members old before held x y g l only block a =
    (placed_map members a.other, placed_map members y, only (placed_map members a.other) (a.other, a.within, a.held_there, refl), block, a.rotation, λ e. a.differ (placed_once members g a.other y a.within l e))

-- x is not what is held at its place
offset_itself : (a b : Offset) → a ≡ b → column_eq (offset_in a) (offset_in b) ≡ true
offset_itself a b e =
    let x = (Decides-int_eq a.x a.x).1 refl in
    let y = (Decides-int_eq a.y a.y).1 refl in
    let z = (Decides-int_eq a.z a.z).1 refl in
    subst (λ (v : Offset). column_eq (offset_in a) (offset_in v) ≡ true) e (simp (x, y, z))

pub held_apart : (members : List Operator) (held : List (Option Offset)) (x : Placed) (k : Offset) → x.place < length members → Holds held x.place k → column_eq (offset_in k) (offset_in x.shift) ≡ false → IsApart members held x
held_apart members held x k l h d = record {
  other = record { place = x.place; shift = k };
  within = l;
  held_there = h;
  rotation = refl;
  differ = λ e. false≢true (sym d ∙ offset_itself k x.shift (ap (λ (v : Placed). v.shift) e));
}

-- x has the rotation part of the identity, and another place
pub identity_apart : (members : List Operator) (held : List (Option Offset)) (x : Placed) (op : Operator) → IsGroup members → x.place < length members → Holds held 0 no_shift → ((k : Offset) → Holds held x.place k → ⊥) → slice_get members x.place ≡ Some op → op.w ≡ identity → IsApart members held x
identity_apart members held x op g l zero none at w = record {
  other = identity_place;
  within = omega (arith, l);
  held_there = zero;
  rotation = ap (λ (m : Map). m.w) (identity_placed members g) ∙ sym w ∙ sym (ap (λ (m : Map). m.w) (at_place_is members x op at));
  differ = λ e. none no_shift (subst (λ p. Holds held p no_shift) (ap (λ (v : Placed). v.place) e) zero);
}

-- ---- how large the shifts are

pub first_size : (n k : ℕ) (x : Placed) → n < k → k ≤ MAX_OPERATORS → AreWithin ((n + 1) * 7000000) x.shift.x x.shift.y x.shift.z → AreWithin MAX_SHIFT x.shift.x x.shift.y x.shift.z
first_size n k x l m s = row_wider ((n + 1) * 7000000) MAX_SHIFT _ _ _ (omega (arith, l, m)) s

pub old_size : (h : Placed) → AreWithin MAX_GROWN_SHIFT h.shift.x h.shift.y h.shift.z → AreWithin MAX_SHIFT h.shift.x h.shift.y h.shift.z
old_size h s = row_wider MAX_GROWN_SHIFT MAX_SHIFT _ _ _ (omega arith) s

pub block_size : (n k : ℕ) (y : Placed) → n < k → k ≤ MAX_OPERATORS → AreWithin (MAX_GROWN_SHIFT + 6 * ((n + 1) * 7000000) + 8) y.shift.x y.shift.y y.shift.z → AreWithin MAX_SHIFT y.shift.x y.shift.y y.shift.z
block_size n k y l m s = row_wider (MAX_GROWN_SHIFT + 6 * ((n + 1) * 7000000) + 8) MAX_SHIFT _ _ _ (omega (arith, l, m)) s
