-- The product of two elements that are kept by their places.
use Rattle.std.proofs.Common.{◌≡◌, ◌++◌, ◌∷◌, ◌≤◌, ◌+◌, ◌*◌, ℕ, ℤ, pos, ◌+ℤ◌, ◌*ℤ◌, unsigned_abs, w64, List, Some, slice_get, get_or, ap, ap₂, sym, refl, ◌∙◌, arith}
use Rattle.std.proofs.lemmas.Int.{ints}
use Rattle.std.proofs.lemmas.Option.{get_or_from_slice_get}
use Rattle.lattice_algebra.specs.Matrix.{Matrix, Column, entries, coordinates, ◌·ᶜ◌, ◌+ᶜ◌, times}
use Rattle.lattice_algebra.specs.Operator.{Operator, AreWithin, HasEntriesWithin, AreParts, modulo, product, identity_operator}
use Rattle.lattice_algebra.specs.Map.{◌∘◌, map_of, IsShift}
use Rattle.lattice_algebra.proofs.Ring.{var}
use Rattle.lattice_algebra.proofs.MatrixRing.{matrix_at, column_at, ◌·ˢᶜ◌, ◌+ˢᶜ◌, sym_times, column_ring}
use Rattle.lattice_algebra.proofs.Maps.{map_path, shifted}
use Rattle.lattice_algebra.proofs.Remainders.{modulo_same, modulo_parts}
use Rattle.exact_ops.specs.declared.TheConstants.{UNIT, MAX_SHIFT}
use Rattle.lattice_algebra.proofs.Machine.{back, kept}
use Rattle.lattice_algebra.proofs.Numbers.{abs_add}
use Rattle.exact_ops.proofs.Narrow.{some_parts}
use Rattle.affine_sets.specs.declared.growth.Placed.{Placed}
use Rattle.affine_sets.specs.declared.numbers.Offset.{Offset}
use Rattle.affine_sets.specs.Fields.{offset_in}
use Rattle.affine_sets.specs.Growth.{placed_map}
use Rattle.affine_sets.proofs.KeySizes.{sum_of_within, times_within, parts_within, equal_within}
use Rattle.affine_sets.proofs.ImageFixers.{image_within}

-- the operator at the place of x
abbrev pub at_place : List Operator → Placed → Operator
at_place members x = get_or members x.place identity_operator

pub at_place_is : (members : List Operator) (x : Placed) (f : Operator) → slice_get members x.place ≡ Some f → placed_map members x ≡ shifted UNIT f (offset_in x.shift)
at_place_is members x f e = ap (λ (g : Operator). shifted UNIT g (offset_in x.shift)) (get_or_from_slice_get members x.place f identity_operator e)

-- W (t + u k) + v = (W t + v) + u W k
inner_form : (w : Matrix) (t v k : Column) (u : ℤ) → w ·ᶜ (t +ᶜ times u k) +ᶜ v ≡ (w ·ᶜ t +ᶜ v) +ᶜ times u (w ·ᶜ k)
unfolding ◌·ᶜ◌ ◌+ᶜ◌ times
inner_form w t v k u =
    let U = var 0 in
    let W = matrix_at 1 in
    let T = column_at 10 in
    let V = column_at 13 in
    let K = column_at 16 in
    column_ring (u ∷ (entries w ++ (coordinates t ++ (coordinates v ++ coordinates k)))) (W ·ˢᶜ (T +ˢᶜ sym_times U K) +ˢᶜ V) ((W ·ˢᶜ T +ˢᶜ V) +ˢᶜ sym_times U (W ·ˢᶜ K)) tt

outer_form : (a v j k : Column) (u : ℤ) → a +ᶜ times u (k +ᶜ j) ≡ (a +ᶜ times u k) +ᶜ times u j
unfolding ◌+ᶜ◌ times
outer_form a v j k u =
    let U = var 0 in
    column_ring (u ∷ (coordinates a ++ (coordinates j ++ coordinates k))) (column_at 1 +ˢᶜ sym_times U (column_at 7 +ˢᶜ column_at 4)) ((column_at 1 +ˢᶜ sym_times U (column_at 7)) +ˢᶜ sym_times U (column_at 4)) tt

split_form : (w : Matrix) (x v j : Column) (u : ℤ) → (w ·ᶜ x +ᶜ v) +ᶜ times u j ≡ w ·ᶜ x +ᶜ (v +ᶜ times u j)
unfolding ◌·ᶜ◌ ◌+ᶜ◌ times
split_form w x v j u =
    let U = var 0 in
    let W = matrix_at 1 in
    column_ring (u ∷ (entries w ++ (coordinates x ++ (coordinates v ++ coordinates j)))) ((W ·ˢᶜ column_at 10 +ˢᶜ column_at 13) +ˢᶜ sym_times U (column_at 16)) (W ·ˢᶜ column_at 10 +ˢᶜ (column_at 13 +ˢᶜ sym_times U (column_at 16))) tt

-- f with the whole shift j after g with the whole shift k, where r is the whole shift of f after the latter
pub product_shifted : (f g : Operator) (j k r : Column) → IsShift UNIT (map_of f ∘ shifted UNIT g k) r → shifted UNIT (product UNIT f g) (r +ᶜ j) ≡ shifted UNIT f j ∘ shifted UNIT g k
unfolding ◌∘◌ product
product_shifted f g j k r h =
    let inside = f.w ·ᶜ (g.t +ᶜ times (pos UNIT) k) +ᶜ f.t in
    let same : modulo UNIT inside ≡ modulo UNIT (f.w ·ᶜ g.t +ᶜ f.t) = modulo_same UNIT some_parts inside (f.w ·ᶜ g.t +ᶜ f.t) (f.w ·ᶜ k) (inner_form f.w g.t f.t k (pos UNIT)) in
    map_path _ _ refl
    (outer_form (modulo UNIT (f.w ·ᶜ g.t +ᶜ f.t)) f.t j r (pos UNIT) ∙ ap (λ v. (v +ᶜ times (pos UNIT) r) +ᶜ times (pos UNIT) j) (sym same) ∙ ap (λ v. v +ᶜ times (pos UNIT) j) (sym h) ∙ split_form f.w (g.t +ᶜ times (pos UNIT) k) f.t j (pos UNIT))

-- ---- how large the whole shift is

cells : (n : ℕ) (s m r : ℤ) → s ≡ m +ℤ pos UNIT *ℤ r → unsigned_abs s ≤ UNIT * (6 * n) + 7 * UNIT → unsigned_abs m ≤ UNIT → unsigned_abs r ≤ 6 * n + 8
cells n s m r e p q = omega (arith, ints)

pub shift_size : (f g : Operator) (k r : Column) (n : ℕ) → HasEntriesWithin 2 f.w → AreParts UNIT f.t → AreParts UNIT g.t → AreWithin n k.x k.y k.z → IsShift UNIT (map_of f ∘ shifted UNIT g k) r → AreWithin (6 * n + 8) r.x r.y r.z
unfolding ◌∘◌ ◌+ᶜ◌ times
shift_size f g k r n narrow a b w h =
    let u = pos UNIT in
    let inner = g.t +ᶜ times u k in
    let m = modulo UNIT (f.w ·ᶜ inner +ᶜ f.t) in
    let x = sum_of_within UNIT (UNIT * n) g.t (times u k) (parts_within UNIT g.t b) (times_within UNIT n k w) in
    let y = image_within (UNIT + UNIT * n) f.w inner narrow x in
    let s = sum_of_within (6 * (UNIT + UNIT * n)) UNIT (f.w ·ᶜ inner) f.t y (parts_within UNIT f.t a) in
    let q = parts_within UNIT m (modulo_parts UNIT some_parts (f.w ·ᶜ inner +ᶜ f.t)) in
    let l : 6 * (UNIT + UNIT * n) + UNIT ≤ UNIT * (6 * n) + 7 * UNIT = omega arith in
    let z = equal_within (6 * (UNIT + UNIT * n) + UNIT) (UNIT * (6 * n) + 7 * UNIT) (f.w ·ᶜ inner +ᶜ f.t) (f.w ·ᶜ inner +ᶜ f.t) refl l s in
    record {
      first = cells n _ m.x r.x (ap (λ (c : Column). c.x) h) z.first q.first;
      second = cells n _ m.y r.y (ap (λ (c : Column). c.y) h) z.second q.second;
      third = cells n _ m.z r.z (ap (λ (c : Column). c.z) h) z.third q.third;
    }

-- ---- the whole shift as it is computed

passed_sum : (x k : ℤ) → unsigned_abs x ≤ 7 * MAX_SHIFT → unsigned_abs k ≤ MAX_SHIFT → back w64 (back w64 x +ℤ back w64 k) ≡ x +ℤ k
passed_sum x k p q = ap (back w64) (ap₂ (λ a b. a +ℤ b) (kept w64 (7 * MAX_SHIFT) x p tt) (kept w64 MAX_SHIFT k q tt)) ∙ kept w64 (8 * MAX_SHIFT) (x +ℤ k) (omega (arith, abs_add x k, p, q)) tt

pub added_shift : (r : Column) (k : Offset) → AreWithin (7 * MAX_SHIFT) r.x r.y r.z → AreWithin MAX_SHIFT k.x k.y k.z
    → record { x = back w64 (back w64 r.x +ℤ back w64 k.x); y = back w64 (back w64 r.y +ℤ back w64 k.y); z = back w64 (back w64 r.z +ℤ back w64 k.z) } ≡ r +ᶜ offset_in k
unfolding ◌+ᶜ◌
added_shift r k p q = λ i. record { x = passed_sum r.x k.x p.first q.first i; y = passed_sum r.y k.y p.second q.second i; z = passed_sum r.z k.z p.third q.third i }

pub passed_offset : (k : Offset) → AreWithin MAX_SHIFT k.x k.y k.z → record { x = back w64 k.x; y = back w64 k.y; z = back w64 k.z } ≡ offset_in k
passed_offset k h = λ i. record { x = kept w64 MAX_SHIFT k.x h.first tt i; y = kept w64 MAX_SHIFT k.y h.second tt i; z = kept w64 MAX_SHIFT k.z h.third tt i }

pub product_placed : (members : List Operator) (a b : Placed) (f g h : Operator) (x : Placed) (r : Column) → slice_get members a.place ≡ Some f → slice_get members b.place ≡ Some g → slice_get members x.place ≡ Some h → h ≡ product UNIT f g → offset_in x.shift ≡ r +ᶜ offset_in a.shift
    → IsShift UNIT (map_of f ∘ shifted UNIT g (offset_in b.shift)) r → placed_map members x ≡ placed_map members a ∘ placed_map members b
product_placed members a b f g h x r p q s e t i =
    at_place_is members x h s ∙ ap₂ (λ (v : Operator) k. shifted UNIT v k) e t ∙ product_shifted f g (offset_in a.shift) (offset_in b.shift) r i
    ∙ ap₂ (λ u v. u ∘ v) (sym (at_place_is members a f p)) (sym (at_place_is members b g q))
