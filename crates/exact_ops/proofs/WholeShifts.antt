-- The whole shifts of products of elements.
use Rattle.std.proofs.Common.{◌≡◌, ◌≤◌, ◌*◌, ◌↔◌, ℤ, pos, ◌+ℤ◌, unsigned_abs, Bool, IsTrue, List, [], ◌∷◌, sym, subst, ◌∙◌, w32, w64}
use Rattle.lattice_algebra.specs.Matrix.{Matrix, Column, column_of, sum_of_products, ◌·ᶜ◌, ◌+ᶜ◌, times}
use Rattle.lattice_algebra.specs.Operator.{Operator, modulo, product, AreWithin, HasEntriesWithin}
use Rattle.lattice_algebra.specs.Map.{map_of, ◌∘◌, IsShift}
use Rattle.lattice_algebra.proofs.Ring.{var, ◌⊕◌}
use Rattle.lattice_algebra.proofs.Machine.{back, kept, computed}
use Rattle.lattice_algebra.proofs.Maps.{one_shift, IsShift-first, IsShift-next, product-shifted}
use Rattle.exact_ops.specs.declared.TheConstants.{UNIT, MAX_SHIFT}
use Rattle.exact_ops.specs.Narrow.{IsNarrow}
use Rattle.exact_ops.specs.Moves.{map_with, IsShiftInRange}
use Rattle.exact_ops.proofs.Narrow.{some_parts}
use Rattle.exact_ops.proofs.ShiftedImages.{at}

-- ---- an operator after an operator with whole shifts

-- what the code computes from a row, the shifts s and a carry
abbrev pub IsTurned : ℤ → ℤ → ℤ → ℤ → List ℤ → ℤ → Type 0
IsTurned a b c k s r = r ≡ sum_of_products (back w32 a) (back w32 b) (back w32 c) (back w64 (at s 0)) (back w64 (at s 1)) (back w64 (at s 2)) +ℤ back w32 k

turned_is : (a b c k : ℤ) (s : List ℤ) (r : ℤ) → AreWithin 2 a b c → unsigned_abs k ≤ 7 → IsShiftInRange (column_of s) → unsigned_abs r ≤ 7 * MAX_SHIFT → IsTurned a b c k s r → back w64 r ≡ sum_of_products a b c (at s 0) (at s 1) (at s 2) +ℤ k
turned_is a b c k s r h l m n e =
    kept w64 (7 * MAX_SHIFT) r n tt ∙ e
    ∙ λ i. sum_of_products (kept w32 2 a h.first tt i) (kept w32 2 b h.second tt i) (kept w32 2 c h.third tt i) (kept w64 MAX_SHIFT (at s 0) m.first tt i) (kept w64 MAX_SHIFT (at s 1) m.second tt i) (kept w64 MAX_SHIFT (at s 2) m.third tt i) +ℤ kept w32 7 k l tt i

shift_is : (w : Matrix) (k : Column) (s : List ℤ) (x y z : ℤ) → HasEntriesWithin 2 w → AreWithin 7 k.x k.y k.z → IsShiftInRange (column_of s) → AreWithin (7 * MAX_SHIFT) x y z
    → IsTurned w.xx w.xy w.xz k.x s x → IsTurned w.yx w.yy w.yz k.y s y → IsTurned w.zx w.zy w.zz k.z s z → column_of (back w64 x ∷ back w64 y ∷ back w64 z ∷ []) ≡ w ·ᶜ column_of s +ᶜ k
unfolding ◌·ᶜ◌ ◌+ᶜ◌
shift_is w k s x y z h l m n e f g = λ i. record {
  x = turned_is w.xx w.xy w.xz k.x s x h.x l.first m n.first e i;
  y = turned_is w.yx w.yy w.yz k.y s y h.y l.second m n.second f i;
  z = turned_is w.zx w.zy w.zz k.z s z h.z l.third m n.third g i;
}

IsShift-carry : (f g : Operator) (s : List ℤ) (k : Column) → f.w ·ᶜ g.t +ᶜ f.t ≡ modulo UNIT (f.w ·ᶜ g.t +ᶜ f.t) +ᶜ times (pos UNIT) k → IsShift UNIT (map_of f ∘ map_with g s) (f.w ·ᶜ column_of s +ᶜ k)
unfolding ◌∘◌
IsShift-carry f g s k e = IsShift-first UNIT some_parts (map_of f) g k (column_of s) e

pub turned_shift : (f g a b : Operator) (k : Column) (s : List ℤ) (x y z : ℤ) → f ≡ a → g ≡ b → IsNarrow f → f.w ·ᶜ g.t +ᶜ f.t ≡ modulo UNIT (f.w ·ᶜ g.t +ᶜ f.t) +ᶜ times (pos UNIT) k → AreWithin 7 k.x k.y k.z → IsShiftInRange (column_of s) → AreWithin (7 * MAX_SHIFT) x y z
    → IsTurned f.w.xx f.w.xy f.w.xz k.x s x → IsTurned f.w.yx f.w.yy f.w.yz k.y s y → IsTurned f.w.zx f.w.zy f.w.zz k.z s z → IsShift UNIT (map_of a ∘ map_with b s) (column_of (back w64 x ∷ back w64 y ∷ back w64 z ∷ []))
turned_shift f g a b k s x y z p q n e l m o h i j =
    let v = map_of a ∘ map_with b s in
    subst (IsShift UNIT v) (sym (shift_is f.w k s x y z n.within_two l m o h i j))
    (subst (λ u. IsShift UNIT (map_of u ∘ map_with b s) (f.w ·ᶜ column_of s +ᶜ k)) p (subst (λ u. IsShift UNIT (map_of f ∘ map_with u s) (f.w ·ᶜ column_of s +ᶜ k)) q (IsShift-carry f g s k e)))

-- ---- and whole shifts of the next more

-- what the code computes from two shifts
abbrev pub sum : ℤ → ℤ → ℤ
sum a b = back w64 (back w64 a +ℤ back w64 b)

sum_is : (a b : ℤ) → unsigned_abs a ≤ 7 * MAX_SHIFT → unsigned_abs b ≤ MAX_SHIFT → sum a b ≡ a +ℤ b
sum_is a b h k = computed w64 ((7 * MAX_SHIFT) ∷ MAX_SHIFT ∷ []) (a ∷ b ∷ []) (var 0 ⊕ var 1) (h, (k, tt)) tt

-- the sums of two lists of shifts
abbrev pub sums : List ℤ → List ℤ → List ℤ
sums r s = sum (at r 0) (at s 0) ∷ sum (at r 1) (at s 1) ∷ sum (at r 2) (at s 2) ∷ []

sums_are : (r s : List ℤ) → AreWithin (7 * MAX_SHIFT) (at r 0) (at r 1) (at r 2) → IsShiftInRange (column_of s) → column_of (sums r s) ≡ column_of r +ᶜ column_of s
unfolding ◌+ᶜ◌
sums_are r s h k = λ i. record {
  x = sum_is (at r 0) (at s 0) h.first k.first i;
  y = sum_is (at r 1) (at s 1) h.second k.second i;
  z = sum_is (at r 2) (at s 2) h.third k.third i;
}

pub IsShift-sums : (f g : Operator) (r s t : List ℤ) → IsShift UNIT (map_of f ∘ map_with g t) (column_of r) → AreWithin (7 * MAX_SHIFT) (at r 0) (at r 1) (at r 2) → IsShiftInRange (column_of s) → IsShift UNIT (map_with f s ∘ map_with g t) (column_of (sums r s))
IsShift-sums f g r s t e h k = subst (IsShift UNIT (map_with f s ∘ map_with g t)) (sym (sums_are r s h k)) (IsShift-next UNIT some_parts (map_with g t) f (column_of r) (column_of s) e)

-- the test of the computed shift is that of the product's
pub shift_test : (f g : Operator) (l s t : List ℤ) (b : Bool) → IsShift UNIT (map_with f s ∘ map_with g t) (column_of l) → IsTrue b ↔ IsShiftInRange (column_of l) → (k : Column) → IsShift UNIT (map_with f s ∘ map_with g t) k → IsTrue b ↔ IsShiftInRange k
shift_test f g l s t b i h k j = subst (λ c. IsTrue b ↔ IsShiftInRange c) (one_shift UNIT some_parts (map_with f s ∘ map_with g t) (column_of l) k i j) h

pub product_is : (f g h : Operator) (l s t : List ℤ) → h ≡ product UNIT f g → IsShift UNIT (map_with f s ∘ map_with g t) (column_of l) → map_with h l ≡ map_with f s ∘ map_with g t
product_is f g h l s t e i = (λ j. map_with (e j) l) ∙ product-shifted UNIT some_parts f g (column_of s) (column_of t) (column_of l) i
