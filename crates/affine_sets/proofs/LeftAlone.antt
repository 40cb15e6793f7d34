-- The elements that fix every point of the image of an average: those that leave it alone.
use Rattle.std.proofs.Common.{get_or, ◌≡◌, ◌++◌, ◌∷◌, [], ◌≤◌, ◌<◌, ◌+◌, ◌*◌, ℕ, suc, ℤ, pos, ◌+ℤ◌, ◌*ℤ◌, unsigned_abs, List, length, ap, sym, ◌∙◌, subst, arith, mul-le-mul, le_refl}
use Rattle.std.proofs.lemmas.Int.{ints, unsigned_abs-mul}
use Rattle.std.proofs.lemmas.List.Elements.{Contains-get_or, All-head, All-tail}
use native.Mathlib.Nat.{le_of_mul-le-mul_left}
use Rattle.lattice_algebra.specs.Matrix.{Matrix, Column, entries, coordinates, ◌·◌, ◌·ᶜ◌, ◌+ᶜ◌, neg_column, times}
use Rattle.lattice_algebra.specs.Operator.{Operator, AreWithin, AreParts, modulo}
use Rattle.lattice_algebra.specs.Map.{Map, ◌∘◌, operator_of, IsShift}
use Rattle.lattice_algebra.proofs.Ring.{var}
use Rattle.lattice_algebra.proofs.MatrixRing.{matrix_at, column_at, ◌·ˢᶜ◌, ◌+ˢᶜ◌, sym_times, sym_neg, column_ring}
use Rattle.lattice_algebra.proofs.Numbers.{abs_add}
use Rattle.lattice_algebra.proofs.Remainders.{modulo_parts, whole_part}
use Rattle.exact_ops.specs.declared.TheConstants.{UNIT}
use Rattle.exact_ops.proofs.Narrow.{some_parts, AreWithin-parts}
use Rattle.group_closure.specs.declared.TheConstants.{MAX_OPERATORS}
use Rattle.group_closure.specs.GroupList.{IsGroup}
use Rattle.space_groups.specs.Space.{ScaledPoint, moved}
use Rattle.space_groups.specs.Averages.{Block, block_of, block_plus, block_times, block_scaled, sum_of}
use Rattle.space_groups.specs.Search.{IsFull}
use Rattle.space_groups.proofs.Blocks.{block_of-∘, block_times_assoc, identity_times, block_path, number_times}
use Rattle.space_groups.proofs.Means as means
use Rattle.space_groups.proofs.Means.{Averaged}
use Rattle.space_groups.proofs.Sites.{image_of_base}
use Rattle.space_groups.proofs.Divided.{one_rotation}
use Rattle.space_groups.proofs.Rows.{some_members}
use Rattle.site_symmetry.proofs.SpaceOfGroup.{space_of}
use Rattle.affine_sets.specs.declared.TheConstants.{MAX_GROWN_SHIFT}
use Rattle.affine_sets.specs.Subs.{AreElements, IsSubList, AreShiftsWithin}
use Rattle.affine_sets.specs.Conditions.{IsAverage, IsNearAverage, LeavesAlone}
use Rattle.affine_sets.proofs.Groups.{averaged_list}
use Rattle.affine_sets.proofs.Picked.{ArePicked, picked_exactly, picked_apart, sub_list}

-- ---- equations of one element

-- n s = t - W t
left_column : (w : Matrix) (t s : Column) (n : ℤ) → t +ᶜ neg_column (w ·ᶜ t) ≡ times n s → w ·ᶜ t +ᶜ times n s ≡ t
unfolding ◌·ᶜ◌ ◌+ᶜ◌ times neg_column
left_column w t s n e =
    let W = matrix_at 0 in
    let T = column_at 9 in
    ap (λ v. w ·ᶜ t +ᶜ v) (sym e) ∙ column_ring (entries w ++ coordinates t) (W ·ˢᶜ T +ˢᶜ (T +ˢᶜ sym_neg (W ·ˢᶜ T))) T tt

right_column : (w : Matrix) (t s : Column) (n : ℤ) → w ·ᶜ t +ᶜ times n s ≡ t → t +ᶜ neg_column (w ·ᶜ t) ≡ times n s
unfolding ◌·ᶜ◌ ◌+ᶜ◌ times neg_column
right_column w t s n e =
    let N = var 0 in
    let W = matrix_at 1 in
    let T = column_at 10 in
    let S = column_at 13 in
    ap (λ v. v +ᶜ neg_column (w ·ᶜ t)) (sym e) ∙ column_ring (n ∷ (entries w ++ (coordinates t ++ coordinates s))) (W ·ˢᶜ T +ˢᶜ sym_times N S +ˢᶜ sym_neg (W ·ˢᶜ T)) (sym_times N S) tt

pub alone_from : (a : Block) (e : Map) → e.w · a.m ≡ a.m → a.t +ᶜ neg_column (e.w ·ᶜ a.t) ≡ times a.n e.s → LeavesAlone a e
unfolding block_times block_of
alone_from a e p q = block_path _ _ p (left_column e.w a.t e.s a.n q) (number_times e a)

pub alone_matrix : (a : Block) (e : Map) → LeavesAlone a e → e.w · a.m ≡ a.m
unfolding block_times block_of
alone_matrix a e h = ap (λ (b : Block). b.m) h

pub alone_column : (a : Block) (e : Map) → LeavesAlone a e → a.t +ᶜ neg_column (e.w ·ᶜ a.t) ≡ times a.n e.s
unfolding block_times block_of
alone_column a e h = right_column e.w a.t e.s a.n (ap (λ (b : Block). b.t) h)

-- ---- they are a group, and fix a common point

alone_product : (a : Block) (e f : Map) → LeavesAlone a e → LeavesAlone a f → LeavesAlone a (e ∘ f)
alone_product a e f p q = ap (λ b. block_times b a) (block_of-∘ e f) ∙ block_times_assoc (block_of e) (block_of f) a ∙ ap (block_times (block_of e)) q ∙ p

module _ (members : List Operator) (g : IsGroup members) (a : Block) (h : IsAverage members a) where
  abbrev mean : Averaged (space_of members g) (length members)
  mean = averaged_list members g h.group h.is_group a h.mean

  abbrev base : ScaledPoint
  base = record { n = a.t; d = length members; some = some_members (space_of members g) }

  base_fixed : (e : Map) → LeavesAlone a e → moved e base ≡ base
  base_fixed e k = (means.full_exactly mean e).0 k base (image_of_base a (length members) (some_members (space_of members g)) (means.number mean) (means.idempotent_itself mean))

  pub one_alone : (s t : Map) → operator_of UNIT s ≡ operator_of UNIT t → LeavesAlone a s → LeavesAlone a t → s ≡ t
  unfolding operator_of
  one_alone s t e p q = one_rotation s t base (base_fixed s p) (base_fixed t q) (ap (λ (f : Operator). f.w) e)

  pub full_sub : (i : ℕ) (list : List Map) → length members ≤ i → ArePicked members (LeavesAlone a) i list → length list ≤ MAX_OPERATORS → IsSubList list
  full_sub i list l p w = sub_list members (LeavesAlone a) i list g l p w (identity_times a) (alone_product a) base base_fixed

  pub full_is : (i : ℕ) (list : List Map) → length members ≤ i → ArePicked members (LeavesAlone a) i list → IsFull UNIT members a list
  full_is i list l p = record {
    exactly = λ e.
        let r = picked_exactly members (LeavesAlone a) i list l p e in
        let f = means.full_exactly mean e in
        ((λ c. let s = r.0 c in (s.0, f.0 s.1)), (λ k. r.1 (k.0, f.1 k.1)));
    once = picked_apart members (LeavesAlone a) i list p;
  }

pub full_elements : (members : List Operator) (a : Block) (list : List Map) → IsFull UNIT members a list → AreElements members list
full_elements members a list h = λ k d l. ((h.exactly (get_or list k d)).0 (Contains-get_or list k d l)).0

-- ---- the size of such an average

part_more : (t k : ℤ) → unsigned_abs t ≤ UNIT → unsigned_abs k ≤ MAX_GROWN_SHIFT → unsigned_abs (t +ℤ pos UNIT *ℤ k) ≤ UNIT * (MAX_GROWN_SHIFT + 1)
part_more t k p q = omega (arith, ints)

pub part_size : (c : Column) → AreParts UNIT c → AreWithin UNIT c.x c.y c.z
part_size c p = let w = AreWithin-parts c p in omega (arith, w.first, w.second, w.third)

pub shift_size : (e : Map) → ((k : Column) → IsShift UNIT e k → AreWithin MAX_GROWN_SHIFT k.x k.y k.z) → AreWithin (UNIT * (MAX_GROWN_SHIFT + 1)) e.s.x e.s.y e.s.z
unfolding ◌+ᶜ◌ times
shift_size e h =
    let k = whole_part UNIT some_parts e.s in
    let w = h k.0 k.1 in
    let p = part_size (modulo UNIT e.s) (modulo_parts UNIT some_parts e.s) in
    subst (λ (c : Column). AreWithin (UNIT * (MAX_GROWN_SHIFT + 1)) c.x c.y c.z) (sym k.1)
    (record { first = part_more _ k.0.x p.first w.first; second = part_more _ k.0.y p.second w.second; third = part_more _ k.0.z p.third w.third })

plus_within : (n k : ℕ) (a b : ℤ) → unsigned_abs a ≤ k → unsigned_abs b ≤ n * k → unsigned_abs (a +ℤ b) ≤ suc n * k
plus_within n k a b p q = let e : suc n * k ≡ n * k + k = omega arith in omega (arith, abs_add a b, e)

plus_size : (n k : ℕ) (e : Map) (b : Block) → AreWithin k e.s.x e.s.y e.s.z → AreWithin (n * k) b.t.x b.t.y b.t.z → (let c = (block_plus (block_of e) b).t in AreWithin (suc n * k) c.x c.y c.z)
unfolding block_plus block_of ◌+ᶜ◌
plus_size n k e b p q = record { first = plus_within n k e.s.x b.t.x p.first q.first; second = plus_within n k e.s.y b.t.y p.second q.second; third = plus_within n k e.s.z b.t.z p.third q.third }

sum_size : (list : List Map) → AreShiftsWithin MAX_GROWN_SHIFT list → (let c = (sum_of list).t in AreWithin (length list * (UNIT * (MAX_GROWN_SHIFT + 1))) c.x c.y c.z)
sum_size [] h = record { first = omega arith; second = omega arith; third = omega arith }
sum_size (e ∷ list) h =
    let P = λ (e : Map). (k : Column) → IsShift UNIT e k → AreWithin MAX_GROWN_SHIFT k.x k.y k.z in
    plus_size (length list) (UNIT * (MAX_GROWN_SHIFT + 1)) e (sum_of list) (shift_size e (All-head P e list h)) (sum_size list (All-tail P e list h))

pub number_size : (l n k : ℕ) (a b : ℤ) → 0 < l → pos l *ℤ a ≡ pos n *ℤ b → unsigned_abs b ≤ l * k → unsigned_abs a ≤ n * k
number_size l n k a b some e h =
    let p : l * unsigned_abs a ≡ n * unsigned_abs b = sym (unsigned_abs-mul (pos l) a) ∙ ap unsigned_abs e ∙ unsigned_abs-mul (pos n) b in
    let q : n * unsigned_abs b ≤ n * (l * k) = mul-le-mul (le_refl n) h in
    let r : l * unsigned_abs a ≤ l * (n * k) = omega (arith, p, q) in
    le_of_mul-le-mul_left r some

mean_size : (l n k : ℕ) (a b : Block) → 0 < l → block_scaled (pos l) a ≡ block_scaled (pos n) b → AreWithin (l * k) b.t.x b.t.y b.t.z → AreWithin (n * k) a.t.x a.t.y a.t.z
unfolding block_scaled times
mean_size l n k a b some e h = record {
  first = number_size l n k a.t.x b.t.x some (ap (λ (v : Block). v.t.x) e) h.first;
  second = number_size l n k a.t.y b.t.y some (ap (λ (v : Block). v.t.y) e) h.second;
  third = number_size l n k a.t.z b.t.z some (ap (λ (v : Block). v.t.z) e) h.third;
}

pub near_average : (members : List Operator) (g : IsGroup members) (a : Block) → IsAverage members a → IsNearAverage a
near_average members g a h =
    let v = averaged_list members g h.group h.is_group a h.mean in
    record {
      over = length members;
      number = means.number v;
      some = some_members (space_of members g);
      within = g.within;
      translation = mean_size (length h.group) (length members) (UNIT * (MAX_GROWN_SHIFT + 1)) a (sum_of h.group) (means.some_members v) h.mean (sum_size h.group h.shifts);
    }
