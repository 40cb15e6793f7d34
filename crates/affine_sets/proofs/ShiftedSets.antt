-- A finite group of elements moved by a whole shift: v s v^-1 for each s.
use Rattle.std.proofs.Common.{◌≡◌, ◌++◌, ◌∷◌, ◌≤◌, ◌<◌, ◌*◌, ◌^◌, ℕ, ℤ, pos, ◌+ℤ◌, ◌*ℤ◌, neg_ℤ, unsigned_abs, List, length, map, Contains, ap, ap₂, sym, refl, ◌∙◌, subst, arith, le_trans, w64}
use Rattle.std.proofs.lemmas.Int.{ints, unsigned_abs-mul}
use native.Mathlib.Nat.{le_of_mul-le-mul_left}
use Rattle.std.specs.Int.{int_div_euclid}
use Rattle.lattice_algebra.specs.Matrix.{Matrix, Column, entries, coordinates, det, adjugate, scaled, ◌·◌, ◌·ᶜ◌, ◌+ᶜ◌, neg_column, times, identity}
use Rattle.lattice_algebra.specs.Operator.{Operator, AreWithin, HasEntriesWithin, modulo}
use Rattle.lattice_algebra.specs.Map.{Map, ◌∘◌, undo}
use Rattle.lattice_algebra.proofs.Ring.{var}
use Rattle.lattice_algebra.proofs.Machine.{back, kept}
use Rattle.lattice_algebra.proofs.MatrixRing.{matrix_at, column_at, ◌·ˢ◌, ◌·ˢᶜ◌, ◌+ˢᶜ◌, sym_times, sym_neg, sym_identity, column_ring, matrix_ring}
use Rattle.lattice_algebra.proofs.Maps.{map_path, shifted}
use Rattle.lattice_algebra.proofs.Remainders.{quotients, quotients_are, modulo_parts}
use Rattle.lattice_algebra.proofs.Numbers.{positive_product, abs_add, abs_neg}
use Rattle.lattice_algebra.proofs.Columns.{swap_columns}
use Rattle.exact_ops.specs.declared.TheConstants.{UNIT, MAX_SHIFT}
use Rattle.exact_ops.proofs.Narrow.{some_parts}
use Rattle.group_closure.specs.GroupList.{IsGroup}
use Rattle.space_groups.specs.Averages.{Block, IsMean}
use Rattle.space_groups.specs.Regions.{shift_by}
use Rattle.space_groups.specs.Keys.{carried}
use Rattle.space_groups.specs.Search.{IsSub}
use Rattle.space_groups.proofs.Means as means
use Rattle.space_groups.proofs.Means.{Averaged}
use Rattle.space_groups.proofs.CarriedLists.{carried_mean, turned_closed}
use Rattle.space_groups.proofs.Growing.{closed_sub}
use Rattle.space_groups.proofs.Regions.{shift_in}
use Rattle.space_groups.proofs.NearOrigin.{near_origin}
use Rattle.finite_groups.proofs.Members as lists
use Rattle.site_symmetry.proofs.SpaceOfGroup.{space_of}
use Rattle.affine_sets.specs.declared.TheConstants.{MAX_NEAR_SHIFT, MAX_TRANSLATION}
use Rattle.affine_sets.specs.Averages.{whole_part}
use Rattle.affine_sets.specs.Subs.{conjugate_by}
use Rattle.affine_sets.proofs.Groups.{averaged_list}
use Rattle.affine_sets.proofs.ImageFixers.{image_within}
use Rattle.affine_sets.proofs.LeftAlone.{alone_column}

undo_form : (u : ℤ) (k : Column) → (undo (record { w = identity; s = times u k })).s ≡ neg_column (times u k)
unfolding undo det adjugate scaled neg_column ◌·ᶜ◌ times
undo_form u k = column_ring (u ∷ coordinates k) (sym_neg (sym_identity ·ˢᶜ sym_times (var 0) (column_at 1))) (sym_neg (sym_times (var 0) (column_at 1))) tt

undo_matrix : (u : ℤ) (k : Column) → (undo (record { w = identity; s = times u k })).w ≡ identity
unfolding undo det adjugate scaled
undo_matrix u k = refl

conjugate_column : (u : ℤ) (w : Matrix) (t k f : Column) → (identity · w) ·ᶜ neg_column (times u (neg_column f)) +ᶜ (identity ·ᶜ (t +ᶜ times u k) +ᶜ times u (neg_column f)) ≡ t +ᶜ times u (k +ᶜ w ·ᶜ f +ᶜ neg_column f)
unfolding ◌·◌ ◌·ᶜ◌ ◌+ᶜ◌ times neg_column
conjugate_column u w t k f =
    let U = var 0 in
    let W = matrix_at 1 in
    let T = column_at 10 in
    let K = column_at 13 in
    let F = column_at 16 in
    column_ring (u ∷ (entries w ++ (coordinates t ++ (coordinates k ++ coordinates f))))
    ((sym_identity ·ˢ W) ·ˢᶜ sym_neg (sym_times U (sym_neg F)) +ˢᶜ (sym_identity ·ˢᶜ (T +ˢᶜ sym_times U K) +ˢᶜ sym_times U (sym_neg F)))
    (T +ˢᶜ sym_times U (K +ˢᶜ W ·ˢᶜ F +ˢᶜ sym_neg F)) tt

both_sides : (w : Matrix) → (identity · w) · identity ≡ w
unfolding ◌·◌
both_sides w = matrix_ring (entries w) ((sym_identity ·ˢ matrix_at 0) ·ˢ sym_identity) (matrix_at 0) tt

-- v s v^-1 where v is the whole shift -f
pub conjugate_is : (op : Operator) (k f : Column) → conjugate_by (shift_by UNIT (neg_column f)) (shifted UNIT op k) ≡ shifted UNIT op (k +ᶜ op.w ·ᶜ f +ᶜ neg_column f)
unfolding ◌∘◌
conjugate_is op k f =
    let v = shift_by UNIT (neg_column f) in
    map_path _ _
    (ap (λ m. (identity · op.w) · m) (undo_matrix (pos UNIT) (neg_column f)) ∙ both_sides op.w)
    (ap (λ c. (identity · op.w) ·ᶜ c +ᶜ (identity ·ᶜ (op.t +ᶜ times (pos UNIT) k) +ᶜ times (pos UNIT) (neg_column f))) (undo_form (pos UNIT) (neg_column f)) ∙ conjugate_column (pos UNIT) op.w op.t k f)

-- ---- how small its shifts are

number_near : (n : ℕ) (x t r : ℤ) → 0 < n → pos n *ℤ x ≡ t +ℤ neg_ℤ r → unsigned_abs t ≤ UNIT * n * 7 → unsigned_abs r ≤ 6 * (UNIT * n * 7) → unsigned_abs x ≤ 49 * UNIT
number_near n x t r h e p q =
    let s : n * unsigned_abs x ≡ unsigned_abs (t +ℤ neg_ℤ r) = sym (unsigned_abs-mul (pos n) x) ∙ ap unsigned_abs e in
    let l : n * unsigned_abs x ≤ n * (49 * UNIT) = omega (arith, s, abs_add t (neg_ℤ r), abs_neg r, p, q) in
    le_of_mul-le-mul_left l h

column_near : (n : ℕ) (s t r : Column) → 0 < n → t +ᶜ neg_column r ≡ times (pos n) s → AreWithin (UNIT * n * 7) t.x t.y t.z → AreWithin (6 * (UNIT * n * 7)) r.x r.y r.z → AreWithin (49 * UNIT) s.x s.y s.z
unfolding ◌+ᶜ◌ neg_column times
column_near n s t r h e p q = record {
  first = number_near n s.x t.x r.x h (ap (λ (c : Column). c.x) (sym e)) p.first q.first;
  second = number_near n s.y t.y r.y h (ap (λ (c : Column). c.y) (sym e)) p.second q.second;
  third = number_near n s.z t.z r.z h (ap (λ (c : Column). c.z) (sym e)) p.third q.third;
}

cells_near : (t k : ℤ) → unsigned_abs (t +ℤ pos UNIT *ℤ k) ≤ 49 * UNIT → unsigned_abs t ≤ UNIT → unsigned_abs k ≤ MAX_NEAR_SHIFT
cells_near t k p q = omega (arith, ints)

pub shift_near : (t k : Column) → AreWithin UNIT t.x t.y t.z → (let s = t +ᶜ times (pos UNIT) k in AreWithin (49 * UNIT) s.x s.y s.z) → AreWithin MAX_NEAR_SHIFT k.x k.y k.z
unfolding ◌+ᶜ◌ times
shift_near t k p q = record { first = cells_near t.x k.x q.first p.first; second = cells_near t.y k.y q.second p.second; third = cells_near t.z k.z q.third p.third }

doubled : (n : ℕ) (m : Matrix) → HasEntriesWithin (2 * n) m → HasEntriesWithin (n * 2) m
doubled n m h = subst (λ k. HasEntriesWithin k m) (let e : 2 * n ≡ n * 2 = omega arith in e) h

quotient_column : (c : Column) (u : ℤ) (n : ℕ) → u ≡ pos n → record { x = int_div_euclid c.x u; y = int_div_euclid c.y u; z = int_div_euclid c.z u } ≡ quotients n c
unfolding quotients
quotient_column c u n e = λ i. record { x = int_div_euclid c.x (e i); y = int_div_euclid c.y (e i); z = int_div_euclid c.z (e i) }

parts_of : (a : Block) (n : ℕ) → 0 < n → a.n ≡ pos n → a.t ≡ times (pos UNIT *ℤ pos n) (whole_part a) +ᶜ modulo (UNIT * n) a.t
parts_of a n h e =
    let q : whole_part a ≡ quotients (UNIT * n) a.t = quotient_column a.t (pos UNIT *ℤ a.n) (UNIT * n) (ap (λ k. pos UNIT *ℤ k) e) in
    quotients_are (UNIT * n) (positive_product UNIT n some_parts h) a.t ∙ swap_columns (modulo (UNIT * n) a.t) (times (pos (UNIT * n)) (quotients (UNIT * n) a.t)) ∙ ap (λ k. times (pos (UNIT * n)) k +ᶜ modulo (UNIT * n) a.t) (sym q)

-- the elements of the moved group are near the origin
pub moved_near : (members : List Operator) (g : IsGroup members) (list : List Map) → IsSub UNIT members list → (a : Block) → IsMean (length members) list a → HasEntriesWithin (2 * length members) a.m
    → (s : Map) → Contains list s → HasEntriesWithin 2 (conjugate_by (shift_by UNIT (neg_column (whole_part a))) s).w
    → (let c = (conjugate_by (shift_by UNIT (neg_column (whole_part a))) s).s in AreWithin (49 * UNIT) c.x c.y c.z)
moved_near members g list sub a mean wide s m narrow =
    let L = space_of members g in
    let n = length members in
    let old = averaged_list members g list sub a mean in
    let v = shift_by UNIT (neg_column (whole_part a)) in
    let i = shift_in L (neg_column (whole_part a)) in
    let b = carried v a in
    let new : Averaged L n = record { some = old.some; list = map (conjugate_by v) list; closed = turned_closed L v list i (closed_sub L list sub); average = b; is_mean = carried_mean v n list a mean } in
    let number : a.n ≡ pos n = means.number old in
    let split : a.t ≡ times (pos UNIT *ℤ pos n) (whole_part a) +ᶜ modulo (UNIT * n) a.t = parts_of a n old.some number in
    let far = near_origin UNIT n old.some a (whole_part a) (modulo (UNIT * n) a.t) number (means.idempotent_itself old) (doubled n a.m wide) split (modulo_parts (UNIT * n) (positive_product UNIT n some_parts old.some) a.t) in
    let e = conjugate_by v s in
    let keeps = means.member_keeps new e (lists.Contains-map (conjugate_by v) s list m) in
    column_near n e.s b.t (e.w ·ᶜ b.t) old.some (alone_column b e keeps ∙ ap (λ k. times k e.s) (means.number new)) far (image_within (UNIT * n * 7) e.w b.t narrow far)

-- ---- what the code computes

wider : (b n : ℕ) (c : Column) → b ≤ n → AreWithin b c.x c.y c.z → AreWithin n c.x c.y c.z
wider b n c l h = record { first = le_trans h.first l; second = le_trans h.second l; third = le_trans h.third l }

pub cells_within : (f : Column) → AreWithin (4 * 10 ^ 12) f.x f.y f.z → AreWithin MAX_TRANSLATION f.x f.y f.z
cells_within f h = wider (4 * 10 ^ 12) MAX_TRANSLATION f (omega arith) h

passed_shift : (k : Column) → AreWithin MAX_SHIFT k.x k.y k.z → record { x = back w64 k.x; y = back w64 k.y; z = back w64 k.z } ≡ k
passed_shift k h = λ i. record { x = kept w64 MAX_SHIFT k.x h.first tt i; y = kept w64 MAX_SHIFT k.y h.second tt i; z = kept w64 MAX_SHIFT k.z h.third tt i }

sum_within : (x y : ℤ) → unsigned_abs x ≤ MAX_SHIFT → unsigned_abs y ≤ 6 * (4 * 10 ^ 12) → unsigned_abs (x +ℤ y) ≤ MAX_TRANSLATION
sum_within x y p q = omega (arith, abs_add x y)

total_within : (k c : Column) → AreWithin MAX_SHIFT k.x k.y k.z → AreWithin (6 * (4 * 10 ^ 12)) c.x c.y c.z → (let t = k +ᶜ c in AreWithin MAX_TRANSLATION t.x t.y t.z)
unfolding ◌+ᶜ◌
total_within k c p q = record { first = sum_within k.x c.x p.first q.first; second = sum_within k.y c.y p.second q.second; third = sum_within k.z c.z p.third q.third }

pub image_made : (op : Operator) (w : Matrix) (f image : Column) → HasEntriesWithin 2 op.w → w ≡ op.w → image ≡ w ·ᶜ f → AreWithin (4 * 10 ^ 12) f.x f.y f.z → AreWithin (6 * (4 * 10 ^ 12)) image.x image.y image.z
image_made op w f image narrow e p s = subst (λ (c : Column). AreWithin (6 * (4 * 10 ^ 12)) c.x c.y c.z) (sym (p ∙ ap (λ m. m ·ᶜ f) e)) (image_within (4 * 10 ^ 12) op.w f narrow s)

pub image_sized : (c : Column) → AreWithin (6 * (4 * 10 ^ 12)) c.x c.y c.z → AreWithin MAX_TRANSLATION c.x c.y c.z
image_sized c h = wider (6 * (4 * 10 ^ 12)) MAX_TRANSLATION c (omega arith) h

pub given_within : (k : Column) → AreWithin MAX_SHIFT k.x k.y k.z → AreWithin MAX_TRANSLATION (back w64 k.x) (back w64 k.y) (back w64 k.z)
given_within k h = subst (λ (c : Column). AreWithin MAX_TRANSLATION c.x c.y c.z) (sym (passed_shift k h)) (wider MAX_SHIFT MAX_TRANSLATION k (omega arith) h)

pub total_sized : (k image total : Column) → AreWithin MAX_SHIFT k.x k.y k.z → AreWithin (6 * (4 * 10 ^ 12)) image.x image.y image.z → total ≡ record { x = back w64 k.x; y = back w64 k.y; z = back w64 k.z } +ᶜ image → AreWithin MAX_TRANSLATION total.x total.y total.z
total_sized k image total h s e = subst (λ (c : Column). AreWithin MAX_TRANSLATION c.x c.y c.z) (sym (e ∙ ap (λ v. v +ᶜ image) (passed_shift k h))) (total_within k image h s)

pub shift_made : (op : Operator) (w : Matrix) (k f image total rest : Column) → w ≡ op.w → image ≡ w ·ᶜ f → AreWithin MAX_SHIFT k.x k.y k.z → total ≡ record { x = back w64 k.x; y = back w64 k.y; z = back w64 k.z } +ᶜ image → rest ≡ total +ᶜ neg_column f
    → rest ≡ k +ᶜ op.w ·ᶜ f +ᶜ neg_column f
shift_made op w k f image total rest e p h q r = r ∙ ap (λ t. t +ᶜ neg_column f) (q ∙ ap₂ (λ a b. a +ᶜ b) (passed_shift k h) (p ∙ ap (λ m. m ·ᶜ f) e))

pub stored_near : (r c : Column) → r ≡ c → AreWithin MAX_NEAR_SHIFT c.x c.y c.z → record { x = back w64 r.x; y = back w64 r.y; z = back w64 r.z } ≡ c
stored_near r c e h = passed_shift r (subst (λ (v : Column). AreWithin MAX_SHIFT v.x v.y v.z) (sym e) (wider MAX_NEAR_SHIFT MAX_SHIFT c (omega arith) h)) ∙ e

pub stored_in_range : (r c : Column) → r ≡ c → AreWithin MAX_NEAR_SHIFT c.x c.y c.z → AreWithin MAX_SHIFT (back w64 r.x) (back w64 r.y) (back w64 r.z)
stored_in_range r c e h = subst (λ (v : Column). AreWithin MAX_SHIFT v.x v.y v.z) (sym (stored_near r c e h)) (wider MAX_NEAR_SHIFT MAX_SHIFT c (omega arith) h)
