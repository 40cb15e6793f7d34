-- The element of an operator that leaves an average alone, as it is computed.
use Rattle.std.proofs.Common.{◌≡◌, ◌≤◌, ◌+◌, ◌*◌, ℕ, ℤ, pos, ◌+ℤ◌, ◌*ℤ◌, neg_ℤ, unsigned_abs, Bool, true, false, not, ◌&&◌, inl, inr, w32, w64, ap, ap₂, sym, ◌∙◌, subst, arith, mul-le-mul, le_refl, le_trans}
use Rattle.std.proofs.lemmas.Bool.{cases_Bool, true≢false, false≢true}
use Rattle.lattice_algebra.specs.Matrix.{Matrix, Column, origin, ◌·◌, ◌·ᶜ◌, ◌+ᶜ◌, neg_column, times}
use Rattle.lattice_algebra.specs.Operator.{Operator, AreWithin, HasEntriesWithin, AreParts, IsPart}
use Rattle.lattice_algebra.specs.Map.{Map, operator_of}
use Rattle.lattice_algebra.proofs.Machine.{back, kept}
use Rattle.lattice_algebra.proofs.Equality.{matrix_eq}
use Rattle.lattice_algebra.proofs.Maps.{map_eq-is, shifted, shift_of}
use Rattle.lattice_algebra.proofs.Numbers.{abs_add, abs_neg}
use Rattle.exact_ops.specs.declared.TheConstants.{UNIT}
use Rattle.exact_ops.proofs.Narrow.{some_parts}
use Rattle.group_closure.specs.declared.TheConstants.{MAX_OPERATORS}
use Rattle.space_groups.specs.Averages.{Block}
use Rattle.space_groups.proofs.RowSizes.{row_size}
use Rattle.affine_sets.specs.declared.TheConstants.{MAX_GROWN_SHIFT, MAX_TRANSLATION}
use Rattle.affine_sets.specs.Conditions.{IsNearAverage, LeavesAlone}
use Rattle.affine_sets.proofs.Sums.{same_count}
use Rattle.affine_sets.proofs.Shifting.{near_limit, kept_near}
use Rattle.affine_sets.proofs.Translations.{kept_part}
use Rattle.affine_sets.proofs.LeftAlone.{alone_from, alone_matrix, alone_column}

-- ---- the test of matrices

is_true : (x b : Bool) → b ≡ not x → b ≡ false → x ≡ true
is_true x b e p = elim (cases_Bool x) [ inl t ↦ t | inr f ↦ absurd (true≢false (sym (ap not f) ∙ sym e ∙ p)) ]

pub same_matrix : (m n : Matrix) (b : Bool) → b ≡ not (matrix_eq m n) → b ≡ false → m ≡ n
same_matrix m n b e p = ap (λ (g : Map). g.w) ((map_eq-is (record { w = m; s = origin }) (record { w = n; s = origin })).0 (ap (λ v. v && true) (is_true (matrix_eq m n) b e p)))

pub other_matrix : (m n : Matrix) (b : Bool) → b ≡ not (matrix_eq m n) → b ≡ true → m ≡ n → ⊥
other_matrix m n b e p h =
    let t : (matrix_eq m n && true) ≡ true = (map_eq-is (record { w = m; s = origin }) (record { w = n; s = origin })).1 (λ i. record { w = h i; s = origin }) in
    elim (cases_Bool (matrix_eq m n)) [ inl y ↦ absurd (true≢false (sym p ∙ e ∙ ap not y)) | inr y ↦ absurd (false≢true (sym (ap (λ v. v && true) y) ∙ t)) ]

-- ---- sizes

row_within : (b : ℕ) (w0 w1 w2 x y z : ℤ) → AreWithin 2 w0 w1 w2 → AreWithin b x y z → unsigned_abs (w0 *ℤ x +ℤ w1 *ℤ y +ℤ w2 *ℤ z) ≤ 6 * b
row_within b w0 w1 w2 x y z w t =
    let p0 : unsigned_abs w0 * b ≤ 2 * b = mul-le-mul w.first (le_refl b) in
    let p1 : unsigned_abs w1 * b ≤ 2 * b = mul-le-mul w.second (le_refl b) in
    let p2 : unsigned_abs w2 * b ≤ 2 * b = mul-le-mul w.third (le_refl b) in
    let l = row_size w0 w1 w2 x y z b b b t.first t.second t.third in
    omega (arith, l, p0, p1, p2)

pub image_within : (b : ℕ) (w : Matrix) (t : Column) → HasEntriesWithin 2 w → AreWithin b t.x t.y t.z → (let c = w ·ᶜ t in AreWithin (6 * b) c.x c.y c.z)
unfolding ◌·ᶜ◌
image_within b w t h s = record { first = row_within b w.xx w.xy w.xz t.x t.y t.z h.x s; second = row_within b w.yx w.yy w.yz t.x t.y t.z h.y s; third = row_within b w.zx w.zy w.zz t.x t.y t.z h.z s }

difference_within : (b : ℕ) (x y : ℤ) → unsigned_abs x ≤ b → unsigned_abs y ≤ 6 * b → unsigned_abs (x +ℤ neg_ℤ y) ≤ 7 * b
difference_within b x y p q = omega (arith, abs_add x (neg_ℤ y), abs_neg y)

rest_within : (b : ℕ) (t c : Column) → AreWithin b t.x t.y t.z → AreWithin (6 * b) c.x c.y c.z → (let r = t +ᶜ neg_column c in AreWithin (7 * b) r.x r.y r.z)
unfolding ◌+ᶜ◌ neg_column
rest_within b t c p q = record { first = difference_within b t.x c.x p.first q.first; second = difference_within b t.y c.y p.second q.second; third = difference_within b t.z c.z p.third q.third }

bound_small : (over : ℕ) → over ≤ MAX_OPERATORS → 6 * (over * (UNIT * (MAX_GROWN_SHIFT + 1))) ≤ MAX_TRANSLATION
bound_small over l = omega (arith, l)

-- ---- what is known where the rest was computed

pub record IsRestOf (a : Block) (f : Operator) (over : ℕ) (image rest : Column) : Type 0 where
  pub number : a.n ≡ pos over
  pub within : over ≤ MAX_OPERATORS
  pub image_size : AreWithin MAX_TRANSLATION image.x image.y image.z
  pub is : a.t +ᶜ neg_column (f.w ·ᶜ a.t) ≡ rest
  pub size : AreWithin (near_limit over) rest.x rest.y rest.z

pub rest_of : (a : Block) (f : Operator) (over : ℕ) (w : Matrix) (image rest : Column) → IsNearAverage a → a.n ≡ pos over → HasEntriesWithin 2 f.w → w ≡ f.w → image ≡ w ·ᶜ a.t → rest ≡ a.t +ᶜ neg_column image → IsRestOf a f over image rest
rest_of a f over w image rest h number narrow e p q =
    let same = same_count a.n h.over over h.number number in
    let b = UNIT * (MAX_GROWN_SHIFT + 1) in
    let l : over ≤ MAX_OPERATORS = subst (λ n. n ≤ MAX_OPERATORS) same h.within in
    let t = subst (λ n. AreWithin (n * b) a.t.x a.t.y a.t.z) same h.translation in
    let is : image ≡ f.w ·ᶜ a.t = p ∙ ap (λ m. m ·ᶜ a.t) e in
    let s = subst (λ (c : Column). AreWithin (6 * (over * b)) c.x c.y c.z) (sym is) (image_within (over * b) f.w a.t narrow t) in
    record {
      number = number;
      within = l;
      image_size = record { first = le_trans s.first (bound_small over l); second = le_trans s.second (bound_small over l); third = le_trans s.third (bound_small over l) };
      is = sym (q ∙ ap (λ c. a.t +ᶜ neg_column c) is);
      size = subst (λ (c : Column). AreWithin (near_limit over) c.x c.y c.z) (sym q) (rest_within (over * b) a.t image t s);
    }

pub passed_near : (n : ℤ) (over : ℕ) → over ≤ MAX_OPERATORS → unsigned_abs n ≤ near_limit over → unsigned_abs (back w64 n) ≤ near_limit over
passed_near n over l h = rw (kept_near n over l h) h

-- ---- a shift that was found, and one that is sought

found : (n t k : ℤ) (over : ℕ) → over ≤ MAX_OPERATORS → unsigned_abs n ≤ near_limit over → IsPart UNIT t → back w64 n ≡ pos over *ℤ (back w32 t +ℤ pos UNIT *ℤ k) → unsigned_abs k ≤ 8 * MAX_GROWN_SHIFT
    → n ≡ pos over *ℤ (t +ℤ pos UNIT *ℤ back w64 k)
found n t k over l h p e s =
    sym (kept_near n over l h) ∙ e ∙ ap₂ (λ x y. pos over *ℤ (x +ℤ pos UNIT *ℤ y)) (kept_part t p) (sym (kept w64 (8 * MAX_GROWN_SHIFT) k s tt))

sought : (n t k : ℤ) (over : ℕ) → over ≤ MAX_OPERATORS → unsigned_abs n ≤ near_limit over → IsPart UNIT t → n ≡ pos over *ℤ (t +ℤ pos UNIT *ℤ k) → back w64 n ≡ pos over *ℤ (back w32 t +ℤ pos UNIT *ℤ k)
sought n t k over l h p e = kept_near n over l h ∙ e ∙ ap (λ x. pos over *ℤ (x +ℤ pos UNIT *ℤ k)) (sym (kept_part t p))

abbrev pub IsShiftFor : ℤ → ℤ → ℕ → ℤ → Type 0
IsShiftFor n t over k = back w64 n ≡ pos over *ℤ (back w32 t +ℤ pos UNIT *ℤ k)

pub found_alone : (a : Block) (f : Operator) (over : ℕ) (image rest : Column) (x y z : ℤ) → IsRestOf a f over image rest → f.w · a.m ≡ a.m → AreParts UNIT f.t → IsShiftFor rest.x f.t.x over x → IsShiftFor rest.y f.t.y over y → IsShiftFor rest.z f.t.z over z
    → unsigned_abs x ≤ 8 * MAX_GROWN_SHIFT → unsigned_abs y ≤ 8 * MAX_GROWN_SHIFT → unsigned_abs z ≤ 8 * MAX_GROWN_SHIFT
    → LeavesAlone a (shifted UNIT f (record { x = back w64 x; y = back w64 y; z = back w64 z }))
unfolding ◌+ᶜ◌ times
found_alone a f over image rest x y z r m p ex ey ez sx sy sz =
    let k : Column = record { x = back w64 x; y = back w64 y; z = back w64 z } in
    let column : rest ≡ times (pos over) (f.t +ᶜ times (pos UNIT) k) = λ i. record {
      x = found rest.x f.t.x x over r.within r.size.first p.x ex sx i;
      y = found rest.y f.t.y y over r.within r.size.second p.y ey sy i;
      z = found rest.z f.t.z z over r.within r.size.third p.z ez sz i;
    } in
    alone_from a (shifted UNIT f k) m (r.is ∙ column ∙ ap (λ n. times n (f.t +ᶜ times (pos UNIT) k)) (sym r.number))

-- an element of the operator that leaves a alone has such shifts
pub shifts_sought : (a : Block) (f : Operator) (over : ℕ) (image rest : Column) (e : Map) → IsRestOf a f over image rest → AreParts UNIT f.t → operator_of UNIT e ≡ f → LeavesAlone a e
    → (k : Column) × IsShiftFor rest.x f.t.x over k.x × IsShiftFor rest.y f.t.y over k.y × IsShiftFor rest.z f.t.z over k.z
unfolding ◌+ᶜ◌ times
shifts_sought a f over image rest e r p o h =
    let k = shift_of UNIT some_parts f e o in
    let h' = subst (LeavesAlone a) k.1 h in
    let column : rest ≡ times (pos over) (f.t +ᶜ times (pos UNIT) k.0) = sym r.is ∙ alone_column a (shifted UNIT f k.0) h' ∙ ap (λ n. times n (f.t +ᶜ times (pos UNIT) k.0)) r.number in (
      k.0,
      sought rest.x f.t.x k.0.x over r.within r.size.first p.x (ap (λ (c : Column). c.x) column),
      sought rest.y f.t.y k.0.y over r.within r.size.second p.y (ap (λ (c : Column). c.y) column),
      sought rest.z f.t.z k.0.z over r.within r.size.third p.z (ap (λ (c : Column). c.z) column),
    )

pub matrix_sought : (a : Block) (f : Operator) (e : Map) → operator_of UNIT e ≡ f → LeavesAlone a e → f.w · a.m ≡ a.m
unfolding operator_of
matrix_sought a f e o h = subst (λ (g : Operator). g.w · a.m ≡ a.m) o (alone_matrix a e h)
