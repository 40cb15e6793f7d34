-- Multiples of the columns of an average that are whole: they span its image.
use Rattle.std.proofs.Common.{◌≡◌, ◌<◌, ◌≤◌, ◌*◌, ℕ, ℤ, pos, ◌*ℤ◌, ◌<ℤ◌, unsigned_abs, FitsSigned, [], ◌∷◌, ◌++◌, ◌^◌, w32, w64, ap, sym, ◌∙◌, subst, arith, mul-le-mul, le_refl}
use Rattle.std.proofs.lemmas.Int.{unsigned_abs-mul}
use native.Mathlib.Nat.{le_of_mul-le-mul_left}
use Rattle.lattice_algebra.specs.Matrix.{Matrix, entries, ◌·◌, scaled}
use Rattle.lattice_algebra.specs.Operator.{HasEntriesWithin}
use Rattle.lattice_algebra.proofs.Numbers.{above}
use Rattle.lattice_algebra.proofs.Machine.{back, kept, fits}
use Rattle.lattice_algebra.proofs.Ring.{var, ◌⊗◌, ring}
use Rattle.lattice_algebra.proofs.MatrixRing.{matrix_at, ◌·ˢ◌, sym_scaled, matrix_ring}
use Rattle.group_closure.specs.declared.TheConstants.{MAX_OPERATORS}
use Rattle.space_groups.specs.Averages.{Block, block_times, block_scaled}
use Rattle.space_groups.specs.Regions.{diagonal, SpansImage}
use Rattle.space_groups.proofs.FirstCell.{spans_by_columns}
use Rattle.affine_sets.specs.Averages.{IsSpecialBlock}
use Rattle.affine_sets.specs.Conjugates.{AreWholeFor}
use Rattle.affine_sets.specs.declared.keys.Sizes.{Sizes}
use Rattle.affine_sets.proofs.ColumnSizes.{on_columns}
use Rattle.wyckoff_rows.specs.Spanning.{AreEnough, size_column}

-- q times a is n times a whole number
abbrev pub IsWholeEntry : ℤ → ℕ → ℕ → Type 0
IsWholeEntry a q n = (k : ℤ) × (a *ℤ pos q ≡ pos n *ℤ k)

-- so it is for each entry and the number of its column
pub record AreWholeEntries (q : Sizes) (m : Matrix) (n : ℕ) : Type 0 where
  pub xx : IsWholeEntry m.xx q.x n
  pub xy : IsWholeEntry m.xy q.y n
  pub xz : IsWholeEntry m.xz q.z n
  pub yx : IsWholeEntry m.yx q.x n
  pub yy : IsWholeEntry m.yy q.y n
  pub yz : IsWholeEntry m.yz q.z n
  pub zx : IsWholeEntry m.zx q.x n
  pub zy : IsWholeEntry m.zy q.y n
  pub zz : IsWholeEntry m.zz q.z n

pub whole_entries : (q : Sizes) (m : Matrix) (n : ℕ) → AreWholeFor q m n → AreWholeEntries q m n
unfolding scaled
whole_entries q m n h =
    let e = sym (on_columns m (size_column q)) ∙ h.1 in
    record {
      xx = (h.0.xx, ap (λ (v : Matrix). v.xx) e);
      xy = (h.0.xy, ap (λ (v : Matrix). v.xy) e);
      xz = (h.0.xz, ap (λ (v : Matrix). v.xz) e);
      yx = (h.0.yx, ap (λ (v : Matrix). v.yx) e);
      yy = (h.0.yy, ap (λ (v : Matrix). v.yy) e);
      yz = (h.0.yz, ap (λ (v : Matrix). v.yz) e);
      zx = (h.0.zx, ap (λ (v : Matrix). v.zx) e);
      zy = (h.0.zy, ap (λ (v : Matrix). v.zy) e);
      zz = (h.0.zz, ap (λ (v : Matrix). v.zz) e);
    }

-- r has the entries of m times the numbers of their columns, over n
pub record AreMultiples (q : Sizes) (m : Matrix) (n : ℕ) (r : Matrix) : Type 0 where
  pub xx : m.xx *ℤ pos q.x ≡ pos n *ℤ r.xx
  pub xy : m.xy *ℤ pos q.y ≡ pos n *ℤ r.xy
  pub xz : m.xz *ℤ pos q.z ≡ pos n *ℤ r.xz
  pub yx : m.yx *ℤ pos q.x ≡ pos n *ℤ r.yx
  pub yy : m.yy *ℤ pos q.y ≡ pos n *ℤ r.yy
  pub yz : m.yz *ℤ pos q.z ≡ pos n *ℤ r.yz
  pub zx : m.zx *ℤ pos q.x ≡ pos n *ℤ r.zx
  pub zy : m.zy *ℤ pos q.y ≡ pos n *ℤ r.zy
  pub zz : m.zz *ℤ pos q.z ≡ pos n *ℤ r.zz

multiples : (q : Sizes) (m : Matrix) (n : ℕ) (r : Matrix) → AreMultiples q m n r → m · diagonal (size_column q) ≡ scaled (pos n) r
unfolding scaled
multiples q m n r e = on_columns m (size_column q) ∙ λ i. record { xx = e.xx i; xy = e.xy i; xz = e.xz i; yx = e.yx i; yy = e.yy i; yz = e.yz i; zx = e.zx i; zy = e.zy i; zz = e.zz i }

counted : (n : ℤ) (r c : Matrix) → scaled n r · c ≡ r · scaled n c
unfolding ◌·◌ scaled
counted n r c = matrix_ring (n ∷ (entries r ++ entries c)) (sym_scaled (var 0) (matrix_at 1) ·ˢ matrix_at 10) (matrix_at 1 ·ˢ sym_scaled (var 0) (matrix_at 10)) tt

-- whole multiples of enough columns span the image
pub columns_span : (q : Sizes) (s : Block) (n : ℕ) (r : Matrix) → 0 < n → pos n ≡ s.n → block_times s s ≡ block_scaled s.n s → AreEnough s.m q → AreMultiples q s.m n r → SpansImage s r
columns_span q s n r some number two enough e =
    let whole : s.m · diagonal (size_column q) ≡ scaled s.n r = multiples q s.m n r e ∙ ap (λ v. scaled v r) number in
    spans_by_columns s (size_column q) r (scaled s.n enough.weights) enough.number (subst (λ v. pos 0 <ℤ v) number (above n some)) two whole enough.some
    (enough.combines ∙ ap (λ x. x · enough.weights) whole ∙ counted s.n r enough.weights)

pub multiple_within : (a r : ℤ) (q n : ℕ) → 0 < n → unsigned_abs a ≤ 2 * n → q ≤ MAX_OPERATORS → a *ℤ pos q ≡ pos n *ℤ r → unsigned_abs r ≤ 2 * MAX_OPERATORS
multiple_within a r q n some h l e =
    let f : n * unsigned_abs r ≡ unsigned_abs a * q = sym (unsigned_abs-mul (pos n) r) ∙ ap unsigned_abs (sym e) ∙ unsigned_abs-mul a (pos q) in
    let g : unsigned_abs a * q ≤ 2 * n * q = mul-le-mul h (le_refl q) in
    let k : n * unsigned_abs r ≤ n * (2 * q) = omega (arith, f, g) in
    let m : unsigned_abs r ≤ 2 * q = le_of_mul-le-mul_left k some in
    omega (arith, m, l)

-- ---- an average over n

pub record IsOver (a : Block) (n : ℕ) : Type 0 where
  pub some : 0 < n
  pub few : n ≤ MAX_OPERATORS
  pub entries : HasEntriesWithin (2 * n) a.m

pub over_is : (a : Block) (n : ℕ) → IsSpecialBlock a → pos n ≡ a.n → IsOver a n
over_is a n s e =
    let q : s.over ≡ n = same_pos s.over n (sym s.number ∙ sym e) in
    record { some = omega (arith, s.some, q); few = omega (arith, s.within, q); entries = subst (λ k. HasEntriesWithin (2 * k) a.m) q s.matrix }
  where
    same_pos : (m n : ℕ) → pos m ≡ pos n → m ≡ n
    same_pos m n e = cc

passed_entry : (a : ℤ) (q n : ℕ) → n ≤ MAX_OPERATORS → unsigned_abs a ≤ 2 * n → IsWholeEntry a q n → IsWholeEntry (back w32 a) q n
passed_entry a q n l s h = subst (λ v. IsWholeEntry v q n) (sym (kept w32 384 a (omega (arith, l, s)) tt)) h

-- the entries, as they are passed on
abbrev pub passed_matrix : Matrix → Matrix
passed_matrix m = record { xx = back w32 m.xx; xy = back w32 m.xy; xz = back w32 m.xz; yx = back w32 m.yx; yy = back w32 m.yy; yz = back w32 m.yz; zx = back w32 m.zx; zy = back w32 m.zy; zz = back w32 m.zz }

passed_entries : (q : Sizes) (m : Matrix) (n : ℕ) → n ≤ MAX_OPERATORS → HasEntriesWithin (2 * n) m → AreWholeFor q m n
    → AreWholeEntries q (passed_matrix m) n
passed_entries q m n l w h =
    let e = whole_entries q m n h in
    record {
      xx = passed_entry m.xx q.x n l w.x.first e.xx;
      xy = passed_entry m.xy q.y n l w.x.second e.xy;
      xz = passed_entry m.xz q.z n l w.x.third e.xz;
      yx = passed_entry m.yx q.x n l w.y.first e.yx;
      yy = passed_entry m.yy q.y n l w.y.second e.yy;
      yz = passed_entry m.yz q.z n l w.y.third e.yz;
      zx = passed_entry m.zx q.x n l w.z.first e.zx;
      zy = passed_entry m.zy q.y n l w.z.second e.zy;
      zz = passed_entry m.zz q.z n l w.z.third e.zz;
    }

-- so of an average, from its matrix as it was read
pub read_entries : (a : Block) (q : Sizes) (m : Matrix) (n : ℕ) → m ≡ a.m → IsSpecialBlock a → pos n ≡ a.n → AreWholeFor q m n
    → AreWholeEntries q (passed_matrix m) n
read_entries a q m n is s e whole = let o = over_is a n s e in passed_entries q m n o.few (subst (HasEntriesWithin (2 * n)) (sym is) o.entries) whole

-- an entry of a whole column, as it was passed on and returned
pub multiple_kept : (a r : ℤ) (q n : ℕ) → n ≤ MAX_OPERATORS → unsigned_abs a ≤ 2 * n → unsigned_abs r ≤ 2 * MAX_OPERATORS → back w32 a *ℤ pos q ≡ pos n *ℤ r → a *ℤ pos q ≡ pos n *ℤ back w32 r
multiple_kept a r q n l h s e = ap (λ v. v *ℤ pos q) (sym (kept w32 384 a (omega (arith, l, h)) tt)) ∙ e ∙ ap (λ v. pos n *ℤ v) (sym (kept w32 (2 * MAX_OPERATORS) r s tt))

swapped : (n r : ℤ) → r *ℤ n ≡ n *ℤ r
swapped n r = ring (n ∷ r ∷ []) (var 1 ⊗ var 0) (var 0 ⊗ var 1) tt

-- the quotient that was found, from what was passed on
pub quotient_found : (a m d r : ℤ) (q over : ℕ) → over ≤ MAX_OPERATORS → unsigned_abs a ≤ 2 * over → m ≡ back w32 a *ℤ pos q → unsigned_abs m ≤ 10 ^ 6 → d ≡ pos over → back w64 m ≡ r *ℤ back w64 d → a *ℤ pos q ≡ pos over *ℤ r
quotient_found a m d r q over l h e s f g =
    let x : a *ℤ pos q ≡ m = ap (λ v. v *ℤ pos q) (sym (kept w32 384 a (omega (arith, l, h)) tt)) ∙ sym e in
    let y : back w64 d ≡ pos over = ap (back w64) f ∙ kept w64 MAX_OPERATORS (pos over) l tt in
    x ∙ sym (kept w64 (10 ^ 6) m s tt) ∙ g ∙ ap (λ v. r *ℤ v) y ∙ swapped (pos over) r

pub passed_back : (r : ℤ) → unsigned_abs r ≤ 2 * MAX_OPERATORS → back w32 (back w64 r) ≡ r
passed_back r s = ap (back w32) (kept w64 (2 * MAX_OPERATORS) r s tt) ∙ kept w32 (2 * MAX_OPERATORS) r s tt

pub passed_fits : (r : ℤ) → unsigned_abs r ≤ 2 * MAX_OPERATORS → FitsSigned w32 (back w64 r)
passed_fits r s = subst (FitsSigned w32) (sym (kept w64 (2 * MAX_OPERATORS) r s tt)) (fits w32 ((2 * MAX_OPERATORS) ∷ []) (r ∷ []) (var 0) (s, tt) tt)
