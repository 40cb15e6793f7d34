-- A pair has one parameter form.
use Rattle.std.proofs.Common.{◌≡◌, ◌++◌, ◌∷◌, [], ◌<◌, ◌*◌, ℕ, ℤ, pos, negsuc, ◌+ℤ◌, ◌*ℤ◌, neg_ℤ, subst, ⊎_elim, ap, sym, ◌∙◌, arith}
use Rattle.std.proofs.lemmas.Int.{ints}
use Rattle.std.proofs.lemmas.Bool.{cases_eq}
use Rattle.lattice_algebra.specs.Matrix.{Matrix, Column, entries, coordinates, origin, ◌·ᶜ◌, ◌+ᶜ◌, times, scaled, neg_column}
use Rattle.lattice_algebra.specs.Operator.{AreParts, IsPart}
use Rattle.lattice_algebra.proofs.Ring.{known, var, con, ◌⊕◌, ◌⊗◌, neg, ring_from}
use Rattle.lattice_algebra.proofs.MatrixRing.{matrix_at, column_at, ◌·ˢᶜ◌, ◌+ˢᶜ◌, sym_times, sym_scaled, sym_neg, column_ring}
use Rattle.lattice_algebra.proofs.Numbers.{above, positive_product}
use Rattle.lattice_algebra.proofs.Columns.{cancel_column, swap_times, times_origin}
use Rattle.lattice_algebra.proofs.Remainders.{modulo_same, modulo_part}
use Rattle.space_groups.specs.Keys.{Key}
use Rattle.parameter_forms.specs.Forms.{coordinate, nth_column, IsUnitVector, IsCoefficientMatrix, Form, IsParameterForm, IsSameForm}
use Rattle.parameter_forms.proofs.Along.{sum_along, nothing_free, sum_at, difference_none}
use Rattle.parameter_forms.proofs.Columns.{IsParameterColumn}

-- ---- the columns

number_left : (d e x y : ℤ) → x ≡ d → y ≡ e → e *ℤ x +ℤ neg_ℤ d *ℤ y ≡ pos 0
number_left d e x y p q = ring_from (d ∷ e ∷ x ∷ y ∷ []) (var 1 ⊗ var 2 ⊕ neg (var 0) ⊗ var 3) (con (pos 0)) (known (var 1) (var 2) (var 0) ∷ known (neg (var 0)) (var 3) (var 1) ∷ []) (p, (q, tt)) tt

no_numbers : (d e x y : ℤ) → x ≡ pos 0 → y ≡ pos 0 → e *ℤ x +ℤ neg_ℤ d *ℤ y ≡ pos 0
no_numbers d e x y p q = ring_from (d ∷ e ∷ x ∷ y ∷ []) (var 1 ⊗ var 2 ⊕ neg (var 0) ⊗ var 3) (con (pos 0)) (known (var 1) (var 2) (con (pos 0)) ∷ known (neg (var 0)) (var 3) (con (pos 0)) ∷ []) (p, (q, tt)) tt

module _ (m : Matrix) (d e : ℤ) (j : ℕ) (v w : Column) where
  both_free : IsUnitVector m d j v → IsUnitVector m e j w → times e v ≡ times d w
  both_free p q =
      difference_none d e v w
      (nothing_free m (times e v +ᶜ times (neg_ℤ d) w) (sum_along m e (neg_ℤ d) v w p.along q.along)
      (λ i l free. sum_at d e v w i l (⊎_elim
      (λ h. number_left d e (coordinate v i) (coordinate w i) (ap (coordinate v) h ∙ p.one) (ap (coordinate w) h ∙ q.one))
      (λ h. no_numbers d e (coordinate v i) (coordinate w i) (p.others i free h) (q.others i free h))
      (cases_eq i j))))

  both_none : v ≡ origin → w ≡ origin → times e v ≡ times d w
  both_none p q = ap (times e) p ∙ times_origin e ∙ sym (times_origin d) ∙ sym (ap (times d) q)

  pub one_column : IsParameterColumn m d j v → IsParameterColumn m e j w → times e v ≡ times d w
  one_column p q =
      ⊎_elim (λ a. ⊎_elim (λ b. both_free a.1 b.1) (λ b. absurd (b.0 a.0)) q)
      (λ a. ⊎_elim (λ b. absurd (a.0 b.0)) (λ b. both_none a.1 b.1) q) p

pub one_matrix : (m : Matrix) (d e : ℤ) (b c : Matrix) → IsCoefficientMatrix m d b → IsCoefficientMatrix m e c → scaled e b ≡ scaled d c
unfolding scaled times
one_matrix m d e b c p q =
    let x = one_column m d e 0 (nth_column b 0) (nth_column c 0) (p 0 (omega arith)) (q 0 (omega arith)) in
    let y = one_column m d e 1 (nth_column b 1) (nth_column c 1) (p 1 (omega arith)) (q 1 (omega arith)) in
    let z = one_column m d e 2 (nth_column b 2) (nth_column c 2) (p 2 (omega arith)) (q 2 (omega arith)) in
    λ i. record { xx = (x i).x; yx = (x i).y; zx = (x i).z; xy = (y i).x; yy = (y i).y; zy = (y i).z; xz = (z i).x; yz = (z i).y; zz = (z i).z }

-- ---- the shifts

part_times : (n k : ℕ) (x : ℤ) → 0 < k → IsPart n x → IsPart (n * k) (pos k *ℤ x)
part_times n k (pos a) h p = (omega (arith, ints), (let l : a < n = omega (arith, ints, p.1) in let m : k * a < n * k = below a l in omega (arith, ints, m)))
  where
    below : (a : ℕ) → a < n → k * a < n * k
    below a l = grind arith
part_times n k (negsuc a) h p = absurd (omega (arith, ints, p.0))

parts_times : (n k : ℕ) (c : Column) → 0 < k → AreParts n c → AreParts (n * k) (times (pos k) c)
unfolding times
parts_times n k c h p = record { x = part_times n k c.x h p.x; y = part_times n k c.y h p.y; z = part_times n k c.z h p.z }

scaled-·ᶜ : (d : ℤ) (a : Matrix) (c : Column) → scaled d a ·ᶜ c ≡ times d (a ·ᶜ c)
unfolding scaled ◌·ᶜ◌ times
scaled-·ᶜ d a c = column_ring (d ∷ (entries a ++ coordinates c)) (sym_scaled (var 0) (matrix_at 1) ·ˢᶜ column_at 10) (sym_times (var 0) (matrix_at 1 ·ˢᶜ column_at 10)) tt

-- e n r, where n r is d t - v + u n d w
spread_first : (u n d e : ℤ) (t v w : Column) → times e (times d t +ᶜ neg_column v +ᶜ times (u *ℤ n *ℤ d) w) ≡ times (d *ℤ e) t +ᶜ neg_column (times e v) +ᶜ times (u *ℤ n *ℤ d *ℤ e) w
unfolding times ◌+ᶜ◌ neg_column
spread_first u n d e t v w =
    let U = var 0 in
    let N = var 1 in
    let D = var 2 in
    let E = var 3 in
    let T = column_at 4 in
    let V = column_at 7 in
    let W = column_at 10 in
    column_ring (u ∷ n ∷ d ∷ e ∷ (coordinates t ++ (coordinates v ++ coordinates w)))
    (sym_times E (sym_times D T +ˢᶜ sym_neg V +ˢᶜ sym_times (U ⊗ N ⊗ D) W))
    (sym_times (D ⊗ E) T +ˢᶜ sym_neg (sym_times E V) +ˢᶜ sym_times (U ⊗ N ⊗ D ⊗ E) W)
    tt

-- and d n s, where n s is e t - v + u n e x, with n u d e (w - x) more
spread_second : (u n d e : ℤ) (t v w x : Column) → times (d *ℤ e) t +ᶜ neg_column (times d v) +ᶜ times (u *ℤ n *ℤ d *ℤ e) w ≡ times d (times e t +ᶜ neg_column v +ᶜ times (u *ℤ n *ℤ e) x) +ᶜ times n (times (u *ℤ d *ℤ e) (w +ᶜ neg_column x))
unfolding times ◌+ᶜ◌ neg_column
spread_second u n d e t v w x =
    let U = var 0 in
    let N = var 1 in
    let D = var 2 in
    let E = var 3 in
    let T = column_at 4 in
    let V = column_at 7 in
    let W = column_at 10 in
    let X = column_at 13 in
    column_ring (u ∷ n ∷ d ∷ e ∷ (coordinates t ++ (coordinates v ++ (coordinates w ++ coordinates x))))
    (sym_times (D ⊗ E) T +ˢᶜ sym_neg (sym_times D V) +ˢᶜ sym_times (U ⊗ N ⊗ D ⊗ E) W)
    (sym_times D (sym_times E T +ˢᶜ sym_neg V +ˢᶜ sym_times (U ⊗ N ⊗ E) X) +ˢᶜ sym_times N (sym_times (U ⊗ D ⊗ E) (W +ˢᶜ sym_neg X)))
    tt

taken_out : (n d k : ℤ) (s w : Column) → times d (times n s) +ᶜ times n (times k w) ≡ times n (times d s +ᶜ times k w)
unfolding times ◌+ᶜ◌
taken_out n d k s w =
    column_ring (n ∷ d ∷ k ∷ (coordinates s ++ coordinates w)) (sym_times (var 1) (sym_times (var 0) (column_at 3)) +ˢᶜ sym_times (var 0) (sym_times (var 2) (column_at 6)))
    (sym_times (var 0) (sym_times (var 1) (column_at 3) +ˢᶜ sym_times (var 2) (column_at 6))) tt

module _ (u n d e : ℤ) (b c : Matrix) (r s t w x : Column) where
  difference_whole : times n r ≡ times d t +ᶜ neg_column (b ·ᶜ t) +ᶜ times (u *ℤ n *ℤ d) w → times n s ≡ times e t +ᶜ neg_column (c ·ᶜ t) +ᶜ times (u *ℤ n *ℤ e) x → scaled e b ≡ scaled d c
      → times n (times e r) ≡ times n (times d s +ᶜ times (u *ℤ d *ℤ e) (w +ᶜ neg_column x))
  difference_whole p q same =
      let one : times e (b ·ᶜ t) ≡ times d (c ·ᶜ t) = sym (scaled-·ᶜ e b t) ∙ ap (λ m. m ·ᶜ t) same ∙ scaled-·ᶜ d c t in
      swap_times n e r ∙ ap (times e) p ∙ spread_first u n d e t (b ·ᶜ t) w
      ∙ ap (λ v. times (d *ℤ e) t +ᶜ neg_column v +ᶜ times (u *ℤ n *ℤ d *ℤ e) w) one
      ∙ spread_second u n d e t (c ·ᶜ t) w x
      ∙ ap (λ v. times d v +ᶜ times n (times (u *ℤ d *ℤ e) (w +ᶜ neg_column x))) (sym q)
      ∙ taken_out n d (u *ℤ d *ℤ e) s (w +ᶜ neg_column x)

module _ (unit n : ℕ) (p : Key) (f g : Form) (unit_some : 0 < unit) (some : 0 < n) (is : IsParameterForm unit n p f) (also : IsParameterForm unit n p g) where
  matrices : scaled (pos g.over) f.b ≡ scaled (pos f.over) g.b
  matrices = one_matrix p.m (pos f.over) (pos g.over) f.b g.b is.matrix also.matrix

  abbrev cells : ℕ
  cells = unit * f.over * g.over

  shifts : times (pos g.over) f.s ≡ times (pos f.over) g.s +ᶜ times (pos cells) (is.whole +ᶜ neg_column also.whole)
  shifts =
      cancel_column (pos n) (times (pos g.over) f.s) (times (pos f.over) g.s +ᶜ times (pos cells) (is.whole +ᶜ neg_column also.whole)) (above n some)
      (difference_whole (pos unit) (pos n) (pos f.over) (pos g.over) f.b g.b f.s g.s p.t is.whole also.whole is.shift also.shift matrices)

  pub one_form : IsSameForm f g
  one_form =
      let some_cells : 0 < cells = positive_product (unit * f.over) g.over (positive_product unit f.over unit_some is.some) also.some in
      let a = parts_times (unit * f.over) g.over f.s also.some is.in_cell in
      let b : AreParts cells (times (pos f.over) g.s) = subst (λ k. AreParts k (times (pos f.over) g.s)) (omega arith) (parts_times (unit * g.over) f.over g.s is.some also.in_cell) in
      record {
        matrix = matrices;
        shift = sym (modulo_part cells some_cells (times (pos g.over) f.s) a) ∙ modulo_same cells some_cells (times (pos g.over) f.s) (times (pos f.over) g.s) (is.whole +ᶜ neg_column also.whole) shifts ∙ modulo_part cells some_cells (times (pos f.over) g.s) b;
      }
