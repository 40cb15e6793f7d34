-- Coefficients with all their numbers multiplied, and the form that comes of them.
use Rattle.std.proofs.Common.{◌≡◌, ◌≤◌, ◌<◌, ◌*◌, ◌++◌, ◌∷◌, ℕ, zero, suc, ℤ, pos, negsuc, ◌*ℤ◌, unsigned_abs, min, inl, inr, ap, sym, subst, ◌∙◌, ⊎_elim, refl, arith, mul-le-mul}
use Rattle.std.specs.Int.{int_signum}
use Rattle.std.proofs.lemmas.Int.{ints, unsigned_abs-mul}
use lib.IntN.{*ℤ-zero}
use Rattle.lattice_algebra.specs.Matrix.{Matrix, Column, entries, coordinates, ◌·ᶜ◌, ◌+ᶜ◌, times, scaled, neg_column}
use Rattle.lattice_algebra.specs.Operator.{HasEntriesWithin, AreParts, modulo}
use Rattle.lattice_algebra.proofs.Ring.{var, ◌⊗◌, one_times}
use Rattle.lattice_algebra.proofs.MatrixRing.{matrix_at, column_at, ◌·ˢᶜ◌, ◌+ˢᶜ◌, sym_times, sym_scaled, sym_neg, column_ring}
use Rattle.lattice_algebra.proofs.Numbers.{positive_product}
use Rattle.lattice_algebra.proofs.Columns.{swap_times, times_origin, ·ᶜ-times}
use Rattle.lattice_algebra.proofs.Remainders.{modulo_is, modulo_parts}
use Rattle.space_groups.specs.Keys.{Key}
use Rattle.parameter_forms.specs.Forms.{entry, nth_column, IsAlong, IsCoefficientMatrix, IsParameterForm}
use Rattle.parameter_forms.proofs.Columns.{IsParameterColumn}
use Rattle.parameter_forms.proofs.Lines.{times_at}

-- ---- multiples of coefficients

times_along : (m : Matrix) (k : ℤ) (v : Column) → IsAlong m v → IsAlong m (times k v)
times_along m k v p = record { number = p.number; some = p.some; from = times k p.from; equal = swap_times p.number k v ∙ ap (times k) p.equal ∙ sym (·ᶜ-times m k p.from) }

times_column : (m : Matrix) (k d : ℤ) (j : ℕ) (v : Column) → IsParameterColumn m d j v → IsParameterColumn m (k *ℤ d) j (times k v)
times_column m k d j v p =
    ⊎_elim
    (λ f. inl (f.0, record { along = times_along m k v f.1.along; one = times_at k v j ∙ ap (λ x. k *ℤ x) f.1.one; others = λ i free apart. times_at k v i ∙ ap (λ x. k *ℤ x) (f.1.others i free apart) ∙ *ℤ-zero k }))
    (λ n. inr (n.0, ap (times k) n.1 ∙ times_origin k))
    p

scaled_column : (k : ℤ) (b : Matrix) (j : ℕ) → j < 3 → nth_column (scaled k b) j ≡ times k (nth_column b j)
unfolding scaled times
scaled_column k b zero l = refl
scaled_column k b (suc zero) l = refl
scaled_column k b (suc (suc zero)) l = refl
scaled_column k b (suc (suc (suc j))) l = absurd (omega (arith, l))

pub scaled_entry : (k : ℤ) (b : Matrix) (i j : ℕ) → i < 3 → j < 3 → entry (scaled k b) i j ≡ k *ℤ entry b i j
unfolding scaled
scaled_entry k b zero zero p q = refl
scaled_entry k b zero (suc zero) p q = refl
scaled_entry k b zero (suc (suc zero)) p q = refl
scaled_entry k b (suc zero) zero p q = refl
scaled_entry k b (suc zero) (suc zero) p q = refl
scaled_entry k b (suc zero) (suc (suc zero)) p q = refl
scaled_entry k b (suc (suc zero)) zero p q = refl
scaled_entry k b (suc (suc zero)) (suc zero) p q = refl
scaled_entry k b (suc (suc zero)) (suc (suc zero)) p q = refl
scaled_entry k b (suc (suc (suc i))) j p q = absurd (omega (arith, p))
scaled_entry k b i (suc (suc (suc j))) p q = absurd (omega (arith, q))

pub scaled_coefficients : (m : Matrix) (k d : ℤ) (b : Matrix) → IsCoefficientMatrix m d b → IsCoefficientMatrix m (k *ℤ d) (scaled k b)
scaled_coefficients m k d b is j l = subst (IsParameterColumn m (k *ℤ d) j) (sym (scaled_column k b j l)) (times_column m k d j (nth_column b j) (is j l))

product_within : (a n : ℕ) (k x : ℤ) → unsigned_abs k ≤ a → unsigned_abs x ≤ n → unsigned_abs (k *ℤ x) ≤ a * n
product_within a n k x p q = subst (λ v. v ≤ a * n) (sym (unsigned_abs-mul k x)) (mul-le-mul p q)

pub scaled_within : (a n : ℕ) (k : ℤ) (b : Matrix) → unsigned_abs k ≤ a → HasEntriesWithin n b → HasEntriesWithin (a * n) (scaled k b)
unfolding scaled
scaled_within a n k b p h = record {
  x = record { first = product_within a n k b.xx p h.x.first; second = product_within a n k b.xy p h.x.second; third = product_within a n k b.xz p h.x.third };
  y = record { first = product_within a n k b.yx p h.y.first; second = product_within a n k b.yy p h.y.second; third = product_within a n k b.yz p h.y.third };
  z = record { first = product_within a n k b.zx p h.z.first; second = product_within a n k b.zy p h.z.second; third = product_within a n k b.zz p h.z.third };
}

-- ---- a number times its sign

pub sign_small : (d : ℤ) → unsigned_abs (int_signum d) ≤ 1
sign_small (pos zero) = omega arith
sign_small (pos (suc n)) = omega arith
sign_small (negsuc n) = omega arith

pub sign_times : (d : ℤ) → int_signum d *ℤ d ≡ pos (unsigned_abs d)
sign_times (pos zero) = refl
sign_times (pos (suc n)) = let e : min (suc n) 1 ≡ 1 = omega arith in ap (λ k. pos k *ℤ pos (suc n)) e ∙ one_times (pos (suc n))
sign_times (negsuc n) = omega (arith, ints)

-- ---- the form

scaled_image : (n : ℤ) (b : Matrix) (t : Column) → times n (b ·ᶜ t) ≡ scaled n b ·ᶜ t
unfolding times scaled ◌·ᶜ◌
scaled_image n b t = column_ring (n ∷ (entries b ++ coordinates t)) (sym_times (var 0) (matrix_at 1 ·ˢᶜ column_at 10)) (sym_scaled (var 0) (matrix_at 1) ·ˢᶜ column_at 10) tt

spread : (u n d : ℤ) (t v w : Column) → times n (times d t +ᶜ neg_column v +ᶜ times (u *ℤ n *ℤ d) w) ≡ times (n *ℤ d) t +ᶜ neg_column (times n v) +ᶜ times (u *ℤ n *ℤ (n *ℤ d)) w
unfolding times ◌+ᶜ◌ neg_column
spread u n d t v w =
    let U = var 0 in
    let N = var 1 in
    let D = var 2 in
    let T = column_at 3 in
    let V = column_at 6 in
    let W = column_at 9 in
    column_ring (u ∷ n ∷ d ∷ (coordinates t ++ (coordinates v ++ coordinates w))) (sym_times N (sym_times D T +ˢᶜ sym_neg V +ˢᶜ sym_times (U ⊗ N ⊗ D) W)) (sym_times (N ⊗ D) T +ˢᶜ sym_neg (sym_times N V) +ˢᶜ sym_times (U ⊗ N ⊗ (N ⊗ D)) W) tt

-- from coefficients over d, and the shift over unit n d: the form over n d
pub form_found : (unit n d : ℕ) (p : Key) (b : Matrix) (s : Column) → 0 < unit → 0 < n → 0 < d → IsCoefficientMatrix p.m (pos d) b → s ≡ modulo (unit * n * d) (times (pos d) p.t +ᶜ neg_column (b ·ᶜ p.t))
    → IsParameterForm unit n p (record { b = scaled (pos n) b; s = s; over = n * d })
form_found unit n d p b s unit_some some other is e =
    let parts = unit * n * d in
    let some_parts : 0 < parts = positive_product (unit * n) d (positive_product unit n unit_some some) other in
    let rest = times (pos d) p.t +ᶜ neg_column (b ·ᶜ p.t) in
    let k = modulo_is parts some_parts rest in
    record {
      some = positive_product n d some other;
      matrix = scaled_coefficients p.m (pos n) (pos d) b is;
      in_cell = subst (λ m. AreParts m s) (omega arith) (subst (AreParts parts) (sym e) (modulo_parts parts some_parts rest));
      whole = k.0;
      shift = ap (times (pos n)) (e ∙ k.1) ∙ spread (pos unit) (pos n) (pos d) p.t (b ·ᶜ p.t) k.0 ∙ ap (λ v. times (pos (n * d)) p.t +ᶜ neg_column v +ᶜ times (pos (unit * n * (n * d))) k.0) (scaled_image (pos n) b p.t);
    }
