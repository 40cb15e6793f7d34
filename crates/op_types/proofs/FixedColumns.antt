-- The columns that a matrix of finite order fixes are those that the columns of the sum of its powers span.
use Rattle.std.proofs.Common.{◌≡◌, ◌≢◌, ⊎_elim, ◌∷◌, [], ℕ, ◌<◌, ℤ, pos, ◌*ℤ◌, ap, sym, subst, ◌∙◌, refl, arith}
use Rattle.std.proofs.lemmas.Int.{ints}
use lib.IntN.{*ℤ_comm}
use Rattle.lattice_algebra.specs.Matrix.{Matrix, Column, ◌·◌, ◌·ᶜ◌, times, origin, no_matrix}
use Rattle.lattice_algebra.specs.Powers.{sum_of_powers, IsOrder}
use Rattle.lattice_algebra.proofs.Ring.{known, var, con, ◌⊗◌, ring, ring_from}
use Rattle.lattice_algebra.proofs.Columns.{cancel_times, times_origin, times-times, ·ᶜ-times}
use Rattle.lattice_algebra.proofs.Matrices.{·ᶜ_assoc}
use Rattle.lattice_algebra.proofs.Numbers.{cancel_some, zero_or_other}
use Rattle.lattice_algebra.proofs.Powers.{·-sum_of_powers, sum_of_powers-fixed, no_matrix-·ᶜ}
use Rattle.op_types.specs.Axis.{IsMultiple, IsAlong, IsLine, IsAxis, IsDirected, HasNoDivisor}
use Rattle.op_types.specs.Vector.{AreParallel, IsImage}

-- a multiple of k a is a multiple of a
multiple_part : (a c v : Column) (k : ℤ) → c ≡ times k a → IsMultiple c v → IsMultiple a v
multiple_part a c v k e h = (h.0, h.1 *ℤ k, h.2, h.3 ∙ ap (times h.1) e ∙ times-times h.1 k a)

parallel_entry : (k a b u v : ℤ) → k ≢ pos 0 → a *ℤ (k *ℤ v) ≡ b *ℤ (k *ℤ u) → a *ℤ v ≡ b *ℤ u
parallel_entry k a b u v some e = cancel_some k (a *ℤ v) (b *ℤ u) some (ring_from (k ∷ a ∷ b ∷ u ∷ v ∷ []) (var 0 ⊗ (var 1 ⊗ var 4)) (var 0 ⊗ (var 2 ⊗ var 3)) (known (con (pos 1)) (var 1 ⊗ (var 0 ⊗ var 4)) (var 2 ⊗ (var 0 ⊗ var 3)) ∷ []) (e, tt) tt)

parallel_cancel : (k : ℤ) (a c : Column) → k ≢ pos 0 → AreParallel a (times k c) → AreParallel a c
unfolding times
parallel_cancel k a c some p = record {
  xy = parallel_entry k a.x a.y c.x c.y some p.xy;
  yz = parallel_entry k a.y a.z c.y c.z some p.yz;
  zx = parallel_entry k a.z a.x c.z c.x some p.zx;
}

parallel_swap : (a c : Column) → AreParallel a c → AreParallel c a
parallel_swap a c p = record { xy = swap a.x a.y c.x c.y p.xy; yz = swap a.y a.z c.y c.z p.yz; zx = swap a.z a.x c.z c.x p.zx }
  where
    swap : (x y u v : ℤ) → x *ℤ v ≡ y *ℤ u → u *ℤ y ≡ v *ℤ x
    swap x y u v e = *ℤ_comm u y ∙ sym e ∙ *ℤ_comm x v

parallel_times : (k l : ℤ) (a : Column) → AreParallel (times k a) (times l a)
unfolding times
parallel_times k l a = record { xy = swap k l a.x a.y; yz = swap k l a.y a.z; zx = swap k l a.z a.x }
  where
    swap : (k l x y : ℤ) → k *ℤ x *ℤ (l *ℤ y) ≡ k *ℤ y *ℤ (l *ℤ x)
    swap k l x y = let X = var 2 in let Y = var 3 in ring (k ∷ l ∷ x ∷ y ∷ []) (var 0 ⊗ X ⊗ (var 1 ⊗ Y)) (var 0 ⊗ Y ⊗ (var 1 ⊗ X)) tt

-- ---- multiples

-- a column on one line with one that is not the origin is a multiple of it
pub multiple_of : (a c : Column) → a ≢ origin → AreParallel a c → IsMultiple a c
unfolding times
multiple_of a c some p =
    ⊎_elim (λ zx. ⊎_elim (λ zy. ⊎_elim (λ zz. absurd (some (λ i. record { x = zx i; y = zy i; z = zz i })))
    (λ n. (a.z, c.z, n, λ i. record { x = (p.zx ∙ *ℤ_comm a.x c.z) i; y = (sym p.yz ∙ *ℤ_comm a.y c.z) i; z = *ℤ_comm a.z c.z i })) (zero_or_other a.z))
    (λ n. (a.y, c.y, n, λ i. record { x = (sym p.xy ∙ *ℤ_comm a.x c.y) i; y = *ℤ_comm a.y c.y i; z = (p.yz ∙ *ℤ_comm a.z c.y) i })) (zero_or_other a.y))
    (λ n. (a.x, c.x, n, λ i. record { x = *ℤ_comm a.x c.x i; y = (p.xy ∙ *ℤ_comm a.y c.x) i; z = (sym p.zx ∙ *ℤ_comm a.z c.x) i })) (zero_or_other a.x)

-- multiples of one column are on one line
pub multiples_parallel : (a u v : Column) → IsMultiple a u → IsMultiple a v → AreParallel u v
multiples_parallel a u v p q =
    let first = parallel_cancel p.0 (times q.1 a) u p.2 (subst (AreParallel (times q.1 a)) (sym p.3) (parallel_times q.1 p.1 a)) in
    parallel_cancel q.0 u v q.2 (subst (AreParallel u) (sym q.3) (parallel_swap (times q.1 a) u first))

-- ---- what is fixed

-- the image of any column under the sum of the powers is fixed
pub image_fixed : (p s : Matrix) (k : ℕ) (a : Column) → IsOrder p k → s ≡ sum_of_powers p k → IsImage s a → p ·ᶜ a ≡ a
image_fixed p s k a o e h =
    let f : p · s ≡ s = ap (λ m. p · m) e ∙ ·-sum_of_powers p k o.returns ∙ sym e in
    ap (λ c. p ·ᶜ c) h.1 ∙ sym (·ᶜ_assoc p s h.0) ∙ ap (λ m. m ·ᶜ h.0) f ∙ sym h.1

-- a fixed column is k times itself under the sum
pub fixed_image : (p s : Matrix) (k : ℕ) (c : Column) → s ≡ sum_of_powers p k → p ·ᶜ c ≡ c → s ·ᶜ c ≡ times (pos k) c
fixed_image p s k c e f = ap (λ m. m ·ᶜ c) e ∙ sum_of_powers-fixed p k c f

pub some_order : (k : ℕ) → 0 < k → pos k ≢ pos 0
some_order k l e = omega (arith, ints, e)

-- where all images are on one line with a, so is each fixed column
pub fixed_parallel : (p s : Matrix) (k : ℕ) (a c : Column) → IsOrder p k → s ≡ sum_of_powers p k → ((e : Column) → AreParallel a (s ·ᶜ e)) → p ·ᶜ c ≡ c → AreParallel a c
fixed_parallel p s k a c o e all f = parallel_cancel (pos k) a c (some_order k o.positive) (subst (AreParallel a) (fixed_image p s k c e f) (all c))

-- ---- the axis

module _ (p s : Matrix) (k : ℕ) (o : IsOrder p k) (e : s ≡ sum_of_powers p k) where
  -- a column of the sum, other than the origin and on one line with each
  pub along_by : (a : Column) → a ≢ origin → IsImage s a → ((e : Column) → AreParallel a (s ·ᶜ e)) → IsAlong p a
  along_by a some h all = record { some = some; fixed = image_fixed p s k a o e h; all = λ c f. multiple_of a c some (fixed_parallel p s k a c o e all f) }

  -- no line where the sum is nothing
  pub no_line_of_nothing : s ≡ no_matrix → IsLine p → ⊥
  no_line_of_nothing z l =
      let a = l.0 in
      l.1.some (cancel_times (pos k) a origin (some_order k o.positive) (sym (fixed_image p s k a e l.1.fixed) ∙ ap (λ m. m ·ᶜ a) z ∙ no_matrix-·ᶜ a ∙ sym (times_origin (pos k))))

  -- on a line all images of the sum are on one line with each
  pub line_parallel : IsLine p → (a : Column) → IsImage s a → (c : Column) → AreParallel a (s ·ᶜ c)
  line_parallel l a h c = multiples_parallel l.0 a (s ·ᶜ c) (l.1.all a (image_fixed p s k a o e h)) (l.1.all (s ·ᶜ c) (image_fixed p s k (s ·ᶜ c) o e (c, refl)))

-- what is left of a column of the axis when it is divided
pub reduced_axis : (p : Matrix) (c a : Column) (k : ℤ) → IsAlong p c → k ≢ pos 0 → c ≡ times k a → HasNoDivisor a → IsDirected a → IsAxis p a
reduced_axis p c a k l some e n d = record {
  along = record {
    some = λ z. l.some (e ∙ ap (times k) z ∙ times_origin k);
    fixed = cancel_times k (p ·ᶜ a) a some (sym (·ᶜ-times p k a) ∙ ap (λ v. p ·ᶜ v) (sym e) ∙ l.fixed ∙ e);
    all = λ v f. multiple_part a c v k e (l.all v f);
  };
  no_divisor = n;
  directed = d;
}
