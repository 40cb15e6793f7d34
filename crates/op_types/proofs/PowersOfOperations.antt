-- An operation, as often as the order of its matrix says, is the translation by so many times its intrinsic part.
use Rattle.std.proofs.Common.{◌<ℤ◌, ◌≡◌, ◌↔◌, ℕ, zero, suc, ◌*◌, ℤ, pos, ap, sym, subst, ◌∙◌, refl, arith}
use Rattle.std.proofs.lemmas.Int.{ints}
use Rattle.lattice_algebra.specs.Matrix.{Matrix, Column, ◌·◌, ◌·ᶜ◌, times, identity}
use Rattle.lattice_algebra.specs.Operator.{Operator}
use Rattle.lattice_algebra.specs.Map.{Map, ◌∘◌, map_of}
use Rattle.lattice_algebra.specs.Powers.{power, sum_of_powers, IsOrder}
use Rattle.lattice_algebra.proofs.Columns.{cancel_column, swap_columns, ·ᶜ-times}
use Rattle.lattice_algebra.proofs.Maps.{map_path}
use Rattle.lattice_algebra.proofs.Powers.{power-one, power-more, power-add, no_matrix-·ᶜ, +ᵐ-·ᶜ}
use Rattle.exact_ops.specs.declared.TheConstants.{UNIT}
use Rattle.op_types.specs.IntrinsicPart.{IsIntrinsicPart, repeated}
use Rattle.op_types.proofs.FixedColumns.{image_fixed}
use Rattle.op_types.proofs.OneType.{same_order}

commutes : (w : Matrix) (k : ℕ) → power w k · w ≡ w · power w k
commutes w k = ap (λ m. power w k · m) (sym (power-one w)) ∙ sym (power-add w k 1) ∙ power-more w k

-- the matrix W^k, and the translation (W^(k-1) + .. + I) t
abbrev so_far : Operator → ℕ → Map
so_far f k = record { w = power f.w k; s = sum_of_powers f.w k ·ᶜ f.t }

once_more : (f : Operator) (k : ℕ) → so_far f k ∘ map_of f ≡ so_far f (suc k)
unfolding ◌∘◌ power sum_of_powers
once_more f k =
    let s = sum_of_powers f.w k in
    map_path _ _ (commutes f.w k) (swap_columns (power f.w k ·ᶜ f.t) (s ·ᶜ f.t) ∙ sym (+ᵐ-·ᶜ s (power f.w k) f.t))

repeats : (f : Operator) (k : ℕ) → repeated (map_of f) k ≡ so_far f k
unfolding repeated power sum_of_powers
repeats f zero = map_path _ _ refl (sym (no_matrix-·ᶜ f.t))
repeats f (suc k) = ap (λ g. g ∘ map_of f) (repeats f k) ∙ once_more f k

pub returned : (f : Operator) (k : ℕ) → IsOrder f.w k → (repeated (map_of f) k).w ≡ identity
returned f k o = ap (λ (g : Map). g.w) (repeats f k) ∙ o.returns

shift : (f : Operator) (k : ℕ) → (repeated (map_of f) k).s ≡ sum_of_powers f.w k ·ᶜ f.t
shift f k = ap (λ (g : Map). g.s) (repeats f k)

pub translated : (f : Operator) (n : Column) (d : ℤ) (k : ℕ) → pos 0 <ℤ d → IsOrder f.w k → IsIntrinsicPart f n d ↔ (times d (repeated (map_of f) k).s ≡ times (pos (UNIT * k)) n)
translated f n d k p o = (
  λ h. subst (λ j. times d (repeated (map_of f) k).s ≡ times (pos (UNIT * j)) n) (same_order f.w h.order k h.is_order o)
      (ap (times d) (shift f k ∙ ap (λ j. sum_of_powers f.w j ·ᶜ f.t) (sym (same_order f.w h.order k h.is_order o))) ∙ sym h.equal),
  λ e. record { positive = p; order = k; is_order = o; equal = sym e ∙ ap (times d) (shift f k) },
)

pub fixed : (f : Operator) (n : Column) (d : ℤ) → IsIntrinsicPart f n d → f.w ·ᶜ n ≡ n
fixed f n d h =
    let k = h.order in
    let v = sum_of_powers f.w k ·ᶜ f.t in
    let e = pos (UNIT * k) in
    let own = image_fixed f.w (sum_of_powers f.w k) k v h.is_order refl (f.t, refl) in
    cancel_column e (f.w ·ᶜ n) n (let l = h.is_order.positive in omega (arith, ints))
    (sym (·ᶜ-times f.w e n) ∙ ap (λ c. f.w ·ᶜ c) h.equal ∙ ·ᶜ-times f.w d v ∙ ap (times d) own ∙ sym h.equal)
