-- The sum of the powers of a matrix at a translation, over the parts of a cell times the order, is the intrinsic part.
use Rattle.std.proofs.Common.{◌≡◌, ℕ, ◌*◌, ◌-◌, ◌≤◌, ℤ, pos, ◌*ℤ◌, ap, ap₂, sym, subst, ◌∙◌, arith, w32, to_z, of_z}
use Rattle.std.proofs.lemmas.Int.{ints}
use Rattle.lattice_algebra.specs.Matrix.{Matrix, Column, times, ◌·ᶜ◌}
use Rattle.lattice_algebra.specs.Operator.{Operator, AreWithin}
use Rattle.lattice_algebra.specs.Powers.{IsOrder, sum_of_powers}
use Rattle.exact_ops.specs.Narrow.{IsNarrow}
use Rattle.exact_ops.specs.declared.TheConstants.{UNIT, MAX_ENTRY}
use Rattle.exact_ops.proofs.Narrow.{AreWithin-parts}
use Rattle.group_closure.specs.declared.TheConstants.{MAX_OPERATORS}
use Rattle.op_types.specs.IntrinsicPart.{IsIntrinsicPart}

pub denominator : (k : ℕ) (x : ℤ) → x ≡ pos k → k ≤ MAX_OPERATORS → to_z w32 (of_z w32 (pos UNIT *ℤ to_z w32 (of_z w32 x))) ≡ pos (UNIT * k)
denominator k x e l = omega (arith, ints)

pub intrinsic_part : (f : Operator) (w s : Matrix) (n t : Column) (k : ℕ) (d : ℤ) → w ≡ f.w → t ≡ f.t → IsOrder w k → s ≡ sum_of_powers w k → n ≡ s ·ᶜ t → d ≡ pos (UNIT * k) → IsIntrinsicPart f n d
intrinsic_part f w s n t k d e q o p r h = record {
  positive = let l = o.positive in omega (arith, ints, h);
  order = k;
  is_order = subst (λ m. IsOrder m k) e o;
  equal = ap₂ (λ a c. times a c) (sym h) (r ∙ ap₂ (λ m c. m ·ᶜ c) (p ∙ ap (λ m. sum_of_powers m k) e) q);
}

small : (c : Column) → AreWithin (UNIT - 1) c.x c.y c.z → AreWithin MAX_ENTRY c.x c.y c.z
small c h = omega arith

pub in_cell : (f : Operator) (t : Column) → IsNarrow f → t ≡ f.t → AreWithin MAX_ENTRY t.x t.y t.z
in_cell f t n e = subst (λ (c : Column). AreWithin MAX_ENTRY c.x c.y c.z) (sym e) (small f.t (AreWithin-parts f.t n.is_operator.in_cell))
