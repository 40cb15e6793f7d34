-- The intrinsic part of a symmetry operation. International Tables A: the translation along its axis or plane.
use Rattle.std.specs.Prelude.{◌≡◌, ℕ, zero, suc, ℤ, pos, ◌*◌, ◌<ℤ◌}
use Rattle.lattice_algebra.specs.Matrix.{Column, ◌·ᶜ◌, times}
use Rattle.lattice_algebra.specs.Operator.{Operator}
use Rattle.lattice_algebra.specs.Map.{Map, ◌∘◌, identity_map}
use Rattle.lattice_algebra.specs.Powers.{IsOrder, sum_of_powers}
use Rattle.exact_ops.specs.declared.TheConstants.{UNIT}

-- n / d is the intrinsic part of (W, t): (1/k) (W^(k-1) + .. + W + I) t / UNIT, where k is the order of W
pub record IsIntrinsicPart (f : Operator) (n : Column) (d : ℤ) : Type 0 where
  pub positive : pos 0 <ℤ d
  pub order : ℕ
  pub is_order : IsOrder f.w order
  pub equal : times (pos (UNIT * order)) n ≡ times d (sum_of_powers f.w order ·ᶜ f.t)

-- the map g, k times one after the other
unfoldable pub repeated : Map → ℕ → Map
repeated g zero = identity_map
repeated g (suc k) = repeated g k ∘ g
