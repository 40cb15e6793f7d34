-- Worked examples of the definitions that no test of a function shows by itself, on literals.
use Rattle.std.proofs.Common.{◌≡◌, pos, negsuc, ◌*ℤ◌, ap, refl, arith}
use Rattle.std.proofs.lemmas.Int.{ints}
use Rattle.lattice_algebra.specs.Matrix.{◌·ᶜ◌, ◌+ᶜ◌, times}
use Rattle.lattice_algebra.specs.Operator.{modulo}
use Rattle.lattice_algebra.specs.Map.{operator_of}
use Rattle.lattice_algebra.specs.Point.{Point, image}
use Rattle.lattice_algebra.proofs.Examples.{column, inversion, inverting, point}
use Rattle.orbit_map.specs.OrderedOrbit.{IsScaled}
use Rattle.orbit_map.specs.Placed.{IsPlaced}

-- 12/24,0,0 is over a multiple of 24, and 1/2,0,0 is not
scaled : IsScaled (point (pos 12) (pos 0) (pos 0) (pos 24))
scaled = (record { n = column (pos 12) (pos 0) (pos 0); d = 1; some = omega arith }, refl)

not_scaled : IsScaled (point (pos 1) (pos 0) (pos 0) (pos 2)) → ⊥
not_scaled s = let e : pos 2 ≡ pos 24 *ℤ pos s.0.d = ap (λ (p : Point). p.d) s.1 in omega (arith, ints)

-- -x,-y,-z places 1/10,1/5,3/10 at 9/10,4/5,7/10, and not at -1/10,4/5,7/10
tenths : Point
tenths = point (pos 24) (pos 48) (pos 72) (pos 240)

placed : IsPlaced inverting tenths (point (pos 216) (pos 192) (pos 168) (pos 240))
unfolding tenths operator_of modulo image times ◌·ᶜ◌ ◌+ᶜ◌
placed = record {
  denominator = refl;
  in_cell = (omega (arith, ints), omega (arith, ints), omega (arith, ints), omega (arith, ints), omega (arith, ints), omega (arith, ints));
  by = record { w = inversion; s = column (pos 24) (pos 24) (pos 24) };
  operator = refl;
  is_image = refl;
}

not_placed : IsPlaced inverting tenths (point (negsuc 23) (pos 192) (pos 168) (pos 240)) → ⊥
not_placed p = let l = p.in_cell.0 in omega (arith, ints)
