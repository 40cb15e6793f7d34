-- Worked examples of the ranges of points, on literals.
use Rattle.std.proofs.Common.{◌≡◌, ◌∷◌, [], pos, negsuc, refl, arith}
use Rattle.std.proofs.lemmas.Int.{ints}
use Rattle.exact_ops.specs.Points.{point_with, IsPointInRange, HasCoordinates}

-- 1/2,-10^9,0, over 24
in_range : IsPointInRange (point_with (pos 12 ∷ negsuc 23999999999 ∷ pos 0 ∷ []) (pos 24))
in_range = record { positive = omega (arith, ints); multiple = refl; denominator = omega (arith, ints); within = record { first = omega arith; second = omega arith; third = omega arith } }

-- 1/2,0,0 over 12: 12 is no multiple of 24
no_multiple : IsPointInRange (point_with (pos 6 ∷ pos 0 ∷ pos 0 ∷ []) (pos 12)) → ⊥
no_multiple p = let e : pos 12 ≡ pos 0 = p.multiple in omega (arith, ints)

-- a twenty-fourth beyond -10^9
beyond : IsPointInRange (point_with (pos 12 ∷ negsuc 24000000000 ∷ pos 0 ∷ []) (pos 24)) → ⊥
beyond p = omega (arith, p.within.second)

-- 1/2,-2/3,5 over 24 times 6
coordinates : HasCoordinates ((pos 1, pos 2) ∷ (negsuc 1, pos 3) ∷ (pos 5, pos 1) ∷ []) (point_with (pos 72 ∷ negsuc 95 ∷ pos 720 ∷ []) (pos 144))
coordinates = record { denominator = refl; x = refl; y = refl; z = refl }

-- and not with y and z exchanged
not_coordinates : HasCoordinates ((pos 1, pos 2) ∷ (negsuc 1, pos 3) ∷ (pos 5, pos 1) ∷ []) (point_with (pos 72 ∷ pos 720 ∷ negsuc 95 ∷ []) (pos 144)) → ⊥
not_coordinates h = let e : pos 2160 ≡ negsuc 287 = h.y in omega (arith, ints)
