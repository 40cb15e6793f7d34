-- Worked examples of the definitions that no test of a function shows by itself, on literals.
use Rattle.std.proofs.Common.{◌≡◌, ◌∷◌, [], ℤ, pos, negsuc, codes, ap, refl, arith}
use Rattle.std.proofs.lemmas.Int.{ints}
use Rattle.std.proofs.lemmas.List.Elements.{All-nil, All-cons}
use Rattle.lattice_algebra.specs.Matrix.{Column, scaled, times, identity, origin}
use Rattle.lattice_algebra.specs.Operator.{Operator}
use Rattle.triplet_text.specs.Bytes.{space}
use Rattle.triplet_text.specs.Dividers.{IsDivider, percents, AreDivided, divided}
use Rattle.triplet_text.specs.Printing.{IsPrintable, HasPrintableComponents, IsSameMap}
use Rattle.triplet_text.proofs.Dividers.{divider_to}

-- x,y,z+1 over 2 has the translation 48, and over 1 the translation 24
abbrev doubled : ℤ → Operator
doubled z = record { w = scaled (pos 2) identity; t = record { x = pos 0; y = pos 0; z = z } }

abbrev single : Operator
single = record { w = identity; t = record { x = pos 0; y = pos 0; z = pos 24 } }

one_map : IsSameMap 2 (doubled (pos 48)) 1 single
unfolding scaled times
one_map = record { matrix = refl; translation = refl }

other_map : IsSameMap 2 (doubled (pos 24)) 1 single → ⊥
unfolding times
other_map s = let e : pos 24 ≡ pos 48 = ap (λ (c : Column). c.z) s.translation in omega (arith, ints)

-- -2*x over 2 has the entry -4, within 4; over 1 it is beyond 2
abbrev wide : Operator
wide = record { w = scaled (negsuc 3) identity; t = origin }

printable : IsPrintable 2 wide
unfolding scaled
printable =
    record {
      positive = omega arith;
      over = omega arith;
      narrow = record { x = record { first = omega arith; second = omega arith; third = omega arith }; y = record { first = omega arith; second = omega arith; third = omega arith }; z = record { first = omega arith; second = omega arith; third = omega arith } };
      parts = record { first = omega arith; second = omega arith; third = omega arith };
    }

not_printable : IsPrintable 1 wide → ⊥
unfolding scaled
not_printable p = omega (arith, p.narrow.x.first)

-- it has components that can be printed, over each number up to 100000000
by_components : HasPrintableComponents 1 wide
unfolding scaled
by_components =
    record {
      positive = omega arith;
      over = omega arith;
      entries = record { x = record { first = omega arith; second = omega arith; third = omega arith }; y = record { first = omega arith; second = omega arith; third = omega arith }; z = record { first = omega arith; second = omega arith; third = omega arith } };
      parts = record { first = omega arith; second = omega arith; third = omega arith };
    }

not_by_components : HasPrintableComponents 100000001 wide → ⊥
not_by_components p = omega (arith, p.over)

-- ---- dividers

divider : IsDivider (codes " %% ")
divider = percents (space ∷ []) (space ∷ []) (refl, tt) (refl, tt)

not_three : IsDivider (codes "%%%") → ⊥
not_three d = let e = divider_to d in absurd cc

not_behind_more : IsDivider (codes "x,y,z") → ⊥
not_behind_more d = let e = divider_to d in absurd cc

-- what stands behind the first divider is data, another divider too
division : AreDivided (codes "x,y,z" ∷ codes "%%" ∷ codes "A 0 0 0" ∷ codes "%%" ∷ []) (codes "x,y,z" ∷ []) (codes "A 0 0 0" ∷ codes "%%" ∷ []) 3
division = divided {head = codes "x,y,z" ∷ []} (codes "%%") (percents [] [] tt tt) (All-cons (λ line. ¬ IsDivider line) (codes "x,y,z") [] not_behind_more (All-nil (λ line. ¬ IsDivider line)))
