-- The definitions on examples: averages of groups of P-1, in parts of a cell of 24; only examples cite these.
use Rattle.std.proofs.Common.{◌≡◌, ℕ, ℤ, pos, negsuc, refl, ap, arith}
use Rattle.std.proofs.lemmas.Int.{ints}
use Rattle.lattice_algebra.specs.Matrix.{Column, no_matrix, origin, scaled, times, ◌·◌, ◌·ᶜ◌, ◌+ᶜ◌}
use Rattle.lattice_algebra.specs.Operator.{AreWithin, IsPart}
use Rattle.lattice_algebra.proofs.Examples.{both}
use Rattle.space_groups.specs.Averages.{Block, block_times, block_scaled}
use Rattle.space_groups.specs.Rows.{row_point}
use Rattle.affine_sets.specs.Averages.{IsSpecialBlock, whole_part, IsKeyInCell}
use Rattle.affine_sets.specs.Conditions.{IsMade}
use Rattle.affine_sets.specs.Conjugates.{shift_number}

abbrev pub column : ℤ → Column
column x = record { x = x; y = pos 0; z = pos 0 }

-- the inversion at x / 48,0,0 and the identity
abbrev pub middle : ℤ → Block
middle x = record { m = no_matrix; t = column x; n = pos 2 }

pub none : (n : ℕ) → AreWithin n (pos 0) (pos 0) (pos 0)
none n = record { first = omega arith; second = omega arith; third = omega arith }

half_is_special : IsSpecialBlock (middle (pos 24))
unfolding block_times block_scaled scaled times ◌·◌ ◌·ᶜ◌ ◌+ᶜ◌
half_is_special = record {
  over = 2;
  number = refl;
  some = omega arith;
  within = omega arith;
  matrix = record { x = none 4; y = none 4; z = none 4 };
  translation = record { first = omega arith; second = omega arith; third = omega arith };
  idempotent = refl;
}

-- at 3/2,0,0 it is one cell on, and at -1/2,0,0 one cell back
one_cell_on : whole_part (middle (pos 72)) ≡ column (pos 1)
one_cell_on = refl

one_cell_back : whole_part (middle (negsuc 23)) ≡ column (negsuc 0)
one_cell_back = refl

-- its key lies in the cell, that of 3/2,0,0 does not
half_in_cell : IsKeyInCell (record { key = record { m = no_matrix; t = column (pos 24) }; over = 2 })
half_in_cell =
    let zero : IsPart 48 (pos 0) = omega (arith, ints) in
    record { some = omega arith; within = omega arith; matrix = record { x = none 4; y = none 4; z = none 4 }; in_cell = record { x = omega (arith, ints); y = zero; z = zero } }

beyond_the_cell : IsKeyInCell (record { key = record { m = no_matrix; t = column (pos 72) }; over = 2 }) → ⊥
beyond_the_cell h = let p = h.in_cell.x.1 in omega (arith, ints, p)

-- the point 1/2,0,0 is M z + t, and the origin is for no z
half_is_made : IsMade both (middle (pos 24)) (record { n = column (pos 1); d = pos 2 })
unfolding row_point ◌·ᶜ◌ ◌+ᶜ◌ times
half_is_made = record { from = record { n = origin; d = pos 1 }; is_point = omega (arith, ints); equal = refl }

origin_not_made : IsMade both (middle (pos 24)) (record { n = column (pos 0); d = pos 1 }) → ⊥
unfolding row_point ◌·ᶜ◌ ◌+ᶜ◌ times
origin_not_made h = let e = ap (λ (c : Column). c.x) h.equal in let p = h.is_point in omega (arith, ints, e, p)

-- the whole shift 1,1,1 of 2, 3 and 4 has the number 17
seventeenth : shift_number (record { x = 2; y = 3; z = 4 }) 17 ≡ record { x = pos 1; y = pos 1; z = pos 1 }
seventeenth = refl
