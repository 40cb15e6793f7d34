use Rattle.std.proofs.Common.{◌≡◌, ◌≤◌, ◌*◌, ℤ, ◌+ℤ◌, unsigned_abs, arith, rules, w32, to_z, of_z}
use Rattle.std.proofs.lemmas.Int.{ints}
use Rattle.lattice_algebra.specs.Matrix.{◌+ᵐ◌}
use Rattle.group_closure.specs.declared.TheConstants.{MAX_OPERATORS}
use Rattle.op_types.proofs.cycle.plus.Goals as goal

added : (x y : ℤ) → unsigned_abs x ≤ 2 * MAX_OPERATORS → unsigned_abs y ≤ 2 → to_z w32 (of_z w32 (to_z w32 (of_z w32 x) +ℤ to_z w32 (of_z w32 y))) ≡ x +ℤ y
added x y h k = omega (arith, ints)

pub returns : goal.returns
unfolding ◌+ᵐ◌
returns c = search (rules, added)
