use Rattle.std.proofs.Common.{◌≡◌, ◌≤◌, ℤ, pos, negsuc, ◌-ℤ◌, ◌*ℤ◌, unsigned_abs, arith, rules, w32, to_z, of_z}
use Rattle.std.proofs.lemmas.Int.{ints}
use Rattle.lattice_algebra.specs.Matrix.{scaled}
use Rattle.group_closure.proofs.runs.opposite_of.Goals as goal

negated : (x : ℤ) → unsigned_abs x ≤ 2 → to_z w32 (of_z w32 (pos 0 -ℤ to_z w32 (of_z w32 x))) ≡ negsuc 0 *ℤ x
negated x h = omega (arith, ints)

pub returns : goal.returns
unfolding scaled
returns c = search (rules, negated)
