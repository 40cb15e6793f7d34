use Rattle.std.proofs.Common.{◌≡◌, ◌≤◌, ◌-◌, ℤ, pos, ◌-ℤ◌, neg_ℤ, unsigned_abs, arith, w32, to_z, of_z}
use Rattle.std.proofs.lemmas.Int.{ints}
use Rattle.lattice_algebra.specs.Matrix.{neg_column}
use Rattle.exact_ops.specs.declared.TheConstants.{UNIT}
use Rattle.exact_ops.proofs.matrix.Vector.negated.Goals as goal

opposite : (x : ℤ) → unsigned_abs x ≤ UNIT - 1 → to_z w32 (of_z w32 (pos 0 -ℤ to_z w32 (of_z w32 x))) ≡ neg_ℤ x
opposite x h = omega (arith, ints)

pub returns-clause-value : goal.returns-clause-value
unfolding neg_column
returns-clause-value c =
    let v = c.args.self.now in
    let r = c.requires in
    λ i. record { x = opposite v.x r.first i; y = opposite v.y r.second i; z = opposite v.z r.third i }
