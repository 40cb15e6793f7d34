-- The operator of three components, by its numbers.
use Rattle.std.proofs.Common.{◌≡◌, ◌∙◌, ◌+◌, ◌*◌, ◌^◌, ap, arith, to_z, of_z, w32, w64}
use Rattle.std.specs.Prelude.{ℤ}
use Rattle.std.proofs.lemmas.Int.{ints}
use Rattle.lattice_algebra.specs.Operator.{IsPart}
use Rattle.exact_ops.specs.declared.TheConstants.{UNIT}
use Rattle.triplet_text.specs.declared.component.Component.{Component}
use Rattle.triplet_text.specs.declared.triplet.TheConstants.{LINE_LENGTH}
use Rattle.triplet_text.specs.Components.{Within}
use Rattle.triplet_text.specs.Triplets.{modulo_cell, operator_by}

pub operator_is : (a b c : Component) (ax ay az bx by_ bz cx cy cz s t u : ℤ) → ax ≡ a.x → ay ≡ a.y → az ≡ a.z → bx ≡ b.x → by_ ≡ b.y → bz ≡ b.z → cx ≡ c.x → cy ≡ c.y → cz ≡ c.z
    → s ≡ modulo_cell a.parts → t ≡ modulo_cell b.parts → u ≡ modulo_cell c.parts
    → record { w = record { xx = ax; xy = ay; xz = az; yx = bx; yy = by_; yz = bz; zx = cx; zy = cy; zz = cz }; t = record { x = s; y = t; z = u } } ≡ operator_by a b c
operator_is a b c ax ay az bx by_ bz cx cy cz s t u e1 e2 e3 e4 e5 e6 e7 e8 e9 f g h = cc

-- an entry that was written in 32 bits, of a component that was read
pub entry_is : (n : ℤ) → Within (9 * (LINE_LENGTH + 1)) n → to_z w32 (of_z w32 n) ≡ n
entry_is n small = omega (arith, ints)

pub parts_within : (n : ℤ) → Within (10 ^ 14 * (LINE_LENGTH + 1)) n → Within (10 ^ 17) n
parts_within n small = omega (arith, ints)

-- a number of parts that a function returned, of parts that were passed to it
pub part_is : (parts n : ℤ) → IsPart UNIT n → Within (10 ^ 17) parts → n ≡ modulo_cell (to_z w64 (of_z w64 parts)) → to_z w32 (of_z w32 n) ≡ modulo_cell parts
part_is parts n p small e =
    let back : to_z w32 (of_z w32 n) ≡ n = omega (arith, ints) in
    let passed : to_z w64 (of_z w64 parts) ≡ parts = omega (arith, ints) in
    back ∙ e ∙ ap modulo_cell passed
