-- Translations by whole cells are elements of the space group.
use Rattle.std.proofs.Common.{◌≡◌, ◌∷◌, ℕ, ◌<◌, ℤ, pos, Contains, sym, ◌∙◌, refl, subst, arith}
use Rattle.std.proofs.lemmas.Int.{ints}
use Rattle.lattice_algebra.specs.Matrix.{Column, coordinates, ◌+ᶜ◌, times, origin}
use Rattle.lattice_algebra.specs.Operator.{IsPart, AreParts, identity_operator}
use Rattle.lattice_algebra.specs.Map.{operator_of}
use Rattle.lattice_algebra.proofs.Ring.{var}
use Rattle.lattice_algebra.proofs.MatrixRing.{column_at, ◌+ˢᶜ◌, sym_times, sym_origin, column_ring}
use Rattle.lattice_algebra.proofs.Remainders.{modulo_same, modulo_part}
use Rattle.lattice_algebra.proofs.Maps.{operator_path}
use Rattle.space_groups.specs.Space.{IsElement}
use Rattle.space_groups.specs.Regions.{shift_by}
use Rattle.space_groups.proofs.Elements.{SpaceGroup}

-- ---- whole shifts are elements

origin_part : (unit : ℕ) → 0 < unit → AreParts unit origin
origin_part unit h = let z : IsPart unit (pos 0) = omega (arith, ints) in record { x = z; y = z; z = z }

whole_origin : (u : ℤ) (k : Column) → times u k ≡ origin +ᶜ times u k
unfolding ◌+ᶜ◌ times
whole_origin u k = column_ring (u ∷ coordinates k) (sym_times (var 0) (column_at 1)) (sym_origin +ˢᶜ sym_times (var 0) (column_at 1)) tt

pub shift_operator : (unit : ℕ) → 0 < unit → (k : Column) → operator_of unit (shift_by unit k) ≡ identity_operator
unfolding operator_of
shift_operator unit h k = operator_path _ _ refl (modulo_same unit h (times (pos unit) k) origin k (whole_origin (pos unit) k) ∙ modulo_part unit h origin (origin_part unit h))

pub shift_in : (L : SpaceGroup) (k : Column) → IsElement L.unit L.members (shift_by L.unit k)
shift_in L k = subst (Contains L.members) (sym (shift_operator L.unit L.some k)) L.closed.has_one
