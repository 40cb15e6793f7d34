-- Worked examples of changes of coordinates: the definitions on literals, in parts of a cell of 24.
use Rattle.std.proofs.Common.{◌≡◌, ℤ, pos, negsuc, ap, refl, [], ◌∷◌, arith}
use Rattle.std.proofs.lemmas.Int.{ints}
use Rattle.lattice_algebra.specs.Matrix.{Column, matrix_of, ◌·◌, ◌·ᶜ◌, ◌+ᶜ◌, neg_column, times, scaled, identity, det, adjugate}
use Rattle.lattice_algebra.specs.Operator.{Operator, modulo}
use Rattle.lattice_algebra.specs.Map.{Map, operator_of}
use Rattle.lattice_algebra.specs.Point.{◌≈◌}
use Rattle.lattice_algebra.proofs.Examples.{column, minus, inversion, point}
use Rattle.space_groups.specs.Bases.{CoordinateChange, IsInvertible, IsChanged, changed_map, changed_operator, changed_point}

abbrev o : ℤ
o = pos 0

abbrev one : ℤ
one = pos 1

abbrev shift : ℤ → ℤ → ℤ → Map
shift x y z = record { w = identity; s = column x y z }

-- ---- another volume

-- -x+y+z,x-y+z,x+y-z: the centring translation 1/2,1/2,0 becomes the whole cell 0,0,1
abbrev to_primitive : CoordinateChange
to_primitive = record { w = matrix_of (minus ∷ one ∷ one ∷ one ∷ minus ∷ one ∷ one ∷ one ∷ minus ∷ []); t = column o o o; d = one }

centring : IsChanged to_primitive (shift (pos 12) (pos 12) o) (shift o o (pos 24))
unfolding ◌·◌ ◌·ᶜ◌ ◌+ᶜ◌ times
centring = record { rotation = refl; translation = refl }

-- its inverse over the rationals is (0 2 2, 2 0 2, 2 2 0) over 4
invertible : IsInvertible to_primitive.w
unfolding ◌·◌ scaled
invertible = record {
  v = matrix_of (o ∷ pos 2 ∷ pos 2 ∷ pos 2 ∷ o ∷ pos 2 ∷ pos 2 ∷ pos 2 ∷ o ∷ []);
  k = pos 4;
  some = λ e. omega (arith, ints, e);
  right = refl;
  left = refl;
}

-- and the other way round, y+z,x+z,x+y over 2
abbrev to_centred : CoordinateChange
to_centred = record { w = matrix_of (o ∷ one ∷ one ∷ one ∷ o ∷ one ∷ one ∷ one ∷ o ∷ []); t = column o o o; d = pos 2 }

and_back : IsChanged to_centred (shift o o (pos 24)) (shift (pos 12) (pos 12) o)
unfolding ◌·◌ ◌·ᶜ◌ ◌+ᶜ◌ times
and_back = record { rotation = refl; translation = refl }

-- ---- another origin

abbrev inverted : ℤ → ℤ → ℤ → Map
inverted x y z = record { w = inversion; s = column x y z }

-- 2x+1/8,2y,2z+1/24 over 2: the inversion at the origin stands at 1/8,0,1/24
abbrev moved_origin : CoordinateChange
moved_origin = record { w = scaled (pos 2) identity; t = column (pos 3) o one; d = pos 2 }

moved_inversion : IsChanged moved_origin (inverted o o o) (inverted (pos 6) o (pos 2))
unfolding ◌·◌ ◌·ᶜ◌ ◌+ᶜ◌ times scaled
moved_inversion = record { rotation = refl; translation = refl }

-- and not at the origin
not_unmoved : IsChanged moved_origin (inverted o o o) (inverted o o o) → ⊥
unfolding ◌·◌ ◌·ᶜ◌ ◌+ᶜ◌ times scaled
not_unmoved e = let x : negsuc 5 ≡ pos 6 = ap (λ (c : Column). c.x) e.translation in omega (arith, ints)

-- 1/8,0,1/24 is what the origin becomes
moved_point : changed_point 24 moved_origin (point o o o one) ≈ point (pos 3) o one (pos 24)
unfolding ◌·ᶜ◌ ◌+ᶜ◌ times scaled changed_point
moved_point = refl

-- ---- another basis

-- y,z,x+1/4: the twofold axis -x,y,-z+1/2 along the second direction becomes x,-y+1/2,-z+1/2 along the first
abbrev turned : CoordinateChange
turned = record { w = matrix_of (o ∷ one ∷ o ∷ o ∷ o ∷ one ∷ one ∷ o ∷ o ∷ []); t = column o o (pos 6); d = one }

abbrev axis : Operator
axis = record { w = matrix_of (minus ∷ o ∷ o ∷ o ∷ one ∷ o ∷ o ∷ o ∷ minus ∷ []); t = column o o (pos 12) }

turned_axis : changed_operator 24 turned axis ≡ record { w = matrix_of (one ∷ o ∷ o ∷ o ∷ minus ∷ o ∷ o ∷ o ∷ minus ∷ []); t = column o (pos 12) (pos 12) }
unfolding operator_of changed_map modulo ◌·◌ ◌·ᶜ◌ ◌+ᶜ◌ neg_column scaled det adjugate
turned_axis = refl

-- x+y,y,z: the glide plane x,-y+1/2,z+1/2 becomes x-2*y+1/2,-y+1/2,z+1/2, and with the exchanged matrix x+2*y
abbrev sheared : CoordinateChange
sheared = record { w = matrix_of (one ∷ one ∷ o ∷ o ∷ one ∷ o ∷ o ∷ o ∷ one ∷ []); t = column o o o; d = one }

abbrev glide : Operator
glide = record { w = matrix_of (one ∷ o ∷ o ∷ o ∷ minus ∷ o ∷ o ∷ o ∷ one ∷ []); t = column o (pos 12) (pos 12) }

abbrev sheared_glide : ℤ → Operator
sheared_glide n = record { w = matrix_of (one ∷ n ∷ o ∷ o ∷ minus ∷ o ∷ o ∷ o ∷ one ∷ []); t = column (pos 12) (pos 12) (pos 12) }

glide_sheared : changed_operator 24 sheared glide ≡ sheared_glide (negsuc 1)
unfolding operator_of changed_map modulo ◌·◌ ◌·ᶜ◌ ◌+ᶜ◌ neg_column scaled det adjugate
glide_sheared = refl

not_exchanged : changed_operator 24 sheared glide ≡ sheared_glide (pos 2) → ⊥
unfolding operator_of changed_map modulo ◌·◌ ◌·ᶜ◌ ◌+ᶜ◌ neg_column scaled det adjugate
not_exchanged e = let x : negsuc 1 ≡ pos 2 = ap (λ (f : Operator). f.w.xy) e in omega (arith, ints)
