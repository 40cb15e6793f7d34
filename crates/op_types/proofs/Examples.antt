-- Worked examples: the definitions that no test of a function shows by itself, on literals.
use Rattle.std.proofs.Common.{◌≡◌, ℕ, zero, suc, ◌≤◌, ◌⊎◌, inl, inr, ⊎_elim, ◌*◌, ℤ, pos, negsuc, ◌+ℤ◌, ◌*ℤ◌, unsigned_abs, ap, sym, ◌∙◌, subst, refl, arith, mul-le-mul, le_refl}
use Rattle.std.proofs.lemmas.Int.{ints, unsigned_abs-mul}
use Rattle.lattice_algebra.specs.Matrix.{Matrix, Column, identity, det, scaled, ◌·◌, ◌·ᶜ◌, ◌+ᶜ◌, ◌+ᵐ◌, times}
use Rattle.lattice_algebra.specs.Operator.{Operator, HasEntriesWithin, AreWithin}
use Rattle.lattice_algebra.specs.Map.{◌∘◌, map_of}
use Rattle.lattice_algebra.specs.Powers.{power, sum_of_powers, IsOrder}
use Rattle.lattice_algebra.proofs.Examples.{column, minus, inversion, threefold, its_order}
use Rattle.exact_ops.specs.declared.TheConstants.{UNIT}
use Rattle.op_types.specs.ProperPart.{IsProper, IsProperPart}
use Rattle.op_types.specs.Axis.{IsMultiple, IsAlong, IsDirected, HasNoDivisor, IsAxis}
use Rattle.op_types.specs.SmallPowers.{HasSmallPowers}
use Rattle.op_types.specs.IntrinsicPart.{IsIntrinsicPart, repeated}
use Rattle.op_types.specs.Vector.{AreParallel, Divides, IsImage, x_column_of, y_column_of, z_column_of}

abbrev o : ℤ
o = pos 0

-- ---- intrinsic parts

-- -y+1/3,x-y,z+2/3: three times over it is the translation by 2 cells along z, so its intrinsic part is 2/3 along z
one_order : (w : Matrix) (j k : ℕ) → IsOrder w j → IsOrder w k → j ≡ k
one_order w j k a b =
    let p = a.least k b.positive b.returns in
    let q = b.least j a.positive a.returns in
    omega arith

abbrev screw : Operator
screw = record { w = threefold; t = column (pos 8) o (pos 16) }

screw_three_times : repeated (map_of screw) 3 ≡ record { w = identity; s = column o o (pos 48) }
unfolding repeated ◌∘◌ ◌·◌ ◌·ᶜ◌ ◌+ᶜ◌
screw_three_times = refl

screw_twice : repeated (map_of screw) 2 ≡ map_of screw ∘ map_of screw
unfolding repeated ◌∘◌ ◌·◌ ◌·ᶜ◌ ◌+ᶜ◌
screw_twice = refl

screw_part : IsIntrinsicPart screw (column o o (pos 2)) (pos 3)
unfolding sum_of_powers power times ◌·◌ ◌+ᵐ◌ ◌·ᶜ◌
screw_part = record { positive = omega (arith, ints); order = 3; is_order = its_order; equal = refl }

-- and not -1/3, which is the same modulo the cell
not_screw_part : IsIntrinsicPart screw (column o o minus) (pos 3) → ⊥
unfolding sum_of_powers power times ◌·◌ ◌+ᵐ◌ ◌·ᶜ◌
not_screw_part h =
    let k : h.order ≡ 3 = one_order threefold h.order 3 h.is_order its_order in
    let e = ap (λ (c : Column). c.z) (subst (λ k. times (pos (UNIT * k)) (column o o minus) ≡ times (pos 3) (sum_of_powers threefold k ·ᶜ screw.t)) k h.equal) in
    let z : negsuc 71 ≡ pos 144 = e in
    omega (arith, ints)

-- ---- proper parts

proper : IsProper threefold
unfolding det
proper = omega (arith, ints)

not_proper : IsProper inversion → ⊥
unfolding det
not_proper p = omega (arith, ints, p)

-- that of the inversion is the identity
proper_part : IsProperPart inversion identity
unfolding scaled
proper_part = record { same = λ p. absurd (not_proper p); opposite_of = λ n. refl }

not_proper_part : IsProperPart threefold identity → ⊥
not_proper_part h = let e : pos 1 ≡ o = ap (λ (m : Matrix). m.xx) (h.same proper) in omega (arith, ints)

-- ---- axes

-- -6,-3,0 is a multiple of 2,1,0, and 1,2,0 is none
multiple : IsMultiple (column (pos 2) (pos 1) o) (column (negsuc 5) (negsuc 2) o)
unfolding times
multiple = (pos 1, negsuc 2, (λ e. omega (arith, ints)), refl)

no_multiple : IsMultiple (column (pos 2) (pos 1) o) (column (pos 1) (pos 2) o) → ⊥
unfolding times
no_multiple h =
    let x : h.0 *ℤ pos 1 ≡ h.1 *ℤ pos 2 = ap (λ (c : Column). c.x) h.3 in
    let y : h.0 *ℤ pos 2 ≡ h.1 *ℤ pos 1 = ap (λ (c : Column). c.y) h.3 in
    h.2 (omega (arith, ints))

directed : IsDirected (column o (pos 1) (negsuc 4))
directed = inr (refl, inl (omega (arith, ints)))

not_directed : IsDirected (column o minus (pos 5)) → ⊥
not_directed (inl l) = omega (arith, ints)
not_directed (inr (e, inl l)) = omega (arith, ints)
not_directed (inr (e, inr r)) = let y : minus ≡ o = r.0 in omega (arith, ints)

-- 2,4,0 has the divisor 2
has_divisor : HasNoDivisor (column (pos 2) (pos 4) o) → ⊥
unfolding times
has_divisor h = let l : 2 ≤ 1 = h 2 (column (pos 1) (pos 2) o) refl in omega arith

-- -y,x-y,z fixes the multiples of 0,0,1
along : IsAlong threefold (column o o (pos 1))
unfolding ◌·ᶜ◌ times
along = record {
  some = λ e. let z : pos 1 ≡ o = ap (λ (c : Column). c.z) e in omega (arith, ints);
  fixed = refl;
  all = λ c e.
      let x : o *ℤ c.x +ℤ minus *ℤ c.y +ℤ o *ℤ c.z ≡ c.x = ap (λ (v : Column). v.x) e in
      let y : pos 1 *ℤ c.x +ℤ minus *ℤ c.y +ℤ o *ℤ c.z ≡ c.y = ap (λ (v : Column). v.y) e in
      (pos 1, c.z, (λ h. omega (arith, ints)), λ i. record { x = first c.x c.y c.z x y i; y = second c.x c.y c.z x y i; z = third c.z i });
}
  where
    first : (x y z : ℤ) → o *ℤ x +ℤ minus *ℤ y +ℤ o *ℤ z ≡ x → pos 1 *ℤ x +ℤ minus *ℤ y +ℤ o *ℤ z ≡ y → pos 1 *ℤ x ≡ z *ℤ o
    first x y z p q = omega (arith, ints, p, q)

    second : (x y z : ℤ) → o *ℤ x +ℤ minus *ℤ y +ℤ o *ℤ z ≡ x → pos 1 *ℤ x +ℤ minus *ℤ y +ℤ o *ℤ z ≡ y → pos 1 *ℤ y ≡ z *ℤ o
    second x y z p q = omega (arith, ints, p, q)

    third : (z : ℤ) → pos 1 *ℤ z ≡ z *ℤ pos 1
    third z = omega (arith, ints)

-- the identity fixes more than the multiples of 1,0,0
not_along : IsAlong identity (column (pos 1) o o) → ⊥
unfolding ◌·ᶜ◌ times
not_along l =
    let k = l.all (column o (pos 1) o) refl in
    let y : k.0 *ℤ pos 1 ≡ k.1 *ℤ o = ap (λ (c : Column). c.y) k.3 in
    k.2 (omega (arith, ints, y))

axis : IsAxis threefold (column o o (pos 1))
unfolding times
axis = record { along = along; no_divisor = λ d b e. one_factor d (unsigned_abs b.z) (ap (λ (c : Column). unsigned_abs c.z) e ∙ unsigned_abs-mul (pos d) b.z); directed = inr (refl, inr (refl, omega (arith, ints))) }
  where
    one_factor : (d k : ℕ) → 1 ≡ d * k → d ≤ 1
    one_factor d zero e = absurd (omega (arith, e))
    one_factor d (suc k) e = let l : d * 1 ≤ d * suc k = mul-le-mul (le_refl d) (omega arith) in omega (arith, e, l)

not_axis : IsAxis threefold (column o o (pos 2)) → ⊥
unfolding times
not_axis a = let l : 2 ≤ 1 = a.no_divisor 2 (column o o (pos 1)) refl in omega arith

-- ---- steps

parallel : AreParallel (column (pos 2) (pos 1) o) (column (negsuc 5) (negsuc 2) o)
parallel = record { xy = refl; yz = refl; zx = refl }

not_parallel : AreParallel (column (pos 2) (pos 1) o) (column (pos 1) (pos 2) o) → ⊥
not_parallel p = let e : pos 4 ≡ pos 1 = p.xy in omega (arith, ints)

divides : Divides (pos 3) (column (negsuc 5) (pos 3) o)
unfolding times
divides = (column (negsuc 1) (pos 1) o, refl)

not_divides : Divides (pos 3) (column (negsuc 5) (pos 4) o) → ⊥
unfolding times
not_divides d = let y : pos 4 ≡ pos 3 *ℤ d.0.y = ap (λ (c : Column). c.y) d.1 in omega (arith, ints)

-- the columns of -y,x-y,z, and the image of the last one
columns : (x_column_of threefold ≡ column o (pos 1) o) × (y_column_of threefold ≡ column minus minus o) × (z_column_of threefold ≡ column o o (pos 1))
columns = (refl, refl, refl)

an_image : IsImage threefold (column minus minus o)
unfolding ◌·ᶜ◌
an_image = (column o (pos 1) o, refl)

-- the powers of -x,-y,-z are it and the identity
alternates : (k : ℕ) → (power inversion k ≡ identity) ⊎ (power inversion k ≡ inversion)
unfolding power ◌·◌
alternates zero = inl refl
alternates (suc k) = ⊎_elim (λ e. inr (ap (λ m. inversion · m) e)) (λ e. inl (ap (λ m. inversion · m) e)) (alternates k)

small_powers : HasSmallPowers inversion
unfolding power ◌·◌
small_powers = record { narrow = narrow; period = 2; positive = omega arith; short = omega arith; returns = refl }
  where
    row : (a b c : ℤ) → unsigned_abs a ≤ 1 → unsigned_abs b ≤ 1 → unsigned_abs c ≤ 1 → AreWithin 2 a b c
    row a b c p q r = record { first = omega arith; second = omega arith; third = omega arith }

    diagonal : (a : ℤ) → unsigned_abs a ≤ 1 → HasEntriesWithin 2 (record { xx = a; xy = o; xz = o; yx = o; yy = a; yz = o; zx = o; zy = o; zz = a })
    diagonal a p = record { x = row a o o p (omega arith) (omega arith); y = row o a o (omega arith) p (omega arith); z = row o o a (omega arith) (omega arith) p }

    narrow : (k : ℕ) → HasEntriesWithin 2 (power inversion k)
    narrow k = ⊎_elim (λ e. subst (HasEntriesWithin 2) (sym e) (diagonal (pos 1) (omega arith))) (λ e. subst (HasEntriesWithin 2) (sym e) (diagonal minus (omega arith))) (alternates k)
