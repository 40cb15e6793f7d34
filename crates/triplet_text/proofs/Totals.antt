-- A total of n terms stays small.
use Rattle.std.proofs.Common.{◌≡◌, ℕ, ◌+◌, ◌≤◌, Bool, true, false, cond, eqb, List, [], ◌∷◌, length, get_or, take, drop, ◌-◌, Some, refl, arith}
use Rattle.std.proofs.lemmas.Bool.{ne_eqb}
use Rattle.std.proofs.lemmas.List.{take_rest}
use Rattle.triplet_text.specs.Bytes.{minus_sign}
use Rattle.triplet_text.specs.Pieces.{trim}
use Rattle.triplet_text.specs.Terms.{term_of}
use Rattle.triplet_text.specs.Sums.{before_sign, behind_signs, total, StartsWithSign}
use Rattle.std.specs.Prelude.{ℤ, neg_ℤ, ◌+ℤ◌}
use Rattle.std.proofs.lemmas.Int.{ints}
use Rattle.triplet_text.specs.declared.component.Component.{Component}
use Rattle.triplet_text.specs.Components.{IsSumOf, plus, behind}

behind_cases : (n : ℕ) (v t : Component) (b : Bool) → IsSumOf n v → IsSumOf 1 t → IsSumOf (n + 1) (plus v (cond b (record { x = neg_ℤ t.x; y = neg_ℤ t.y; z = neg_ℤ t.z; parts = neg_ℤ t.parts }) t))
behind_cases n v t true p q = omega (arith, ints)
behind_cases n v t false p q = omega (arith, ints)

pub IsSumOf-more : (n sign : ℕ) (v t : Component) → IsSumOf n v → IsSumOf 1 t → IsSumOf (n + 1) (plus v (behind sign t))
IsSumOf-more n sign v t p q = behind_cases n v t (eqb sign minus_sign) p q

pub IsSumOf-wider : (n m : ℕ) (v : Component) → n ≤ m → IsSumOf n v → IsSumOf m v
IsSumOf-wider n m v le p = omega (arith, ints)

-- the sum, by its numbers
pub plus_is : (sign : ℕ) (v t : Component) (x y z parts : ℤ) → sign ≡ minus_sign → x ≡ v.x +ℤ neg_ℤ t.x → y ≡ v.y +ℤ neg_ℤ t.y → z ≡ v.z +ℤ neg_ℤ t.z → parts ≡ v.parts +ℤ neg_ℤ t.parts
    → plus v (behind sign t) ≡ record { x = x; y = y; z = z; parts = parts }
plus_is sign v t x y z parts minus ex ey ez et = rw (minus, ex, ey, ez, et) refl

pub plus_is_plain : (sign : ℕ) (v t : Component) (x y z parts : ℤ) → (sign ≡ minus_sign → ⊥) → x ≡ v.x +ℤ t.x → y ≡ v.y +ℤ t.y → z ≡ v.z +ℤ t.z → parts ≡ v.parts +ℤ t.parts
    → plus v (behind sign t) ≡ record { x = x; y = y; z = z; parts = parts }
plus_is_plain sign v t x y z parts other ex ey ez et = rw (ne_eqb sign minus_sign other, ex, ey, ez, et) refl

-- one more term behind its sign
pub total_more : (v t : Component) (rest front more : List ℕ) → 1 ≤ length rest → StartsWithSign rest → front ≡ before_sign (take (length rest - 1) (drop 1 rest)) → behind_signs more ≡ behind_signs (take (length rest - 1) (drop 1 rest)) → Some t ≡ term_of (trim front)
    → total (plus v (behind (get_or rest 0 0) t)) (behind_signs more) ≡ total v (behind_signs rest)
total_more v t [] front more some sign e_part s_part h = absurd (omega arith)
total_more v t (byte ∷ after) front more some sign e_part s_part h =
    let e = rw take_rest at e_part in
    let s = rw take_rest at s_part in
    let one : behind_signs (byte ∷ after) ≡ (byte, front) ∷ behind_signs more = rw (sign, e, s) refl in
    rw (one, ← h) refl
