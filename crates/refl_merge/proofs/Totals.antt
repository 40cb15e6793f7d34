-- Counts and sums of values, whatever the order of the lines.
use Rattle.std.proofs.Common.{◌≡◌, ◌↔◌, ◌+◌, ◌<◌, ◌≤◌, ◌*◌, ◌^◌, ℕ, suc, ℤ, pos, negsuc, ◌+ℤ◌, ◌-ℤ◌, unsigned_abs, Bool, true, false, cond, List, [], ◌∷◌, ◌++◌, length, ap, ap₂, sym, ◌∙◌, refl, arith, filter, sum_by, IsPermutation, FitsSigned, w32, w64}
use Rattle.std.proofs.lemmas.Int.{ints, to_z-of_z, fits_signed_from_abs}
use Rattle.std.proofs.lemmas.List.Sorted.{sum_by-IsPermutation, Contains-permutation, IsPermutation-sym}
use Rattle.std.proofs.lemmas.List.Sums.{sum_by-cons, length-filter}
use Rattle.finite_groups.proofs.Members as lists
use Rattle.lattice_algebra.proofs.Machine.{back}
use Rattle.lattice_algebra.proofs.Numbers.{abs_add}
use Rattle.refl_merge.specs.declared.measured.Measured.{Measured}
use Rattle.refl_merge.specs.Merged.{sum_of_values, HasValue}

-- two lists of lines have as many lines, one sum, and a value other than 0 together
pub record HaveOneTotal (a b : List Measured) : Type 0 where
  pub count : length a ≡ length b
  pub sum : sum_of_values a ≡ sum_of_values b
  pub value : HasValue a ↔ HasValue b

-- ---- a sum of whole numbers by its parts above and below 0

above : ℤ → ℕ
above (pos n) = n
above (negsuc n) = 0

below : ℤ → ℕ
below (pos n) = 0
below (negsuc n) = suc n

parts : (z : ℤ) → z ≡ pos (above z) -ℤ pos (below z)
unfolding above below
parts (pos n) = omega (arith, ints)
parts (negsuc n) = omega (arith, ints)

part_sum : (ℤ → ℕ) → (Measured → Bool) → List Measured → ℕ
part_sum part p lines = sum_by (λ (m : Measured). cond (p m) (part m.value) 0) lines

parts_more : (p : Measured → Bool) (m : Measured) (rest : List Measured) (v : ℤ) → v ≡ pos (part_sum above p rest) -ℤ pos (part_sum below p rest)
    → cond (p m) (m.value +ℤ v) v ≡ pos (part_sum above p (m ∷ rest)) -ℤ pos (part_sum below p (m ∷ rest))
unfolding part_sum
parts_more p m rest v e =
    by (p m)
    ∙ ap₂ (λ a b. pos a -ℤ pos b) (sym (sum_by-cons (λ (m : Measured). cond (p m) (above m.value) 0) m rest)) (sym (sum_by-cons (λ (m : Measured). cond (p m) (below m.value) 0) m rest))
  where
    by : (b : Bool) → cond b (m.value +ℤ v) v ≡ pos (cond b (above m.value) 0 + part_sum above p rest) -ℤ pos (cond b (below m.value) 0 + part_sum below p rest)
    by true = let q = parts m.value in omega (arith, ints, e, q)
    by false = omega (arith, ints, e)

sum_of_cond : (b : Bool) (m : Measured) (rest : List Measured) → sum_of_values (cond b (m ∷ rest) rest) ≡ cond b (m.value +ℤ sum_of_values rest) (sum_of_values rest)
sum_of_cond true m rest = refl
sum_of_cond false m rest = refl

filtered_sum : (p : Measured → Bool) (lines : List Measured) → sum_of_values (filter p lines) ≡ pos (part_sum above p lines) -ℤ pos (part_sum below p lines)
unfolding part_sum
filtered_sum p [] = omega (arith, ints)
filtered_sum p (m ∷ rest) = sum_of_cond (p m) m (filter p rest) ∙ parts_more p m rest (sum_of_values (filter p rest)) (filtered_sum p rest)

-- the lines that pass a test, from two orders of the same lines
pub one_total : (p : Measured → Bool) (a b : List Measured) → IsPermutation a b → HaveOneTotal (filter p a) (filter p b)
unfolding part_sum
one_total p a b s = record {
  count = length-filter p a ∙ sym (sum_by-IsPermutation (λ (m : Measured). cond (p m) 1 0) a b s) ∙ sym (length-filter p b);
  sum =
      filtered_sum p a
      ∙ ap₂ (λ m n. pos m -ℤ pos n) (sym (sum_by-IsPermutation (λ (m : Measured). cond (p m) (above m.value) 0) a b s)) (sym (sum_by-IsPermutation (λ (m : Measured). cond (p m) (below m.value) 0) a b s))
      ∙ sym (filtered_sum p b);
  value = (has_value a b s, has_value b a (IsPermutation-sym a b s));
}
  where
    has_value : (a b : List Measured) → IsPermutation a b → HasValue (filter p a) → HasValue (filter p b)
    has_value a b s v =
        let f = lists.Contains-from_filter p v.0 a v.1 in
        (v.0, lists.Contains-filter p v.0 b (Contains-permutation a b v.0 s f.0) f.1, v.2)

-- ---- one line more

pub sum_of_values-append_one : (lines : List Measured) (m : Measured) → sum_of_values (lines ++ m ∷ []) ≡ sum_of_values lines +ℤ m.value
sum_of_values-append_one [] m = omega (arith, ints)
sum_of_values-append_one (first ∷ rest) m =
    let again : sum_of_values (rest ++ m ∷ []) ≡ sum_of_values rest +ℤ m.value = sum_of_values-append_one rest m in
    omega (arith, ints, again)

value_size : (v : ℤ) → FitsSigned w32 v → unsigned_abs v ≤ 2 ^ 31
value_size v f = omega (arith, ints, f)

pub sum_size : (s v : ℤ) (i : ℕ) → FitsSigned w32 v → unsigned_abs s ≤ 2 ^ 31 * i → unsigned_abs (s +ℤ v) ≤ 2 ^ 31 * (i + 1)
sum_size s v i f l = let small : unsigned_abs v ≤ 2 ^ 31 = value_size v f in omega (arith, ints, abs_add s v, small, l)

-- a sum of fewer than 2^32 values goes on within 64 bits
pub summed : (s v w : ℤ) (i : ℕ) → FitsSigned w32 v → w ≡ back w32 v → unsigned_abs s ≤ 2 ^ 31 * i → i + 1 < 2 ^ 32 → back w64 (s +ℤ back w64 w) ≡ s +ℤ v
summed s v w i f e l m =
    let r : w ≡ v = e ∙ to_z-of_z w32 v f in
    let small : unsigned_abs v ≤ 2 ^ 31 = value_size v f in
    let q : back w64 w ≡ v = ap (back w64) r ∙ to_z-of_z w64 v (fits_signed_from_abs w64 v (omega (arith, small))) in
    let size : unsigned_abs (s +ℤ v) ≤ 2 ^ 31 * (i + 1) = sum_size s v i f l in
    ap (λ x. back w64 (s +ℤ x)) q ∙ to_z-of_z w64 (s +ℤ v) (fits_signed_from_abs w64 (s +ℤ v) (omega (arith, size, m)))
