-- What single steps of summing compute. Nothing outside of this crate cites them.
use Rattle.std.specs.Prelude.{◌≡◌, ◌<◌, ℕ, zero, suc, ℤ, pos, ◌+ℤ◌, eqb, cond, List, length, slice_index, slice_index_or}

-- the sum of what f gives of the numbers below n
abbrev pub sum_below : (ℕ → ℤ) → ℕ → ℤ
sum_below f zero = pos 0
sum_below f (suc n) = sum_below f n +ℤ f n

-- of the first n values the sum of those with this first place
abbrev pub gathered_at : List ℕ → List ℤ → ℕ → ℕ → ℤ
gathered_at firsts values first n = sum_below (λ k. cond (eqb (slice_index firsts k) first) (slice_index_or values k (pos 0)) (pos 0)) n

-- each place has the sum of those of the first n values that have it as their first place
abbrev pub AreGathered : List ℕ → List ℤ → List ℤ → ℕ → Type 0
AreGathered firsts values sums n = (first : ℕ) → first < length sums → slice_index_or sums first (pos 0) ≡ gathered_at firsts values first n

-- each of the first n places has what its first place had
abbrev pub AreSpread : List ℕ → List ℤ → List ℤ → ℕ → Type 0
AreSpread firsts old new n = (k : ℕ) → k < n → slice_index_or new k (pos 0) ≡ slice_index_or old (slice_index firsts k) (pos 0)

-- each place has the sum of the values at all places that have its first place
abbrev pub AreSummed : List ℕ → List ℤ → List ℤ → Type 0
AreSummed firsts values sums = (k : ℕ) → k < length values → slice_index_or sums k (pos 0) ≡ gathered_at firsts values (slice_index firsts k) (length values)

-- each first place is below n
abbrev pub AreWithin : ℕ → List ℕ → Type 0
AreWithin n firsts = (k : ℕ) → k < length firsts → slice_index firsts k < n

-- a first place has itself as its first
abbrev pub IsItsOwn : List ℕ → Type 0
IsItsOwn firsts = (k : ℕ) → k < length firsts → slice_index firsts (slice_index firsts k) ≡ slice_index firsts k
