-- The parts of a text, by the place of the first byte at which it is cut.
use Rattle.std.proofs.Common.{◌≡◌, ℕ, ◌+◌, ◌-◌, Bool, true, false, cond, List, [], ◌∷◌, length, take, drop, Some, None, refl, subst, arith, ltb}
use Rattle.std.specs.List.{slice_split, position, position_or_len}
use Rattle.std.proofs.lemmas.List.Splits.{slice_split_first, slice_split_none}
use Rattle.std.proofs.lemmas.List.Sums.{fails_before_first}
use Rattle.std.proofs.lemmas.List.{take_rest}
use Rattle.std.proofs.lemmas.Bool.{ltb-false}
use borrow.Author.Tests.{ltb-true}

-- which way a choice of Some or None went
some_chosen : (b : Bool) (n i : ℕ) → cond b (Some n) None ≡ Some i → (b ≡ true) × (n ≡ i)
some_chosen true n i e = (refl, cc)
some_chosen false n i e = absurd cc

none_chosen : (b : Bool) (n : ℕ) → cond b (Some n) None ≡ None → b ≡ false
none_chosen true n e = absurd cc
none_chosen false n e = refl

pub cut_some : (p : ℕ → Bool) (xs : List ℕ) (i : ℕ) → position p xs ≡ Some i → slice_split p xs ≡ take i xs ∷ slice_split p (take (length xs - (i + 1)) (drop (i + 1) xs))
cut_some p xs i e =
    let h = some_chosen (ltb (position_or_len p xs) (length xs)) (position_or_len p xs) i e in
    let first : slice_split p xs ≡ take i xs ∷ slice_split p (drop (i + 1) xs) = subst (λ (k : ℕ). slice_split p xs ≡ take k xs ∷ slice_split p (drop (k + 1) xs)) h.1 (slice_split_first p xs 0 (ltb-true _ _ h.0)) in
    rw take_rest first

pub cut_none : (p : ℕ → Bool) (xs : List ℕ) → position p xs ≡ None → slice_split p xs ≡ xs ∷ []
cut_none p xs e =
    let h = ltb-false _ _ (none_chosen (ltb (position_or_len p xs) (length xs)) (position_or_len p xs) e) in
    slice_split_none p xs (λ k d lt. fails_before_first p xs k d (omega arith))
