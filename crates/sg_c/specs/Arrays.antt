-- Arrays of questions about a group, and of their answers, as C has them.
use Rattle.std.specs.Prelude.{◌≡◌, ◌≢◌, ◌<◌, ◌⊎◌, ◌↔◌, ℕ, Option, None, IfSome, List, length, slice_index_or}
use Rattle.std.specs.List.{All}
use Rattle.lattice_algebra.specs.Operator as lattice
use Rattle.sg_c.specs.declared.TheConstants.{OUT_OF_RANGE, WRONG_COUNT, EMPTY}

-- there is one answer for each question, at its place
pub record AreAnswers {Q A : Type 0} (IsAnswer : Q → A → Type 0) (questions : List Q) (answers : List A) : Type 0 where
  pub counted : length answers ≡ length questions
  pub each : (k : ℕ) (q : Q) (a : A) → k < length questions → IsAnswer (slice_index_or questions k q) (slice_index_or answers k a)

-- the question at this place cannot be asked, and each before it can
pub record IsFirstBad {Q : Type 0} (CanAsk : Q → Type 0) (questions : List Q) (place : ℕ) : Type 0 where
  pub within : place < length questions
  pub bad : (q : Q) → CanAsk (slice_index_or questions place q) → ⊥
  pub before : (k : ℕ) (q : Q) → k < place → CanAsk (slice_index_or questions k q)

-- a call is refused with this status, whatever the group: the arrays are of different lengths, or the question at the place `bad` is
-- the first that cannot be asked
pub record IsRefusal {Q : Type 0} (CanAsk : Q → Type 0) (questions : List Q) (answers_count bad status : ℕ) : Type 0 where
  pub either : (status ≡ WRONG_COUNT) ⊎ (status ≡ OUT_OF_RANGE)
  pub wrong_count : (status ≡ WRONG_COUNT) ↔ (length questions ≢ answers_count)
  pub out_of_range : status ≡ OUT_OF_RANGE → IsFirstBad CanAsk questions bad

-- what a status says: the arrays are of different lengths; or the question at the place `bad` is the first that cannot be asked; or
-- no group is held. Where it is 0, each question is answered about the group, and otherwise no answer is written
pub record IsEachAnswered {Q A : Type 0} (CanAsk : Q → Type 0) (IsAnswer : List lattice.Operator → Q → A → Type 0) (group : Option (List lattice.Operator)) (questions : List Q) (old new : List A) (old_bad bad status : ℕ) : Type 0 where
  pub wrong_count : (status ≡ WRONG_COUNT) ↔ (length questions ≢ length old)
  pub out_of_range : status ≡ OUT_OF_RANGE → IsFirstBad CanAsk questions bad
  pub no_bad : status ≢ OUT_OF_RANGE → bad ≡ old_bad
  pub in_range : status ≢ WRONG_COUNT → status ≢ OUT_OF_RANGE → All CanAsk questions
  pub empty : status ≡ EMPTY → group ≡ None
  pub held : group ≡ None → status ≢ 0
  pub answered : status ≡ 0 → IfSome group (λ members. AreAnswers (IsAnswer members) questions new)
  pub unwritten : status ≢ 0 → new ≡ old
  pub no_other : (status ≡ 0) ⊎ ((status ≡ WRONG_COUNT) ⊎ ((status ≡ OUT_OF_RANGE) ⊎ (status ≡ EMPTY)))

-- what a status says: no group is held, or the array has not as many places as the group has members. Where it is 0, each member
-- is told of, and otherwise nothing is written
pub record IsEachTold {A : Type 0} (IsSo : lattice.Operator → A → Type 0) (group : Option (List lattice.Operator)) (old new : List A) (status : ℕ) : Type 0 where
  pub empty : (status ≡ EMPTY) ↔ (group ≡ None)
  pub wrong_count : IfSome group (λ members. (status ≡ WRONG_COUNT) ↔ (length members ≢ length old))
  pub told : status ≡ 0 → IfSome group (λ members. AreAnswers IsSo members new)
  pub unwritten : status ≢ 0 → new ≡ old
  pub no_other : (status ≡ 0) ⊎ ((status ≡ WRONG_COUNT) ⊎ (status ≡ EMPTY))
