-- What a sink with room for one text has of a text that it was handed.
use Rattle.std.proofs.Common.{◌≡◌, ◌<◌, ◌≤◌, ◌∙◌, ℕ, List, [], ◌++◌, length, take, sym, ap, ap₂, arith, inl, inr}
use Rattle.std.proofs.Math.Seq.{take-append_seam}
use Rattle.std.proofs.lemmas.List.{take_all}
use Rattle.std.proofs.lemmas.Bool.{cases_lt}
use Rattle.sg_io.specs.Count.{Rose}

-- it is the front of the text for which there was room
pub front_told : (room : ℕ) (held front rest text : List ℕ) (refused : ℕ) → held ≡ [] ++ front → front ++ rest ≡ text → length held ≤ room → (length held < room → refused ≡ 0) → ((Rose 0 0 → ⊥) → (Rose 0 refused → ⊥) → held ≡ [] ++ text) → held ≡ take room text
front_told room held front rest text refused e f within zero whole = elim (cases_lt (length held) room) [
  | inl less ↦
      let none = zero less in
      let all : held ≡ text = whole (λ rose. absurd (omega (arith, rose))) (λ rose. absurd (omega (arith, rose, none))) in
      all ∙ sym (take_all room text (omega (arith, ap length all)))
  | inr full ↦
      let is : held ≡ front = e in
      let room_is : room ≡ length held = omega arith in
      let split : held ++ rest ≡ text = ap (λ (xs : List ℕ). xs ++ rest) is ∙ f in
      sym (ap₂ take room_is (sym split) ∙ take-append_seam held rest)
]
