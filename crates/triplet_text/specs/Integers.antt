-- Whole numbers as words: digits, with a sign before them or none.
use Rattle.std.specs.Prelude.{◌≡◌, ◌≤◌, ℕ, ℤ, pos, neg_ℤ, List, ◌∷◌, length}
use Rattle.triplet_text.specs.Bytes.{plus_sign, minus_sign}
use Rattle.triplet_text.specs.Coordinates.{AreDigits}
use Rattle.triplet_text.specs.Grammar.{value_of}

-- one to so many digits, and the number that they write
pub record IsNatural (most : ℕ) (text : List ℕ) (n : ℕ) : Type 0 where
  pub digits : AreDigits text
  pub short : length text ≤ most
  pub value : n ≡ value_of text

-- with a sign before it or none: a minus negates it
pub data IsInteger (most : ℕ) : List ℕ → ℤ → Type 0 where
  bare : {text : List ℕ} {n : ℕ} → IsNatural most text n → IsInteger most text (pos n)
  plus : {text : List ℕ} {n : ℕ} → IsNatural most text n → IsInteger most (plus_sign ∷ text) (pos n)
  minus : {text : List ℕ} {n : ℕ} → IsNatural most text n → IsInteger most (minus_sign ∷ text) (neg_ℤ (pos n))
