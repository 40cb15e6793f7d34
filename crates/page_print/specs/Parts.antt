-- Texts of several parts.
use Rattle.std.specs.Prelude.{◌≡◌, ℕ, ℤ, List, [], ◌∷◌, ◌++◌, decimal}
use Rattle.std.specs.Fmt.{signed_decimal}
use Rattle.triplet_text.specs.Bytes.{line_feed, space}

-- this text alone
abbrev pub Is : List ℕ → List ℕ → Type 0
Is this text = text ≡ this

-- such a text, and then such a text
pub record Then (First Later : List ℕ → Type 0) (text : List ℕ) : Type 0 where
  pub first : List ℕ
  pub is_first : First first
  pub later : List ℕ
  pub is_later : Later later
  pub whole : text ≡ first ++ later

-- a heading: a word and a number
abbrev pub counted : List ℕ → ℕ → List ℕ
counted word n = word ++ decimal n ++ line_feed ∷ []

-- the three numbers of an index, with a blank between two
abbrev pub index_text : (h k l : ℤ) → List ℕ
index_text h k l = signed_decimal h ++ space ∷ signed_decimal k ++ space ∷ signed_decimal l
