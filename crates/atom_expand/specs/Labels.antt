-- The labels of sites. This project's own.
use Rattle.std.specs.Prelude.{◌==◌, ◌||◌, ◌<◌, ◌≤◌, ◌-◌, ◌++◌, ℕ, Bool, List, length, replicate}
use Rattle.std.specs.Char.{is_ascii_alphanumeric}
use Rattle.triplet_text.specs.Tokens.{Each}
use Rattle.atom_expand.specs.declared.TheConstants.{LABEL_LENGTH}

abbrev pub underscore : ℕ
underscore = 95

-- a letter of ASCII, a digit or `_`
abbrev pub is_label_byte : ℕ → Bool
is_label_byte byte = is_ascii_alphanumeric byte || byte == underscore

-- 1 to LABEL_LENGTH such bytes
pub record IsLabel (text : List ℕ) : Type 0 where
  pub some : 0 < length text
  pub short : length text ≤ LABEL_LENGTH
  pub bytes : Each is_label_byte text

-- the text, and zeros behind it
abbrev pub with_zeros : List ℕ → ℕ → List ℕ
with_zeros text len = text ++ replicate (LABEL_LENGTH - len) 0
