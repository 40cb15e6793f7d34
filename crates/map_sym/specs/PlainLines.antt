-- Lines that are a number alone, at the beginning of a text.
use Rattle.std.specs.Prelude.{◌≡◌, ◌<◌, ℕ, ℤ, List, [], ◌∷◌, ◌++◌, length, Option, MatchOption}
use Rattle.std.specs.Borrow.{Bor}
use Rattle.triplet_text.specs.Bytes.{line_feed}
use Rattle.triplet_text.specs.Integers.{IsNatural, IsInteger}
use Rattle.triplet_text.specs.Lines.{lines_of}
use Rattle.data_lines.specs.DataLines.{AddsWritten, IsBadLine}
use Rattle.data_lines.specs.declared.number.TheConstants.{NUMBER_DIGITS}
use Rattle.map_sym.specs.declared.reading.ValueFault.{ValueFault}
use Rattle.map_sym.specs.declared.reading.ValueFault.TheVariants.{Bad, Count, NoMemory}
use Rattle.map_sym.specs.ValueLines.{IsValueLine, IsFirstBad}

-- the first line is digits that write n, and the rest follows its line feed
pub record IsDigitsLine (text : List ℕ) (n : ℕ) (rest : List ℕ) : Type 0 where
  pub field : List ℕ
  pub cut : text ≡ field ++ line_feed ∷ rest
  pub is_natural : IsNatural NUMBER_DIGITS field n

-- the first line is digits with a sign before them or none, which write the value, and the rest follows its line feed
pub record IsPlainLine (text : List ℕ) (value : ℤ) (rest : List ℕ) : Type 0 where
  pub field : List ℕ
  pub cut : text ≡ field ++ line_feed ∷ rest
  pub is_value : IsInteger NUMBER_DIGITS field value

-- ---- steps of reading

-- the first line of the text was taken: a list grew by what it writes, and more is what follows its line feed
pub record IsTaken (text : List ℕ) (more : Option (Bor (List ℕ))) (old new : List ℤ) : Type 0 where
  pub line : List ℕ
  pub cut : MatchOption more (lines_of text ≡ line ∷ []) (λ rest. lines_of text ≡ line ∷ lines_of rest.now)
  pub shorter : MatchOption more (line ≡ text) (λ rest. length rest.now < length text)
  pub written : AddsWritten IsValueLine (line ∷ []) old new

-- the first of the lines, of number k, is bad; or memory was wanted
abbrev pub IsLineFaultAt : ℕ → List (List ℕ) → ValueFault → Type 0
IsLineFaultAt k lines (Bad n) = (n ≡ k) × ((line : List ℕ) × (rest : List (List ℕ)) × (lines ≡ line ∷ rest) × IsBadLine IsValueLine line)
IsLineFaultAt k lines (Count n) = ⊥
IsLineFaultAt k lines NoMemory = Unit {0}

-- one of the lines is the first bad one; or memory was wanted
abbrev pub IsLineFaultOf : ℕ → List (List ℕ) → ValueFault → Type 0
IsLineFaultOf first lines (Bad k) = IsFirstBad first lines k
IsLineFaultOf first lines (Count n) = ⊥
IsLineFaultOf first lines NoMemory = Unit {0}
