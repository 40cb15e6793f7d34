-- Data lines: each is skipped, or writes a value; which of them is the first bad one.
use Rattle.std.specs.Prelude.{◌≡◌, ℕ, List}
use Rattle.triplet_text.specs.Lines.{IsSkipped, IsGoodFor, AreSaid, AddsSaid, IsFirstBadFrom}
use Rattle.data_lines.specs.declared.read.DataFault.{DataFault}
use Rattle.data_lines.specs.declared.read.DataFault.TheVariants.{Bad, NoMemory}

module _ {A : Type 0} (IsWritten : List ℕ → A → Type 0) where
  -- a line that is not skipped, and writes x
  pub record IsDataLine (line : List ℕ) (x : A) : Type 0 where
    pub kept : ¬ IsSkipped line
    pub written : IsWritten line x

  -- a line that is not skipped, and writes a value
  pub record IsWrittenLine (line : List ℕ) : Type 0 where
    pub kept : ¬ IsSkipped line
    pub value : A
    pub written : IsWritten line value

  -- a line that is not skipped, and writes no value
  pub record IsBadLine (line : List ℕ) : Type 0 where
    pub kept : ¬ IsSkipped line
    pub unwritten : (x : A) → ¬ IsWritten line x

  -- line by line: each is skipped or writes a value, and the list has the values, in order
  abbrev pub AreWritten : List (List ℕ) → List A → Type 0
  AreWritten = AreSaid IsDataLine

  -- a list grew by the values that these lines write
  abbrev pub AddsWritten : List (List ℕ) → List A → List A → Type 0
  AddsWritten = AddsSaid IsDataLine

  -- counted from first on, line k is the first bad one, or the first such as is asked for
  abbrev pub IsFirstSuch : (List ℕ → Type 0) → ℕ → List (List ℕ) → ℕ → Type 0
  IsFirstSuch IsSuch first = IsFirstBadFrom first (IsGoodFor IsDataLine) IsSuch

  -- a fault names the first bad line; memory is wanted for a value alone, behind lines that are good
  abbrev pub IsDataFaultOf : ℕ → List (List ℕ) → DataFault → Type 0
  IsDataFaultOf first lines (Bad k) = IsFirstSuch IsBadLine first lines k
  IsDataFaultOf first lines NoMemory = (k : ℕ) × IsFirstSuch IsWrittenLine first lines k

  -- a fault names line k, which is bad; memory is wanted for a value alone
  abbrev pub IsDataFaultAt : ℕ → List ℕ → DataFault → Type 0
  IsDataFaultAt k line (Bad n) = (n ≡ k) × IsBadLine line
  IsDataFaultAt k line NoMemory = IsWrittenLine line
