-- The lines of an input: what they say, and which of them is the first bad one.
use Rattle.std.specs.Prelude.{◌≡◌, ◌==◌, ◌⊎◌, ℕ, ◌+◌, List, [], ◌∷◌, ◌++◌, length}
use Rattle.std.specs.List.{All, slice_split}
use Rattle.lattice_algebra.specs.Matrix.{IsUnimodular}
use Rattle.lattice_algebra.specs.Operator.{Operator}
use Rattle.triplet_text.specs.declared.lines.LineFault.{LineFault}
use Rattle.triplet_text.specs.declared.lines.LineFault.TheVariants.{Unreadable, NotUnimodular, NoMemory}
use Rattle.triplet_text.specs.Bytes.{is_blank, line_feed, hash}
use Rattle.triplet_text.specs.Tokens.{Each}
use Rattle.triplet_text.specs.Grammar.{IsTriplet}

-- cut at each line feed; what follows the last one is a line too
abbrev pub lines_of : List ℕ → List (List ℕ)
lines_of bytes = slice_split (λ byte. byte == line_feed) bytes

-- a line of blanks alone, or whose first byte that is no blank is '#'
pub data IsSkipped : List ℕ → Type 0 where
  blank : {line : List ℕ} → Each is_blank line → IsSkipped line
  comment : (blanks rest : List ℕ) → Each is_blank blanks → IsSkipped (blanks ++ hash ∷ rest)

-- ---- lines that say something, of whatever kind

-- a line that is skipped, or says something
abbrev pub IsGoodFor : {A : Type 0} → (List ℕ → A → Type 0) → List ℕ → Type 0
IsGoodFor {A = A} Says line = IsSkipped line ⊎ ((x : A) × Says line x)

-- line by line: each is skipped or says something, and the list has what is said, in order
pub data AreSaid {A : Type 0} (Says : List ℕ → A → Type 0) : List (List ℕ) → List A → Type 0 where
  end : AreSaid Says [] []
  skipped : {line : List ℕ} {lines : List (List ℕ)} {list : List A} → IsSkipped line → AreSaid Says lines list → AreSaid Says (line ∷ lines) list
  read : {line : List ℕ} {lines : List (List ℕ)} {x : A} {list : List A} → Says line x → AreSaid Says lines list → AreSaid Says (line ∷ lines) (x ∷ list)

-- a list grew by what these lines say
pub record AddsSaid {A : Type 0} (Says : List ℕ → A → Type 0) (lines : List (List ℕ)) (old new : List A) : Type 0 where
  pub added : List A
  pub read : AreSaid Says lines added
  pub grown : new ≡ old ++ added

-- the lines are counted from a number on: line k is bad, or such as is asked for, and each line before it is good
pub record IsFirstBadFrom (first : ℕ) (Good Bad : List ℕ → Type 0) (lines : List (List ℕ)) (k : ℕ) : Type 0 where
  pub before : List (List ℕ)
  pub line : List ℕ
  pub after : List (List ℕ)
  pub cut : lines ≡ before ++ line ∷ after
  pub good : All Good before
  pub number : k ≡ length before + first
  pub bad : Bad line

-- ---- lines that are triplets, counted from 1

-- a line that is not skipped and is no triplet
pub record IsUnreadable (line : List ℕ) : Type 0 where
  pub kept : ¬ IsSkipped line
  pub no_triplet : (f : Operator) → ¬ IsTriplet line f

-- a line that is not skipped and is a triplet whose matrix has no whole inverse
pub record IsNotUnimodular (line : List ℕ) : Type 0 where
  pub kept : ¬ IsSkipped line
  pub operator : Operator
  pub triplet : IsTriplet line operator
  pub not_unimodular : ¬ IsUnimodular operator.w

-- a line that is not skipped and is a triplet
pub record IsTripletLine (line : List ℕ) : Type 0 where
  pub kept : ¬ IsSkipped line
  pub operator : Operator
  pub triplet : IsTriplet line operator

-- a line that is not skipped and is a triplet of f, whose matrix has a whole inverse
pub record IsRead (line : List ℕ) (f : Operator) : Type 0 where
  pub kept : ¬ IsSkipped line
  pub triplet : IsTriplet line f
  pub unimodular : IsUnimodular f.w

abbrev pub IsGood : List ℕ → Type 0
IsGood = IsGoodFor IsRead

-- each line is skipped or read, and the list has what is read, in order
abbrev pub AreRead : List (List ℕ) → List Operator → Type 0
AreRead = AreSaid IsRead

-- a list grew by what is read of these lines
abbrev pub AddsRead : List (List ℕ) → List Operator → List Operator → Type 0
AddsRead = AddsSaid IsRead

-- line k is the first bad one, or the first such as is asked for
abbrev pub IsFirstBad : (List ℕ → Type 0) → List (List ℕ) → ℕ → Type 0
IsFirstBad Bad = IsFirstBadFrom 1 IsGood Bad

-- a fault names the first bad line by its kind; memory is wanted for a triplet alone, behind lines that are good
abbrev pub IsFaultOf : List (List ℕ) → LineFault → Type 0
IsFaultOf lines (Unreadable k) = IsFirstBad IsUnreadable lines k
IsFaultOf lines (NotUnimodular k) = IsFirstBad IsNotUnimodular lines k
IsFaultOf lines NoMemory = (k : ℕ) × IsFirstBad IsTripletLine lines k

-- a fault names line k, by its kind; memory is wanted for a triplet alone
abbrev pub IsFaultAt : ℕ → List ℕ → LineFault → Type 0
IsFaultAt k line (Unreadable n) = (n ≡ k) × IsUnreadable line
IsFaultAt k line (NotUnimodular n) = (n ≡ k) × IsNotUnimodular line
IsFaultAt k line NoMemory = IsTripletLine line
