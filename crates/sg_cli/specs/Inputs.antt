-- What a command is answered over: a made group, or the lines of an input, where a divider may stand between operators and data.
use Rattle.std.specs.Prelude.{◌≡◌, List, [], ℕ}
use Rattle.triplet_text.specs.Dividers.{AreDivided}
use Rattle.sg_cli.specs.declared.words.Input.{Input}
use Rattle.sg_cli.specs.declared.words.Input.TheVariants.{Made, Operators, OperatorsAndData}
use Rattle.sg_cli.specs.declared.words.Name.{Name}
use Rattle.sg_cli.specs.declared.words.Name.TheVariants as named
use Rattle.sg_cli.specs.Words.{Given, family, Asked, IsAsked}

-- what each command is answered over
abbrev pub input_of : (name : Name) → Given (family name) → Input
input_of named.Sample seed = Made seed
input_of named.Atoms given = OperatorsAndData
input_of named.Merge given = OperatorsAndData
input_of named.Map given = OperatorsAndData
input_of other given = Operators

abbrev pub input_for : Asked → Input
input_for asked = input_of asked.name asked.given

abbrev pub IsMade : Input → Type 0
IsMade (Made seed) = Unit {0}
IsMade other = ⊥

-- the words are a command that reads no input
abbrev pub ReadsNothing : List (List ℕ) → Type 0
ReadsNothing words = (asked : Asked) × IsAsked words asked × IsMade (input_for asked)

-- ---- the parts of an input

-- data lines, counted from a number on
pub record DataLines : Type 0 where
  pub lines : List (List ℕ)
  pub first : ℕ

abbrev pub no_data : DataLines
no_data = record { lines = []; first = 1 }

-- lines of operators, and data lines
pub record Parts : Type 0 where
  pub head : List (List ℕ)
  pub tail : DataLines

-- where data are read, the lines are divided at the first divider; else all are lines of operators
abbrev pub AreParts : Input → List (List ℕ) → Parts → Type 0
AreParts OperatorsAndData lines parts = AreDivided lines parts.head parts.tail.lines parts.tail.first
AreParts other lines parts = parts ≡ record { head = lines; tail = no_data }
