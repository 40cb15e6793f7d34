-- What a handle holds, and how closing is refused.
use Rattle.std.specs.Prelude.{◌≡◌, ◌<◌, ⊤, ℕ, List, length}
use Rattle.lattice_algebra.specs.Operator.{Operator}
use Rattle.triplet_text.specs.declared.lines.LineFault.TheVariants as lines
use Rattle.triplet_text.specs.Lines.{lines_of, AreRead, IsFaultOf}
use Rattle.group_closure.specs.Words.{IsUnclosed}
use Rattle.sg_cli.specs.declared.TheConstants.{MAX_INPUT}
use Rattle.sg_cli.specs.declared.fault.Fault.{Fault}
use Rattle.sg_cli.specs.declared.fault.Fault.TheVariants.{TooLong, Unreadable, NotUnimodular, Unclosed, NoMemory}
use Rattle.sg_cli.specs.Fault.{status_of}

-- the operators of the input generate none that can be listed
pub record IsUnclosedInput (text : List ℕ) : Type 0 where
  pub list : List Operator
  pub read : AreRead (lines_of text) list
  pub unclosed : IsUnclosed list

-- there is no group of the input, for this reason; memory may be wanted for any input
abbrev pub IsClosingFault : List ℕ → Fault → Type 0
IsClosingFault text TooLong = MAX_INPUT < length text
IsClosingFault text (Unreadable line) = IsFaultOf (lines_of text) (lines.Unreadable line)
IsClosingFault text (NotUnimodular line) = IsFaultOf (lines_of text) (lines.NotUnimodular line)
IsClosingFault text Unclosed = IsUnclosedInput text
IsClosingFault text NoMemory = ⊤
IsClosingFault text other = ⊥

-- the number of the line that a fault names, or 0
abbrev pub line_of : Fault → ℕ
line_of (Unreadable line) = line
line_of (NotUnimodular line) = line
line_of other = 0

-- closing the input is refused with this status, which names this line, or none
pub record IsRefusedAs (text : List ℕ) (status line : ℕ) : Type 0 where
  pub fault : Fault
  pub reason : IsClosingFault text fault
  pub is : status_of fault ≡ status
  pub names : line_of fault ≡ line
