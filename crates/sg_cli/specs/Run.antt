-- What a call of the program did. Of bytes that a source or a sink does not tell, nothing is said.
use Rattle.std.specs.Prelude.{◌≡◌, ◌≢◌, ◌⊎◌, ◌==◌, if◌then◌else◌, List, ℕ, Option, IfSome}
use Rattle.std.specs.Io.KnownBytes.{Appends}
use Rattle.sg_io.specs.Count.{Rose}
use Rattle.sg_io.specs.Bytes.{AppendsPrefix}
use Rattle.lattice_algebra.specs.Operator.{Operator}
use Rattle.exact_ops.specs.declared.TheConstants.{UNIT}
use Rattle.triplet_text.specs.Lines.{lines_of, AreRead}
use Rattle.group_closure.specs.Words.{Closes}
use Rattle.group_closure.specs.GroupList.{IsGroupList}
use Rattle.space_groups.specs.Rows.{Row, IsTable}
use Rattle.page_print.specs.Lines.{SomeText}
use Rattle.sg_cli.specs.declared.fault.Fault.{Fault}
use Rattle.sg_cli.specs.Stages.{Gives, Refuses, Stage}
use Rattle.sg_cli.specs.declared.words.Input.{Input}
use Rattle.sg_cli.specs.declared.words.Input.TheVariants.{Made}
use Rattle.sg_cli.specs.Words.{Asked, IsAsked}
use Rattle.sg_cli.specs.Inputs.{input_for, ReadsNothing, Parts, AreParts}
use Rattle.sg_cli.specs.Answering.{question, ShowsRows}
use Rattle.samples.specs.Groups.{number_of, IsSampleGroup}
use Rattle.sg_cli.specs.Answer.{Answer, IsAnswer, status_of_answer}
use Rattle.sg_io.specs.Streams.{SeenSink}

-- the words and the bytes decide this status: it is neither a fault of reading or writing nor want of memory
abbrev pub IsDecided : ℕ → Type 0
IsDecided status = (status ≢ 3) × (status ≢ 4) × (status ≢ 9)

-- nothing is written to the output on this status
abbrev pub IsRefusal : ℕ → Type 0
IsRefusal status = (status ≢ 0) × (status ≢ 4) × (status ≢ 9)

-- the source was read to its end before this status was answered, unless the words read nothing
abbrev pub IsReadToEnd : ℕ → Type 0
IsReadToEnd status = (status ≢ 2) × (status ≢ 3) × (status ≢ 9) × (status ≢ 10)

-- the status that stood before writing: 0 where the writing failed
abbrev pub before_writing : ℕ → ℕ
before_writing status = if status == 4 then 0 else status

-- where the bytes are told, this holds of them; and of all bytes, where the words read nothing
abbrev pub IfKnown : List (List ℕ) → Option (List ℕ) → (List ℕ → Type 0) → Type 0
IfKnown words left Holds = IfSome left Holds × (ReadsNothing words → (bytes : List ℕ) → Holds bytes)

-- where the bytes are told, or the words read nothing, this is the answer
abbrev pub IfTold : List (List ℕ) → Option (List ℕ) → Stage (List ℕ)
IfTold words left answer = IfKnown words left (λ bytes. IsAnswer words bytes answer)

-- the answer has this status
abbrev pub HasStatus : List (List ℕ) → List ℕ → ℕ → Type 0
HasStatus words bytes status = (answer : Answer) × IsAnswer words bytes answer × (status_of_answer answer ≡ status)

-- the answer is this refusal
abbrev pub IfRefused : List (List ℕ) → Option (List ℕ) → Fault → Type 0
IfRefused words left fault = IfTold words left (Refuses fault)

-- the answer is a text with this property
abbrev pub IfPrinted : List (List ℕ) → Option (List ℕ) → (List ℕ → Type 0) → Type 0
IfPrinted words left IsSuch = SomeText (λ text. IfTold words left (Gives text)) IsSuch

-- the output grew by the text of the answer and the status is 0; or the status is that of its refusal
abbrev pub IsGiven : Option (List ℕ) → Option (List ℕ) → ℕ → Answer → Type 0
IsGiven old new status (Gives text) = (status ≡ 0) × Appends old new text
IsGiven old new status (Refuses fault) = status ≡ status_of_answer (Refuses fault)

-- where the bytes are told, or the words read nothing, the answer was given, or memory was wanted
abbrev pub Completes : List (List ℕ) → Option (List ℕ) → Option (List ℕ) → Option (List ℕ) → ℕ → Type 0
Completes words left old new status = IfKnown words left (λ bytes. ((answer : Answer) × IsAnswer words bytes answer × IsGiven old new status answer) ⊎ (status ≡ 9))

-- the members are the group of the input: its lines of operators are read, and close to it
pub record IsGroupOf (input : Input) (bytes : List ℕ) (members : List Operator) : Type 0 where
  pub parts : Parts
  pub divided : AreParts input (lines_of bytes) parts
  pub list : List Operator
  pub read : AreRead parts.head list
  pub closes : Closes list
  pub group : IsGroupList list members

-- the members are the group that is asked about: the made one, or that of the input
abbrev pub IsGroupAsked : Input → List ℕ → List Operator → Type 0
IsGroupAsked (Made seed) bytes members = IsSampleGroup (number_of seed) members
IsGroupAsked input bytes members = IsGroupOf input bytes members

-- where the words ask for rows, the text shows those of a Wyckoff table of the group that is asked about
pub record IsTabled (bytes : List ℕ) (asked : Asked) (text : List ℕ) : Type 0 where
  pub members : List Operator
  pub is_group : IsGroupAsked (input_for asked) bytes members
  pub rows : List Row
  pub table : IsTable UNIT members rows
  pub shown : ShowsRows (question asked.name asked.given) members rows text

-- where the bytes are told, or the words read nothing, a text with this property shows these rows, where the words ask for some
abbrev pub IfTabled : List (List ℕ) → Option (List ℕ) → (List ℕ → Type 0) → Type 0
IfTabled words left IsSuch = SomeText (λ text. IfKnown words left (λ bytes. (asked : Asked) → IsAsked words asked → IsTabled bytes asked text)) IsSuch

module _ {K : Type 0} (sink : SeenSink K) where
  open sink use {held, faults, wants}

  -- the sink took a prefix of the text, and the whole of it where none of its counts rose
  pub record IsTold (old new : K) (text : List ℕ) : Type 0 where
    pub front : AppendsPrefix (held old) (held new) text
    pub whole : (Rose (faults old) (faults new) → ⊥) → (Rose (wants old) (wants new) → ⊥) → Appends (held old) (held new) text
