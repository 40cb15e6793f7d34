-- What is answered to words over the bytes of an input: stage by stage, where the first that refuses decides.
use Rattle.std.specs.Prelude.{◌≤◌, ◌<◌, List, ℕ, length}
use Rattle.lattice_algebra.specs.Operator.{Operator}
use Rattle.triplet_text.specs.Lines.{lines_of, AreRead, IsFirstBad, IsUnreadable, IsNotUnimodular}
use Rattle.group_closure.specs.Words.{Closes, IsUnclosed}
use Rattle.group_closure.specs.GroupList.{IsGroupList}
use Rattle.samples.specs.Groups.{number_of, IsSampleGroup}
use Rattle.sg_cli.specs.declared.TheConstants.{MAX_INPUT}
use Rattle.sg_cli.specs.declared.fault.Fault.TheVariants.{Words, TooLong, Unreadable, NotUnimodular, Unclosed}
use Rattle.sg_cli.specs.declared.words.Input.{Input}
use Rattle.sg_cli.specs.declared.words.Input.TheVariants.{Made}
use Rattle.sg_cli.specs.Words.{Asked, IsAsked, IsNoCommand}
use Rattle.sg_cli.specs.Inputs.{input_for, DataLines, no_data, AreParts}
use Rattle.sg_cli.specs.Fault.{status_of}
use Rattle.sg_cli.specs.Stages.{Outcome, Gives, Refuses, Stage, ◌>>=◌, Giving}
use Rattle.sg_cli.specs.Answering.{Answering}

-- ---- the stages

-- the words ask something, or are no command
pub data Reading (words : List (List ℕ)) : Outcome Asked → Type 0 where
  command : {asked : Asked} → IsAsked words asked → Reading words (Gives asked)
  no_command : IsNoCommand words → Reading words (Refuses Words)

-- the input is short enough, or too long
pub data Measuring (bytes : List ℕ) : Outcome (Unit {0}) → Type 0 where
  short : length bytes ≤ MAX_INPUT → Measuring bytes (Gives tt)
  long : MAX_INPUT < length bytes → Measuring bytes (Refuses TooLong)

-- the lines are operators, or one of them is the first bad one
pub data Listing (lines : List (List ℕ)) : Outcome (List Operator) → Type 0 where
  listed : {list : List Operator} → AreRead lines list → Listing lines (Gives list)
  unreadable : {line : ℕ} → IsFirstBad IsUnreadable lines line → Listing lines (Refuses (Unreadable line))
  not_unimodular : {line : ℕ} → IsFirstBad IsNotUnimodular lines line → Listing lines (Refuses (NotUnimodular line))

-- the operators close to a group, or do not close
pub data Closing (list : List Operator) : Outcome (List Operator) → Type 0 where
  closed : {members : List Operator} → Closes list → IsGroupList list members → Closing list (Gives members)
  unclosed : IsUnclosed list → Closing list (Refuses Unclosed)

-- ---- what a command is answered over

-- what is answered over a group and data lines
abbrev pub Over : Type 1
Over = List Operator → DataLines → Stage (List ℕ)

-- the answer over the operators and the data of these lines
abbrev pub OverLines : Input → List (List ℕ) → Over → Stage (List ℕ)
OverLines input lines Then = do
  parts ← Giving (AreParts input lines)
  list ← Listing parts.head
  members ← Closing list
  Then members parts.tail

-- the answer over a made group, or over an input that is not too long
abbrev pub OverInput : Input → List ℕ → Over → Stage (List ℕ)
OverInput (Made seed) bytes Then = do
  members ← Giving (IsSampleGroup (number_of seed))
  Then members no_data
OverInput input bytes Then = do
  _ ← Measuring bytes
  OverLines input (lines_of bytes) Then

-- ---- the answer

abbrev pub AnswerOver : Asked → Over
AnswerOver asked = Answering asked.name asked.given

-- the answer to words over the bytes of an input
abbrev pub IsAnswer : List (List ℕ) → List ℕ → Stage (List ℕ)
IsAnswer words bytes = do
  asked ← Reading words
  OverInput (input_for asked) bytes (AnswerOver asked)

-- an answer is a text, or a refusal
abbrev pub Answer : Type 0
Answer = Outcome (List ℕ)

-- the status of an answer
abbrev pub status_of_answer : Answer → ℕ
status_of_answer (Gives text) = 0
status_of_answer (Refuses fault) = status_of fault
