-- Where the words ask for rows, the text of the answer shows those of a Wyckoff table of the group that is asked about.
use Rattle.std.proofs.Common.{ℕ, List, subst}
use Rattle.lattice_algebra.specs.Operator.{Operator}
use Rattle.exact_ops.specs.declared.TheConstants.{UNIT}
use Rattle.triplet_text.specs.Lines.{lines_of}
use Rattle.group_closure.specs.GroupList.{IsGroup}
use Rattle.space_groups.specs.Rows.{Row, IsTable}
use Rattle.wyckoff_rows.proofs.Finishing.{table_of_rows}
use Rattle.sg_cli.specs.declared.words.Input.{Input}
use Rattle.sg_cli.specs.declared.words.Input.TheVariants.{Made}
use Rattle.sg_cli.specs.Words.{Asked, IsAsked}
use Rattle.sg_cli.specs.Inputs.{input_for, DataLines, no_data}
use Rattle.sg_cli.specs.Stages.{Gives, behind, ◌>>=◌}
use Rattle.sg_cli.specs.Answering.{Question, OfRows, Of, question, Asking, ShowsRows}
use Rattle.sg_cli.specs.Answer.{command, Measuring, Listing, listed, Closing, closed, OverLines, OverInput, AnswerOver, IsAnswer}
use Rattle.sg_cli.specs.Run.{IsGroupOf, IsGroupAsked, IsTabled}
use Rattle.sg_cli.proofs.Commands.{one_asked}
use Rattle.sg_cli.proofs.Soundness.{closed_is_group}
use Rattle.sg_cli.proofs.SampleTexts.{made_is_group}
use Rattle.sg_cli.proofs.WyckoffTexts.{some_rows}

module _ (members : List Operator) (g : IsGroup members) (rest : DataLines) (text : List ℕ) where
  shown : (q : Question) → Asking q members rest (Gives text) → (rows : List Row) × IsTable UNIT members rows × ShowsRows q members rows text
  shown (OfRows IsText) h = (h.rows, table_of_rows members g h.rows h.list, h.is_text)
  -- a group has a table where none of its rows is shown too
  shown (Of stage) h = let rows = some_rows members g in (rows.0, rows.1, tt)

-- what is answered over the group that is asked about
abbrev IsOver : Asked → Input → List ℕ → List ℕ → Type 0
IsOver asked input bytes text = (members : List Operator) × (rest : DataLines) × IsGroup members × IsGroupAsked input bytes members × AnswerOver asked members rest (Gives text)

over_lines : (asked : Asked) (input : Input) (bytes text : List ℕ) → OverLines input (lines_of bytes) (AnswerOver asked) (Gives text) → (members : List Operator) × (rest : DataLines) × IsGroup members × IsGroupOf input bytes members × AnswerOver asked members rest (Gives text)
over_lines asked input bytes text (behind {value = parts} p (behind {value = list} l (behind {value = members} c h))) = by l c
  where
    by : Listing parts.head (Gives list) → Closing list (Gives members) → (members : List Operator) × (rest : DataLines) × IsGroup members × IsGroupOf input bytes members × AnswerOver asked members rest (Gives text)
    by (listed r) (closed closes group) = (members, parts.tail, closed_is_group parts.head list members l c, record { parts = parts; divided = p; list = list; read = r; closes = closes; group = group }, h)

over_made : (asked : Asked) (seed : ℕ) (bytes text : List ℕ) → OverInput (Made seed) bytes (AnswerOver asked) (Gives text) → IsOver asked (Made seed) bytes text
over_made asked seed bytes text (behind {value = members} m h) = (members, no_data, made_is_group seed members m, m, h)

over_read : (asked : Asked) (input : Input) (bytes text : List ℕ) → (Measuring bytes >>= λ _. OverLines input (lines_of bytes) (AnswerOver asked)) (Gives text) → (members : List Operator) × (rest : DataLines) × IsGroup members × IsGroupOf input bytes members × AnswerOver asked members rest (Gives text)
over_read asked input bytes text (behind measured h) = over_lines asked input bytes text h

pub over_input : (asked : Asked) (input : Input) (bytes text : List ℕ) → OverInput input bytes (AnswerOver asked) (Gives text) → IsOver asked input bytes text
over_input asked (Made seed) bytes text h = over_made asked seed bytes text h
over_input asked other bytes text h = over_read asked other bytes text h

pub answer_tabled : (words : List (List ℕ)) (bytes text : List ℕ) (asked : Asked) → IsAsked words asked → IsAnswer words bytes (Gives text) → IsTabled bytes asked text
answer_tabled words bytes text asked is (behind {value = other} (command was) h) =
    let o = over_input other (input_for other) bytes text h in
    let s = shown o.0 o.2 o.1 text (question other.name other.given) o.4 in
    subst (λ (a : Asked). IsTabled bytes a text) (one_asked words other asked was is) (record { members = o.0; is_group = o.3; rows = s.0; table = s.1; shown = s.2 })
