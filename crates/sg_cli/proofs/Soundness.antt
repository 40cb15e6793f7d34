-- Each stage of the answer is sound: so words and bytes have one answer.
use Rattle.std.proofs.Common.{◌≡◌, ◌∙◌, ℕ, List, length, ⊎_elim, refl, sym, ap, arith, All}
use Rattle.std.proofs.lemmas.Bool.{cases_lt}
use Rattle.lattice_algebra.specs.Operator.{Operator, IsOperator}
use Rattle.exact_ops.specs.declared.TheConstants.{UNIT}
use Rattle.triplet_text.specs.Lines.{lines_of, IsUnreadable, IsNotUnimodular}
use Rattle.triplet_text.proofs.LineLaws.{unreadable_are_bad, not_unimodular_are_bad, none_bad, same_place, both_kinds, same_list, read_are_operators}
use Rattle.triplet_text.proofs.Decided.{read_or_bad}
use Rattle.triplet_text.proofs.Divisions.{some_division, one_division}
use Rattle.group_closure.specs.GroupList.{IsGroup}
use Rattle.group_closure.proofs.Lists.{one_list, not_closing, group_of_closing}
use Rattle.group_closure.proofs.Existence.{closes_or_not}
use Rattle.sg_cli.specs.declared.TheConstants.{MAX_INPUT}
use Rattle.sg_cli.specs.declared.fault.Fault.{Fault}
use Rattle.sg_cli.specs.declared.fault.Fault.TheVariants.{Words, TooLong, Unreadable, NotUnimodular, Unclosed}
use Rattle.sg_cli.specs.declared.words.Input.{Input}
use Rattle.sg_cli.specs.declared.words.Input.TheVariants.{Made, OperatorsAndData}
use Rattle.sg_cli.specs.Words.{Asked}
use Rattle.sg_cli.specs.Inputs.{DataLines, Parts, AreParts, no_data, input_for}
use Rattle.sg_cli.specs.Stages.{Gives, Refuses, HasOneAtMost, HasSome}
use Rattle.sg_cli.specs.Answer.{Reading, command, no_command, Measuring, short, long, Listing, listed, unreadable, not_unimodular, Closing, closed, unclosed, Over, OverLines, OverInput, AnswerOver, IsAnswer}
use Rattle.sg_cli.proofs.Stages.{one_behind, some_behind, IsLate, IsSound, sound_behind, sound_giving}
use Rattle.sg_cli.proofs.Commands.{one_asked, asked_or_none}
use Rattle.sg_cli.proofs.Answering.{sound_answering}
use Rattle.sg_cli.proofs.SampleTexts.{made_is_group, one_made, some_made}

-- ---- the words

one_reading : (words : List (List ℕ)) → HasOneAtMost (Reading words)
one_reading words a b (command {asked = x} p) (command {asked = y} q) = ap Gives (one_asked words x y p q)
one_reading words a b (command {asked = x} p) (no_command n) = absurd (n x p)
one_reading words a b (no_command n) (command {asked = y} q) = absurd (n y q)
one_reading words a b (no_command n) (no_command m) = refl

some_reading : (words : List (List ℕ)) → HasSome (Reading words)
some_reading words = ⊎_elim (λ r. (Gives r.0, command r.1)) (λ n. (Refuses Words, no_command n)) (asked_or_none words)

-- ---- the length

one_measuring : (bytes : List ℕ) → HasOneAtMost (Measuring bytes)
one_measuring bytes a b (short p) (short q) = refl
one_measuring bytes a b (short p) (long q) = absurd (omega (arith, p, q))
one_measuring bytes a b (long p) (short q) = absurd (omega (arith, p, q))
one_measuring bytes a b (long p) (long q) = refl

some_measuring : (bytes : List ℕ) → HasSome (Measuring bytes)
some_measuring bytes = ⊎_elim (λ l. (Refuses TooLong, long l)) (λ s. (Gives tt, short s)) (cases_lt MAX_INPUT (length bytes))

-- ---- the lines

pub one_listing : (lines : List (List ℕ)) → HasOneAtMost (Listing lines)
one_listing lines a b (listed {list = x} p) (listed {list = y} q) = ap Gives (same_list lines x y p q)
one_listing lines a b (listed {list = x} p) (unreadable {line = k} q) = absurd (none_bad IsUnreadable lines x k unreadable_are_bad p q)
one_listing lines a b (listed {list = x} p) (not_unimodular {line = k} q) = absurd (none_bad IsNotUnimodular lines x k not_unimodular_are_bad p q)
one_listing lines a b (unreadable {line = j} p) (listed {list = y} q) = absurd (none_bad IsUnreadable lines y j unreadable_are_bad q p)
one_listing lines a b (unreadable {line = j} p) (unreadable {line = k} q) = ap (λ (n : ℕ). Refuses (Unreadable n)) (same_place IsUnreadable IsUnreadable lines j k unreadable_are_bad unreadable_are_bad p q).0
one_listing lines a b (unreadable {line = j} p) (not_unimodular {line = k} q) = absurd (both_kinds lines j k p q)
one_listing lines a b (not_unimodular {line = j} p) (listed {list = y} q) = absurd (none_bad IsNotUnimodular lines y j not_unimodular_are_bad q p)
one_listing lines a b (not_unimodular {line = j} p) (unreadable {line = k} q) = absurd (both_kinds lines k j q p)
one_listing lines a b (not_unimodular {line = j} p) (not_unimodular {line = k} q) = ap (λ (n : ℕ). Refuses (NotUnimodular n)) (same_place IsNotUnimodular IsNotUnimodular lines j k not_unimodular_are_bad not_unimodular_are_bad p q).0

some_listing : (lines : List (List ℕ)) → HasSome (Listing lines)
some_listing lines =
    ⊎_elim
    (λ r. (Gives r.0, listed r.1))
    (λ bad. ⊎_elim (λ u. (Refuses (Unreadable u.0), unreadable u.1)) (λ n. (Refuses (NotUnimodular n.0), not_unimodular n.1)) bad)
    (read_or_bad lines)

sound_listing : (lines : List (List ℕ)) → IsSound (Listing lines)
sound_listing lines = record { one = one_listing lines; some = some_listing lines; late = late }
  where
    late : (stop : Fault) → Listing lines (Refuses stop) → IsLate stop
    late stop (unreadable h) = tt
    late stop (not_unimodular h) = tt

-- ---- the parts

pub one_parts : (input : Input) (lines : List (List ℕ)) (p q : Parts) → AreParts input lines p → AreParts input lines q → p ≡ q
one_parts OperatorsAndData lines p q h k =
    let e = one_division lines p.head q.head p.tail.lines q.tail.lines p.tail.first q.tail.first h k in
    λ i. record { head = e.0 i; tail = record { lines = e.1 i; first = e.2 i } }
one_parts other lines p q h k = h ∙ sym k

some_parts : (input : Input) (lines : List (List ℕ)) → (p : Parts) × AreParts input lines p
some_parts OperatorsAndData lines = let d = some_division lines in (record { head = d.0; tail = record { lines = d.1; first = d.2 } }, d.3)
some_parts other lines = (record { head = lines; tail = no_data }, refl)

-- ---- closing

one_closing : (list : List Operator) → HasOneAtMost (Closing list)
one_closing list a b (closed {members = x} c p) (closed {members = y} d q) = ap Gives (one_list list x y p q)
one_closing list a b (closed c p) (unclosed u) = absurd (not_closing list u c)
one_closing list a b (unclosed u) (closed c q) = absurd (not_closing list u c)
one_closing list a b (unclosed u) (unclosed v) = refl

some_closing : (list : List Operator) → All (IsOperator UNIT) list → HasSome (Closing list)
some_closing list v = ⊎_elim (λ r. (Gives r.0, closed r.1 r.2)) (λ u. (Refuses Unclosed, unclosed u)) (closes_or_not list v)

-- what closes is a group
pub closed_is_group : (lines : List (List ℕ)) (list members : List Operator) → Listing lines (Gives list) → Closing list (Gives members) → IsGroup members
closed_is_group lines list members (listed r) (closed c p) = group_of_closing list members (read_are_operators lines list r) c p

read_operators : (lines : List (List ℕ)) (list : List Operator) → Listing lines (Gives list) → All (IsOperator UNIT) list
read_operators lines list (listed r) = read_are_operators lines list r

sound_closing : (list : List Operator) → All (IsOperator UNIT) list → IsSound (Closing list)
sound_closing list v = record { one = one_closing list; some = some_closing list v; late = late }
  where
    late : (stop : Fault) → Closing list (Refuses stop) → IsLate stop
    late stop (unclosed u) = tt

-- ---- what a command is answered over

module _ (Then : Over) (sound : (members : List Operator) (rest : DataLines) → IsGroup members → IsSound (Then members rest)) where
  pub sound_lines : (input : Input) (lines : List (List ℕ)) → IsSound (OverLines input lines Then)
  sound_lines input lines =
      sound_behind (sound_giving (one_parts input lines) (some_parts input lines)) λ parts _.
      sound_behind (sound_listing parts.head) λ list l.
      sound_behind (sound_closing list (read_operators parts.head list l)) λ members c.
      sound members parts.tail (closed_is_group parts.head list members l c)

  one_over : (input : Input) (bytes : List ℕ) → HasOneAtMost (OverInput input bytes Then)
  one_over (Made seed) bytes = one_behind _ _ (sound_giving (one_made seed) (some_made seed)).one λ members m. (sound members no_data (made_is_group seed members m)).one
  one_over input bytes = one_behind _ _ (one_measuring bytes) λ _ m. (sound_lines input (lines_of bytes)).one

  some_over : (input : Input) (bytes : List ℕ) → HasSome (OverInput input bytes Then)
  some_over (Made seed) bytes = some_behind _ _ (sound_giving (one_made seed) (some_made seed)).some λ members m. (sound members no_data (made_is_group seed members m)).some
  some_over input bytes = some_behind _ _ (some_measuring bytes) λ _ m. (sound_lines input (lines_of bytes)).some

-- ---- the answer

pub sound_over : (words : List (List ℕ)) (asked : Asked) → Reading words (Gives asked) → (members : List Operator) (rest : DataLines) → IsGroup members → IsSound (AnswerOver asked members rest)
sound_over words asked (command a) members rest g = sound_answering asked.name asked.given a.arguments members rest a.given g

pub one_answer : (words : List (List ℕ)) (bytes : List ℕ) → HasOneAtMost (IsAnswer words bytes)
one_answer words bytes = one_behind _ _ (one_reading words) λ asked a. one_over (AnswerOver asked) (sound_over words asked a) (input_for asked) bytes

pub some_answer : (words : List (List ℕ)) (bytes : List ℕ) → HasSome (IsAnswer words bytes)
some_answer words bytes = some_behind _ _ (some_reading words) λ asked a. some_over (AnswerOver asked) (sound_over words asked a) (input_for asked) bytes
