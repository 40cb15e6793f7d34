-- Data lines decide what is gathered of them: values, or the first bad line.
use Rattle.std.proofs.Common.{◌≡◌, ℕ, List, [], ap, subst, ⊎_elim}
use Rattle.triplet_text.specs.Lines.{lines_of, blank, IsGoodFor}
use Rattle.triplet_text.proofs.Divisions.{said_lines, bad_lines}
use Rattle.data_lines.specs.DataLines.{IsDataLine, AreWritten, IsFirstSuch, IsBadLine}
use Rattle.data_lines.proofs.DataLaws.{no_bad_line, one_bad_line, same_values, WrittenOrNot, written_or_bad}
use Rattle.sg_cli.specs.declared.fault.Fault.{Fault}
use Rattle.sg_cli.specs.declared.fault.Fault.TheVariants.{BadData}
use Rattle.sg_cli.specs.Inputs.{DataLines}
use Rattle.sg_cli.specs.Stages.{Gives, Refuses, HasOneAtMost, HasSome}
use Rattle.sg_cli.specs.Answering.{Gathering, gathered, bad}
use Rattle.sg_cli.specs.Steps.{IsDataText}
use Rattle.sg_cli.proofs.Stages.{IsLate, IsSound}

module _ {A : Type 0} (IsWritten : List ℕ → A → Type 0) where
  -- where each line writes one value at most, and it is decided which
  pub sound_gathering : ((line : List ℕ) (x y : A) → IsWritten line x → IsWritten line y → x ≡ y) → ((line : List ℕ) → WrittenOrNot IsWritten line) → (rest : DataLines) → IsSound (Gathering IsWritten rest)
  sound_gathering one_value decide rest = record { one = one; some = some; late = late }
    where
      one : HasOneAtMost (Gathering IsWritten rest)
      one a b (gathered {values = x} p) (gathered {values = y} q) = ap Gives (same_values IsWritten one_value rest.lines x y p q)
      one a b (gathered {values = x} p) (bad {line = k} q) = absurd (no_bad_line IsWritten rest.first rest.lines x k p q)
      one a b (bad {line = k} p) (gathered {values = x} q) = absurd (no_bad_line IsWritten rest.first rest.lines x k q p)
      one a b (bad {line = j} p) (bad {line = k} q) = ap (λ (n : ℕ). Refuses (BadData n)) (one_bad_line IsWritten rest.first rest.lines j k p q)

      some : HasSome (Gathering IsWritten rest)
      some = ⊎_elim (λ r. (Gives r.0, gathered r.1)) (λ k. (Refuses (BadData k.0), bad k.1)) (written_or_bad IsWritten decide rest.first rest.lines)

      late : (stop : Fault) → Gathering IsWritten rest (Refuses stop) → IsLate stop
      late stop (bad p) = tt

  -- ---- of a text that has these lines

  not_written : IsBadLine IsWritten [] → ⊥
  not_written b = b.kept (blank tt)

  module _ (rest : DataLines) (text : List ℕ) (line : ℕ) (is : IsDataText rest text line) where
    pub written_there : (values : List A) → AreWritten IsWritten (lines_of text) values → AreWritten IsWritten rest.lines values
    written_there values w = said_lines (IsDataLine IsWritten) (λ l x d. d.kept) rest.lines text values is.lines w

    pub bad_there : (k : ℕ) → IsFirstSuch IsWritten (IsBadLine IsWritten) line (lines_of text) k → IsFirstSuch IsWritten (IsBadLine IsWritten) rest.first rest.lines k
    bad_there k f = bad_lines (IsGoodFor (IsDataLine IsWritten)) (IsBadLine IsWritten) not_written rest.first rest.lines text k is.lines (subst (λ n. IsFirstSuch IsWritten (IsBadLine IsWritten) n (lines_of text) k) is.first f)
