-- What the steps inside a call of the program did, by their outcome.
use Rattle.std.specs.Prelude.{◌≡◌, ◌≢◌, ◌⊎◌, ◌+◌, ◌++◌, List, [], ◌∷◌, ℕ, Result, Ok, Err}
use Rattle.std.specs.Io.KnownBytes.{Appends, IsAtEnd}
use Rattle.sg_io.specs.Count.{Rose}
use Rattle.sg_io.specs.Bytes.{AppendsPrefix, ConsumesSome}
use Rattle.sg_io.specs.Streams.{SeenSource, SeenSink}
use Rattle.triplet_text.specs.Lines.{lines_of}
use Rattle.page_print.specs.Lines.{SomeText}
use Rattle.sg_cli.specs.declared.TheConstants.{MAX_INPUT}
use Rattle.sg_cli.specs.declared.fault.Fault.{Fault}
use Rattle.sg_cli.specs.declared.fault.Fault.TheVariants as fault
use Rattle.sg_cli.specs.declared.words.Input.{Input}
use Rattle.sg_cli.specs.Words.{IsNoCommand}
use Rattle.sg_cli.specs.Inputs.{ReadsNothing, DataLines, Parts, AreParts}
use Rattle.sg_cli.specs.Stages.{Gives, Refuses, Stage}
use Rattle.sg_cli.specs.Run.{IfTold}

-- the text has these lines, or these and an empty one behind them
abbrev pub HasLines : List (List ℕ) → List ℕ → Type 0
HasLines lines text = (lines_of text ≡ lines) ⊎ (lines_of text ≡ lines ++ [] ∷ [])

-- the text has these data lines, and they are counted from this number on
pub record IsDataText (rest : DataLines) (text : List ℕ) (line : ℕ) : Type 0 where
  pub lines : HasLines rest.lines text
  pub first : line ≡ rest.first

-- the parts of the bytes have the lines of operators and the data lines
pub record AreCut (input : Input) (bytes head tail : List ℕ) (line : ℕ) : Type 0 where
  pub parts : Parts
  pub divided : AreParts input (lines_of bytes) parts
  pub before : HasLines parts.head head
  pub behind : IsDataText parts.tail tail line

module _ {K : Type 0} (sink : SeenSink K) where
  open sink use {held, faults, wants}

  -- what answering did to the output: a text of this stage was written, or a prefix of one; or the stage refuses
  abbrev pub Answers : Stage (List ℕ) → K → K → Result (Unit {0}) Fault → Type 0
  Answers stage old new (Ok done) = SomeText (λ text. stage (Gives text)) (Appends (held old) (held new))
  Answers stage old new (Err fault.Writing) = SomeText (λ text. stage (Gives text)) (AppendsPrefix (held old) (held new)) × Rose (faults old) (faults new)
  Answers stage old new (Err fault.NoMemory) = (new ≡ old) ⊎ (Rose (wants old) (wants new) × SomeText (λ text. stage (Gives text)) (AppendsPrefix (held old) (held new)))
  Answers stage old new (Err other) = stage (Refuses other) × (new ≡ old)

  -- where no fault of writing came the faults are as they were, and where no want of memory came the wants are
  pub record Counted (old new : K) (result : Result (Unit {0}) Fault) : Type 0 where
    pub unfailed : result ≢ Err fault.Writing → faults new ≡ faults old
    pub unwanted : result ≢ Err fault.NoMemory → wants new ≡ wants old

  module _ {S : Type 0} (source : SeenSource S) where
    -- what serving the words did to the source and to the output
    abbrev pub Serves : List (List ℕ) → S → S → K → K → Result (Unit {0}) Fault → Type 0
    Serves words s t old new (Err fault.Words) = IsNoCommand words × (t ≡ s) × (new ≡ old)
    Serves words s t old new (Err fault.Reading) = Rose (source.faults s) (source.faults t) × (new ≡ old)
    Serves words s t old new (Err fault.TooLong) = ConsumesSome (source.left s) (source.left t) (λ count. count ≡ MAX_INPUT + 1) × IfTold words (source.left s) (Refuses fault.TooLong) × (new ≡ old)
    Serves words s t old new (Err fault.NoMemory) = Answers (IfTold words (source.left s)) old new (Err fault.NoMemory)
    Serves words s t old new result = ((ReadsNothing words → ⊥) → IsAtEnd (source.left t)) × Answers (IfTold words (source.left s)) old new result
