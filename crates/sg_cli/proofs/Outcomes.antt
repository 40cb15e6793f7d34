-- From what the steps of a call did, by their outcomes, to what the stages of the answer say.
use Rattle.std.proofs.Common.{◌≡◌, ◌≤◌, ℕ, List, [], length, take, drop, Result, Ok, Err, refl, subst, ◌∙◌, inl, inr, arith}
use Rattle.std.specs.Prelude.{OnOk, OnErr, IsErrOf}
use Rattle.std.proofs.lemmas.List.{append-nil}
use Rattle.std.specs.Io.KnownBytes.{Appends}
use Rattle.sg_io.specs.declared.sink.SinkStop.{SinkStop}
use Rattle.sg_io.specs.declared.sink.SinkStop.TheVariants as sinks
use Rattle.sg_io.specs.Bytes.{AppendsPrefix}
use Rattle.sg_io.specs.Count.{Rose}
use Rattle.sg_io.specs.Streams.{SeenSink}
use Rattle.lattice_algebra.specs.Operator.{Operator}
use Rattle.exact_ops.specs.declared.TheConstants.{UNIT}
use Rattle.triplet_text.specs.declared.lines.LineFault.{LineFault}
use Rattle.triplet_text.specs.declared.lines.LineFault.TheVariants as lines
use Rattle.triplet_text.specs.declared.parts.Split.{Split}
use Rattle.triplet_text.specs.Lines.{lines_of, blank, IsRead, IsGood, AreRead, IsUnreadable, IsNotUnimodular, IsFaultOf}
use Rattle.triplet_text.specs.Dividers.{IsSplit}
use Rattle.triplet_text.proofs.Divisions.{said_lines, bad_lines, split_parts}
use Rattle.group_closure.specs.declared.group.CloseFault.{CloseFault}
use Rattle.group_closure.specs.declared.group.CloseFault.TheVariants as closes
use Rattle.group_closure.specs.declared.TheConstants.{MAX_OPERATORS}
use Rattle.group_closure.specs.Words.{Closes, IsUnclosed}
use Rattle.group_closure.specs.GroupList.{IsGroupList}
use Rattle.grid_tags.specs.declared.grid_orbits.GridFault.{GridFault}
use Rattle.grid_tags.specs.declared.grid_orbits.GridFault.TheVariants as grid_faults
use Rattle.grid_tags.specs.Grids as grids
use Rattle.grid_tags.specs.Grids.{IsKept, points}
use Rattle.space_groups.specs.Bases.{CoordinateChange, AreNarrow, IsMoreThan}
use Rattle.basis_change.specs.declared.basis.ChangeFault.{ChangeFault}
use Rattle.basis_change.specs.declared.basis.ChangeFault.TheVariants as changes
use Rattle.basis_change.specs.declared.cell.RecellFault.{RecellFault}
use Rattle.basis_change.specs.declared.cell.RecellFault.TheVariants as cells
use Rattle.basis_change.specs.Changes.{MayClose, IsRefusedAs}
use Rattle.atom_expand.specs.declared.TheConstants.{MAX_ATOMS}
use Rattle.atom_expand.specs.declared.atoms.AtomFault.{AtomFault}
use Rattle.atom_expand.specs.declared.atoms.AtomFault.TheVariants as atoms
use Rattle.atom_expand.specs.Sites.{AtomSite, IsAtomLine, AreAtomLines, IsAtomFaultOf}
use Rattle.data_lines.specs.declared.read.DataFault.{DataFault}
use Rattle.data_lines.specs.declared.read.DataFault.TheVariants as data_faults
use Rattle.data_lines.specs.DataLines.{AreWritten, IsDataFaultOf}
use Rattle.phase_rules.specs.declared.pairs.Pairs.{Pairs}
use Rattle.refl_merge.specs.declared.measured.Measured.{Measured}
use Rattle.refl_merge.specs.MeasuredLines.{IsMeasuredLine, AreMeasuredLines}
use Rattle.refl_merge.specs.Texts.{IsMergedText}
use Rattle.map_sym.specs.declared.reading.ValueFault.{ValueFault}
use Rattle.map_sym.specs.declared.reading.ValueFault.TheVariants as value_faults
use Rattle.map_sym.specs.SummedMaps.{GridValues, SummedMap, IsSummedMap}
use Rattle.map_sym.specs.ValueLines.{IsValueLine, AreValuesOf, IsValueFaultOf}
use Rattle.map_sym.specs.MapTexts.{IsMapText}
use Rattle.page_print.specs.Parts.{Is}
use Rattle.page_print.specs.Printing.{Counts, Prints}
use Rattle.table_print.specs.Grids.{IsGridText}
use Rattle.sg_cli.specs.declared.words.Input.{Input}
use Rattle.sg_cli.specs.declared.words.Input.TheVariants.{OperatorsAndData}
use Rattle.sg_cli.specs.declared.fault.Fault.{Fault}
use Rattle.sg_cli.specs.declared.fault.Fault.TheVariants as fault
use Rattle.sg_cli.specs.Inputs.{DataLines, no_data}
use Rattle.sg_cli.specs.Fault.{fault_of_lines, fault_of_close, fault_of_grid, fault_of_change, fault_of_recell, fault_of_atoms, fault_of_data, fault_of_values, fault_of_write}
use Rattle.sg_cli.specs.Stages.{Gives, Refuses, Stage, holds, fails, behind, refused}
use Rattle.sg_cli.specs.Answering.{gathered, bad, OverGrid, OverBasis, OverCell, OverSites, OverMeasured, OverValues, IsChangedText, IsExpandedText, Printing}
use Rattle.sg_cli.specs.Answer.{Answer, listed, unreadable, not_unimodular, closed, unclosed, Over, OverLines}
use Rattle.sg_cli.specs.Run.{IsTold}
use Rattle.sg_cli.specs.Steps.{IsDataText, AreCut, Answers, Counted}
use Rattle.sg_cli.proofs.DataStages.{written_there, bad_there}

-- what writing a text did, by its outcome
pub told : {K : Type 0} (sink : SeenSink K) (old new : K) (text : List ℕ) (result : Result (Unit {0}) SinkStop)
    → OnOk result (Appends (sink.held old) (sink.held new) text) → OnErr result (AppendsPrefix (sink.held old) (sink.held new) text)
    → (IsErrOf result sinks.Failed → Rose (sink.faults old) (sink.faults new)) → (IsErrOf result sinks.NoMemory → Rose (sink.wants old) (sink.wants new)) → IsTold sink old new text
told sink old new text (Ok done) ok err failed no_memory = record { front = (text, ([], append-nil text), ok); whole = λ faults wants. ok }
told sink old new text (Err sinks.Failed) ok err failed no_memory = record { front = err; whole = λ faults wants. absurd (faults (failed refl)) }
told sink old new text (Err sinks.NoMemory) ok err failed no_memory = record { front = err; whole = λ faults wants. absurd (wants (no_memory refl)) }

-- what writing a text did is what printing it does
pub put_prints : {K : Type 0} (sink : SeenSink K) (old new : K) (text : List ℕ) (result : Result (Unit {0}) SinkStop)
    → OnOk result (Appends (sink.held old) (sink.held new) text) → OnErr result (AppendsPrefix (sink.held old) (sink.held new) text) → Counts sink old new result → Prints sink (Is text) old new result
put_prints sink old new text (Ok done) ok err counts = record { ok = (text, refl, ok); err = tt; counts = counts }
put_prints sink old new text (Err stop) ok err counts = record { ok = tt; err = (text, refl, err); counts = counts }

-- no text is no data lines
pub no_text : IsDataText no_data [] 1
no_text = record { lines = inr refl; first = refl }

-- ---- from one stage to another

module _ {K : Type 0} (sink : SeenSink K) where
  -- what was answered by one stage was answered by another that has its outcomes
  pub answers_after : (P Q : Stage (List ℕ)) → ((outcome : Answer) → P outcome → Q outcome) → (old new : K) (result : Result (Unit {0}) Fault) → Answers sink P old new result → Answers sink Q old new result
  answers_after P Q f old new (Ok done) h = (h.0, f (Gives h.0) h.1, h.2)
  answers_after P Q f old new (Err fault.Writing) h = ((h.0.0, f (Gives h.0.0) h.0.1, h.0.2), h.1)
  answers_after P Q f old new (Err fault.NoMemory) (inl same) = inl same
  answers_after P Q f old new (Err fault.NoMemory) (inr h) = inr (h.0, (h.1.0, f (Gives h.1.0) h.1.1, h.1.2))
  answers_after P Q f old new (Err other) h = (f (Refuses other) h.0, h.1)

  -- a text was written as far as a sink went that stopped
  pub text_stopped : {IsText IsOther : List ℕ → Type 0} → ((text : List ℕ) → IsText text → IsOther text) → (old new : K) (stop : SinkStop) → Prints sink IsText old new (Err stop) → Answers sink (Printing IsOther) old new (Err (fault_of_write stop))
  text_stopped f old new sinks.Failed p = let front = p.err in ((front.0, f front.0 front.1, front.2), p.counts.failed refl)
  text_stopped f old new sinks.NoMemory p = let front = p.err in inr (p.counts.no_memory refl, (front.0, f front.0 front.1, front.2))

  -- and its counts
  pub stop_counted : (old new : K) (stop : SinkStop) → Counts sink old new (Err stop) → Counted sink old new (Err (fault_of_write stop))
  stop_counted old new sinks.Failed c = record { unfailed = λ n. absurd (n refl); unwanted = λ _. c.unwanted (λ e. cc) }
  stop_counted old new sinks.NoMemory c = record { unfailed = λ _. c.unfailed (λ e. cc); unwanted = λ n. absurd (n refl) }

  -- a text that was printed is what a stage gives
  pub printed : {IsText : List ℕ → Type 0} (Q : Stage (List ℕ)) → ((text : List ℕ) → IsText text → Q (Gives text)) → (old new : K) (result : Result (Unit {0}) Fault) → Answers sink (Printing IsText) old new result → Answers sink Q old new result
  printed {IsText} Q f = answers_after (Printing IsText) Q outcomes
    where
      outcomes : (outcome : Answer) → Printing IsText outcome → Q outcome
      outcomes (Gives text) t = f text t
      outcomes (Refuses fault) t = absurd t

  module _ (members : List Operator) (s : grids.Grid) (old : K) where
    -- a walk that was not begun
    pub not_begun : (stop : GridFault) → (stop ≡ grid_faults.NotKept → (¬ IsKept members s)) → Answers sink (OverGrid members s) old old (Err (fault_of_grid stop))
    not_begun grid_faults.NotKept h = (refused (fails (h refl)), refl)
    not_begun grid_faults.NoMemory h = inl refl

    -- what was printed of a grid that the group keeps
    pub over_grid : {IsText : List ℕ → Type 0} → IsKept members s → ((text : List ℕ) → IsText text → Printing (IsGridText members s) (Gives text)) → (new : K) (result : Result (Unit {0}) Fault) → Answers sink (Printing IsText) old new result → Answers sink (OverGrid members s) old new result
    over_grid k f = printed (OverGrid members s) (λ text t. behind (holds k) (f text t)) old

  module _ (members : List Operator) (c : CoordinateChange) (old : K) where
    -- a group that has none in another basis
    pub not_changed : (stop : ChangeFault) → (stop ≡ changes.Wide → (¬ AreNarrow UNIT members c)) → Answers sink (OverBasis members c) old old (Err (fault_of_change stop))
    not_changed changes.Wide h = (refused (fails (h refl)), refl)
    not_changed changes.NoMemory h = inl refl

    -- what was printed of one that has one
    pub over_basis : {IsText : List ℕ → Type 0} → AreNarrow UNIT members c → ((text : List ℕ) → IsText text → IsChangedText members c text) → (new : K) (result : Result (Unit {0}) Fault) → Answers sink (Printing IsText) old new result → Answers sink (OverBasis members c) old new result
    over_basis n f = printed (OverBasis members c) (λ text t. behind (holds n) (f text t)) old

    -- a group that has none in another cell
    pub not_recelled : (stop : RecellFault) → IsRefusedAs members c stop → Answers sink (OverCell members c) old old (Err (fault_of_recell stop))
    not_recelled cells.NotCell n = (refused (fails n), refl)
    not_recelled cells.NotWhole h = (behind (holds h.0) (refused (fails h.1)), refl)
    not_recelled cells.Wide h = (behind (holds h.0) (behind (holds h.1) (refused (fails h.2))), refl)
    not_recelled cells.Fine h = (behind (holds h.0) (behind (holds h.1) (behind (holds h.2) (refused (fails h.3)))), refl)
    not_recelled cells.Many h = (
      behind (holds h.0.cell) (behind (holds h.0.whole) (behind (holds h.0.narrow) (behind (holds h.0.parts) (refused (fails (λ few. few h.1)))))),
      refl,
    )
    not_recelled cells.NoMemory h = inl refl

    -- what was printed of one that has one
    pub over_cell : {IsText : List ℕ → Type 0} → MayClose members c → (¬ IsMoreThan MAX_OPERATORS UNIT members c) → ((text : List ℕ) → IsText text → IsChangedText members c text) → (new : K) (result : Result (Unit {0}) Fault) → Answers sink (Printing IsText) old new result → Answers sink (OverCell members c) old new result
    over_cell m few f = printed (OverCell members c) (λ text t. behind (holds m.cell) (behind (holds m.whole) (behind (holds m.narrow) (behind (holds m.parts) (behind (holds few) (f text t)))))) old

  module _ (members : List Operator) (rest : DataLines) (text : List ℕ) (line : ℕ) (is : IsDataText rest text line) (old : K) where
    -- sites that could not be read
    pub not_sites : (stop : AtomFault) → IsAtomFaultOf line (lines_of text) stop → Answers sink (OverSites members rest) old old (Err (fault_of_atoms stop))
    not_sites (atoms.Bad k) h = (refused (bad (bad_there IsAtomLine rest text line is k h)), refl)
    not_sites atoms.Many h = (behind (gathered (written_there IsAtomLine rest text line is h.sites h.written)) (refused (fails (λ few. let many = h.many in omega (arith, few, many)))), refl)
    not_sites atoms.NoMemory h = inl refl

    -- what was printed of them
    pub over_sites : {IsText : List ℕ → Type 0} (sites : List AtomSite) → AreAtomLines (lines_of text) sites → length sites ≤ MAX_ATOMS → ((text : List ℕ) → IsText text → IsExpandedText members sites text) → (new : K) (result : Result (Unit {0}) Fault) → Answers sink (Printing IsText) old new result
        → Answers sink (OverSites members rest) old new result
    over_sites sites w few f = printed (OverSites members rest) (λ t p. behind (gathered (written_there IsAtomLine rest text line is sites w)) (behind (holds few) (f t p))) old

    -- measured lines that could not be read
    pub not_measured : (pairs : Pairs) (stop : DataFault) → IsDataFaultOf IsMeasuredLine line (lines_of text) stop → Answers sink (OverMeasured pairs members rest) old old (Err (fault_of_data stop))
    not_measured pairs (data_faults.Bad k) h = (refused (bad (bad_there IsMeasuredLine rest text line is k h)), refl)
    not_measured pairs data_faults.NoMemory h = inl refl

    -- what was printed of them
    pub over_measured : {IsText : List ℕ → Type 0} (pairs : Pairs) (lines : List Measured) → AreMeasuredLines (lines_of text) lines → ((text : List ℕ) → IsText text → IsMergedText pairs members lines text) → (new : K) (result : Result (Unit {0}) Fault) → Answers sink (Printing IsText) old new result
        → Answers sink (OverMeasured pairs members rest) old new result
    over_measured pairs lines w f = printed (OverMeasured pairs members rest) (λ t p. behind (gathered (written_there IsMeasuredLine rest text line is lines w)) (f t p)) old

    module _ (s : grids.Grid) where
      -- values that could not be read
      pub not_valued : (stop : ValueFault) → IsValueFaultOf line (lines_of text) s stop → Answers sink (OverValues members s rest) old old (Err (fault_of_values stop))
      not_valued (value_faults.Bad k) h = (refused (bad (bad_there IsValueLine rest text line is k h)), refl)
      not_valued (value_faults.Count n) h = (behind (gathered (written_there IsValueLine rest text line is h.values h.written)) (refused (fails (λ all. h.other (h.count ∙ all)))), refl)
      not_valued value_faults.NoMemory h = inl refl

      module _ (given : GridValues) (values : AreValuesOf (lines_of text) s given) where
        there : AreWritten IsValueLine rest.lines given.values
        there = written_there IsValueLine rest text line is given.values values.written

        all : length given.values ≡ points s
        all = subst (λ g. length given.values ≡ points g) values.size values.all

        -- a walk that was not begun
        pub not_begun_over : (stop : GridFault) → (stop ≡ grid_faults.NotKept → (¬ IsKept members s)) → Answers sink (OverValues members s rest) old old (Err (fault_of_grid stop))
        not_begun_over grid_faults.NotKept h = (behind (gathered there) (behind (holds all) (refused (fails (h refl)))), refl)
        not_begun_over grid_faults.NoMemory h = inl refl

        -- what was printed of a summed map
        pub over_values : IsKept members s → (map : SummedMap) → IsSummedMap members given map → (new : K) (result : Result (Unit {0}) Fault) → Answers sink (Printing (IsMapText members map)) old new result → Answers sink (OverValues members s rest) old new result
        over_values kept map summed = printed (OverValues members s rest) (λ t p. behind (gathered there) (behind (holds all) (behind (holds kept) (record { map = map; summed = at_size; is_text = p })))) old
          where
            at_size : IsSummedMap members (record { size = s; values = given.values }) map
            at_size = subst (λ g. IsSummedMap members (record { size = g; values = given.values }) map) values.size summed

  module _ (input : Input) (bytes head tail : List ℕ) (line : ℕ) (cut : AreCut input bytes head tail line) (Then : Over) (old : K) where
    abbrev OverAll : Stage (List ℕ)
    OverAll = OverLines input (lines_of bytes) Then

    -- lines that could not be read
    pub not_listed : (stop : LineFault) → IsFaultOf (lines_of head) stop → Answers sink OverAll old old (Err (fault_of_lines stop))
    not_listed (lines.Unreadable k) h = (behind cut.divided (refused (unreadable (bad_lines IsGood IsUnreadable (λ u. u.kept (blank tt)) 1 cut.parts.head head k cut.before h))), refl)
    not_listed (lines.NotUnimodular k) h = (behind cut.divided (refused (not_unimodular (bad_lines IsGood IsNotUnimodular (λ n. n.kept (blank tt)) 1 cut.parts.head head k cut.before h))), refl)
    not_listed lines.NoMemory h = inl refl

    module _ (list : List Operator) (read : AreRead (lines_of head) list) where
      read_there : AreRead cut.parts.head list
      read_there = said_lines IsRead (λ l f r. r.kept) cut.parts.head head list cut.before read

      -- operators that did not close
      pub not_closed : (stop : CloseFault) → (stop ≡ closes.Unclosed → IsUnclosed list) → Answers sink OverAll old old (Err (fault_of_close stop))
      not_closed closes.Unclosed h = (behind cut.divided (behind (listed read_there) (refused (unclosed (h refl)))), refl)
      not_closed closes.NoMemory h = inl refl

      -- what was answered over the group and the data lines
      pub answered : (members : List Operator) → Closes list → IsGroupList list members → (new : K) (result : Result (Unit {0}) Fault) → ((rest : DataLines) → IsDataText rest tail line → Answers sink (Then members rest) old new result) → Answers sink OverAll old new result
      answered members closes group new result h = answers_after (Then members cut.parts.tail) OverAll (λ outcome a. behind cut.divided (behind (listed read_there) (behind (closed closes group) a))) old new result (h cut.parts.tail cut.behind)

-- ---- the parts of an input

-- all lines are of operators, where no data are read
pub all_of_it : (input : Input) (bytes : List ℕ) → (input ≡ OperatorsAndData → ⊥) → AreCut input bytes bytes [] 1
all_of_it OperatorsAndData bytes n = absurd (n refl)
all_of_it other bytes n = record { parts = record { head = lines_of bytes; tail = no_data }; divided = refl; before = inl refl; behind = no_text }

-- or it is divided at the first divider
pub at_divider : (bytes : List ℕ) (split : Split) → IsSplit bytes split → AreCut OperatorsAndData bytes (take split.head bytes) (drop split.tail bytes) split.line
at_divider bytes split s =
    let p = split_parts bytes split s in
    record { parts = record { head = p.0; tail = record { lines = p.1; first = split.line } }; divided = p.2.divided; before = p.2.before; behind = record { lines = p.2.after; first = refl } }
