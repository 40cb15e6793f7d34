-- Printing a table, part by part.
use Rattle.std.proofs.Common.{◌≡◌, ℕ, List, [], Result, Ok, Err, refl, sym, ◌∙◌}
use Rattle.lattice_algebra.specs.Operator.{Operator}
use Rattle.group_closure.specs.GroupList.{IsGroup}
use Rattle.space_groups.specs.Rows.{Row}
use Rattle.phase_rules.specs.declared.pairs.Pairs.{Pairs}
use Rattle.reflections.specs.Boxes.{Box}
use Rattle.sg_io.specs.declared.sink.SinkStop.{SinkStop}
use Rattle.sg_io.specs.Streams.{SeenSink}
use Rattle.page_print.specs.Printing.{Prints, GathersText}
use Rattle.page_print.proofs.Gathering.{IsUnderWay, begun, printed, prints_stopped}
use Rattle.page_print.proofs.LineTexts.{some_lines, one_text}
use Rattle.table_print.specs.Operators.{IsOperatorLine}
use Rattle.table_print.specs.Types.{IsTypeLine, AreTypeLines}
use Rattle.page_print.specs.Parts.{Then}
use Rattle.table_print.specs.Table.{IsOperatorPart, IsTypePart, IsRowPart, IsClassPart, IsTableText}
use Rattle.table_print.proofs.ClassTexts.{some_box_text, one_box_text}
use Rattle.page_print.proofs.PartTexts.{some_then, one_then, one_under, part_gathered, part_stopped, last_gathered}
use Rattle.table_print.proofs.TypeLines.{one_operator_line, one_type_line, some_type_line}

pub some_type_lines : (members : List Operator) → IsGroup members → (text : List ℕ) × AreTypeLines members text
some_type_lines members group = some_lines IsTypeLine members (λ f m. some_type_line members f group m)

module _ (pairs : Pairs) (members : List Operator) (group : IsGroup members) (rows : List Row) (box : Box) where
  abbrev pub Classes : List ℕ → Type 0
  Classes = IsClassPart pairs members box

  abbrev pub FromRows : List ℕ → Type 0
  FromRows = Then (IsRowPart members rows) Classes

  abbrev pub FromTypes : List ℕ → Type 0
  FromTypes = Then (IsTypePart members) FromRows

  abbrev Whole : List ℕ → Type 0
  Whole = IsTableText pairs members rows box

  some_classes : (text : List ℕ) × Classes text
  some_classes = some_then (_, refl) (some_box_text pairs members group box)

  some_from_rows : (text : List ℕ) × FromRows text
  some_from_rows = some_then (some_then (_, refl) (_, refl)) some_classes

  some_from_types : (text : List ℕ) × FromTypes text
  some_from_types = some_then (some_then (_, refl) (some_type_lines members group)) some_from_rows

  pub some_table_text : (text : List ℕ) × IsTableText pairs members rows box text
  some_table_text = some_then (some_then (_, refl) (some_lines IsOperatorLine members (λ f m. (_, refl)))) some_from_types

  pub one_table_text : (s t : List ℕ) → IsTableText pairs members rows box s → IsTableText pairs members rows box t → s ≡ t
  one_table_text =
      one_then (one_under (one_text IsOperatorLine one_operator_line members))
      (one_then (one_under (one_text IsTypeLine one_type_line members)) (one_then (one_under (λ s t p q. p ∙ sym q)) (one_under (one_box_text pairs members group box))))

  module _ {K : Type 0} (sink : SeenSink K) (old : K) (page : List ℕ) (empty : page ≡ []) where
    all_to_come : IsUnderWay sink Whole old page Whole old page
    all_to_come = begun sink Whole old page

    pub stopped_in_operators : (new : K) (now : List ℕ) (stop : SinkStop) → GathersText sink (IsOperatorPart members) old new page now (Err stop) → Prints sink Whole old new (Err stop)
    stopped_in_operators new now stop g = prints_stopped sink Whole old page empty new now stop (part_stopped sink Whole old page (IsOperatorPart members) FromTypes old page all_to_come some_from_types new now stop g)

    module _ (mid : K) (more : List ℕ) (operators : GathersText sink (IsOperatorPart members) old mid page more (Ok tt)) where
      operators_put : IsUnderWay sink Whole old page FromTypes mid more
      operators_put = part_gathered sink Whole old page (IsOperatorPart members) FromTypes old page all_to_come mid more operators

      pub stopped_in_types : (new : K) (now : List ℕ) (stop : SinkStop) → GathersText sink (IsTypePart members) mid new more now (Err stop) → Prints sink Whole old new (Err stop)
      stopped_in_types new now stop g = prints_stopped sink Whole old page empty new now stop (part_stopped sink Whole old page (IsTypePart members) FromRows mid more operators_put some_from_rows new now stop g)

      module _ (late : K) (next : List ℕ) (types : GathersText sink (IsTypePart members) mid late more next (Ok tt)) where
        types_put : IsUnderWay sink Whole old page FromRows late next
        types_put = part_gathered sink Whole old page (IsTypePart members) FromRows mid more operators_put late next types

        pub stopped_in_rows : (new : K) (now : List ℕ) (stop : SinkStop) → GathersText sink (IsRowPart members rows) late new next now (Err stop) → Prints sink Whole old new (Err stop)
        stopped_in_rows new now stop g = prints_stopped sink Whole old page empty new now stop (part_stopped sink Whole old page (IsRowPart members rows) Classes late next types_put some_classes new now stop g)

        module _ (later : K) (left : List ℕ) (row_lines : GathersText sink (IsRowPart members rows) late later next left (Ok tt)) where
          rows_put : IsUnderWay sink Whole old page Classes later left
          rows_put = part_gathered sink Whole old page (IsRowPart members rows) Classes late next types_put later left row_lines

          pub stopped_in_classes : (new : K) (now : List ℕ) (stop : SinkStop) → GathersText sink Classes later new left now (Err stop) → Prints sink Whole old new (Err stop)
          stopped_in_classes new now stop g = prints_stopped sink Whole old page empty new now stop (last_gathered sink Whole old page Classes later new left now (Err stop) rows_put g)

          -- the last page is handed over
          pub table_printed : (last new : K) (now : List ℕ) (result : Result (Unit {0}) SinkStop) → GathersText sink Classes later last left now (Ok tt) → Prints sink (λ text. text ≡ now) last new result → Prints sink Whole old new result
          table_printed last new now result g put = printed sink Whole old page empty last new now result (last_gathered sink Whole old page Classes later last left now (Ok tt) rows_put g) put
