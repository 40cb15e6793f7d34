-- The text of a merged list, gathered part by part.
use Rattle.std.proofs.Common.{◌≡◌, ◌≤◌, ◌+◌, ℕ, Some, List, [], ◌∷◌, ◌++◌, length, drop, slice_get, Ok, Err, Result, refl, sym, ap, ◌∙◌, append_assoc}
use Rattle.std.specs.List.{flat_map}
use Rattle.std.proofs.lemmas.List.{append-nil, drop_more, drop_all}
use Rattle.std.proofs.lemmas.Option.{slice_get_within, get_or_from_slice_get}
use Rattle.triplet_text.specs.Bytes.{space, line_feed}
use Rattle.sg_io.specs.declared.sink.SinkStop.{SinkStop}
use Rattle.sg_io.specs.Streams.{SeenSink}
use Rattle.page_print.specs.Lines.{IsNothing}
use Rattle.page_print.specs.Printing.{GathersText, Prints}
use Rattle.page_print.proofs.Gathering.{IsUnderWay, begun, one_piece, one_part, stopped, gathered_all, nothing_before, printed, prints_stopped}
use Rattle.refl_merge.specs.declared.merged.MergedLine.{MergedLine}
use Rattle.refl_merge.specs.Texts.{class_text, observed_text, heading_text, merged_text}

module _ {K : Type 0} (sink : SeenSink K) (merged : List MergedLine) (old : K) (page : List ℕ) (empty : page ≡ []) where
  abbrev Text : List ℕ → Type 0
  Text text = text ≡ merged_text merged

  abbrev Classes : List ℕ → Type 0
  Classes text = text ≡ flat_map class_text merged

  abbrev Heading : List ℕ → Type 0
  Heading text = text ≡ heading_text merged

  abbrev Observed : List ℕ → Type 0
  Observed text = text ≡ flat_map observed_text merged

  abbrev BehindClasses : List ℕ → Type 0
  BehindClasses text = text ≡ heading_text merged ++ flat_map observed_text merged

  behind : (a b text rest : List ℕ) → text ≡ a → rest ≡ b → text ++ rest ≡ a ++ b
  behind a b text rest e f = ap (λ t. t ++ rest) e ∙ ap (λ t. a ++ t) f

  start : IsUnderWay sink Text old page Text old page
  start = begun sink Text old page

  pub classes_stopped : (new : K) (now : List ℕ) (stop : SinkStop) → GathersText sink Classes old new page now (Err stop) → Prints sink Text old new (Err stop)
  classes_stopped new now stop g = prints_stopped sink Text old page empty new now stop (stopped sink Text old page Text old page start BehindClasses Classes new now (behind _ _) stop (_, refl) g)

  module _ (first : K) (one : List ℕ) (classes : GathersText sink Classes old first page one (Ok tt)) where
    way_one : IsUnderWay sink Text old page BehindClasses first one
    way_one = one_part sink Text old page Text old page start BehindClasses Classes first one (behind _ _) classes

    pub heading_stopped : (new : K) (now : List ℕ) (stop : SinkStop) → GathersText sink Heading first new one now (Err stop) → Prints sink Text old new (Err stop)
    heading_stopped new now stop g = prints_stopped sink Text old page empty new now stop (stopped sink Text old page BehindClasses first one way_one Observed Heading new now (behind _ _) stop (_, refl) g)

    module _ (second : K) (two : List ℕ) (heading : GathersText sink Heading first second one two (Ok tt)) where
      way_two : IsUnderWay sink Text old page Observed second two
      way_two = one_part sink Text old page BehindClasses first one way_one Observed Heading second two (behind _ _) heading

      last : (text rest : List ℕ) → Observed text → IsNothing rest → Observed (text ++ rest)
      last text rest e f = ap (λ t. text ++ t) f ∙ append-nil text ∙ e

      pub observed_stopped : (new : K) (now : List ℕ) (stop : SinkStop) → GathersText sink Observed second new two now (Err stop) → Prints sink Text old new (Err stop)
      observed_stopped new now stop g = prints_stopped sink Text old page empty new now stop (stopped sink Text old page Observed second two way_two IsNothing Observed new now last stop ([], refl) g)

      pub all_printed : (third new : K) (three : List ℕ) (result : Result (Unit {0}) SinkStop) → GathersText sink Observed second third two three (Ok tt) → Prints sink (λ text. text ≡ three) third new result → Prints sink Text old new result
      all_printed third new three result g put =
          let way = one_part sink Text old page Observed second two way_two IsNothing Observed third three last g in
          printed sink Text old page empty third new three result (gathered_all sink Text old page IsNothing third three way refl) put
