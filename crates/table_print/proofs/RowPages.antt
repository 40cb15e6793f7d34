-- Gathering lines of rows, one for each place.
use Rattle.std.proofs.Common.{◌≡◌, ℕ, ◌+◌, ◌≤◌, List, [], ◌∷◌, ◌++◌, drop, length, Some, slice_get, Ok, Err, refl, sym, ap, ◌∙◌}
use Rattle.std.proofs.lemmas.List.{drop_all, drop_more}
use Rattle.std.proofs.lemmas.Option.{slice_get_within, get_or_from_slice_get}
use Rattle.lattice_algebra.specs.Matrix.{identity, origin}
use Rattle.space_groups.specs.Rows.{Row, IsAt}
use Rattle.sg_io.specs.declared.sink.SinkStop.{SinkStop}
use Rattle.sg_io.specs.Streams.{SeenSink}
use Rattle.page_print.specs.Lines.{IsNothing}
use Rattle.page_print.specs.Printing.{GathersText}
use Rattle.page_print.proofs.Gathering.{IsUnderWay, begun, one_piece, one_part, stopped, gathered_all, nothing_before}
use Rattle.table_print.specs.Rows.{lines_from}

-- a row that nobody asks for
abbrev pub no_row : Row
no_row = record { mult = 0; key = record { m = identity; t = origin } }

pub stands_at : (rows : List Row) (k : ℕ) (row : Row) → slice_get rows k ≡ Some row → IsAt rows k row
stands_at rows k row is = record { within = slice_get_within rows k row is; is = λ d. get_or_from_slice_get rows k row d is }

module _ (line : ℕ → Row → List ℕ) (rows : List Row) where
  -- the lines from place k on
  abbrev pub AreLinesFrom : ℕ → List ℕ → Type 0
  AreLinesFrom k text = text ≡ lines_from line k (drop k rows)

  line_before : (k : ℕ) (row : Row) (rest : List ℕ) → slice_get rows k ≡ Some row → AreLinesFrom (k + 1) rest → AreLinesFrom k (line k row ++ rest)
  line_before k row rest is r =
      let cut = drop_more rows k row (slice_get_within rows k row is) ∙ ap (λ y. y ∷ drop (k + 1) rows) (get_or_from_slice_get rows k row row is) in
      ap (λ (t : List ℕ). line k row ++ t) r ∙ sym (ap (lines_from line k) cut)

  no_line_left : (k : ℕ) → length rows ≤ k → AreLinesFrom k []
  no_line_left k l = sym (ap (lines_from line k) (drop_all k rows l))

  module _ {K : Type 0} (sink : SeenSink K) (old : K) (page : List ℕ) where
    -- the lines before place k were gathered
    abbrev pub AreGathered : ℕ → K → List ℕ → Type 0
    AreGathered k mid more = IsUnderWay sink (AreLinesFrom 0) old page (AreLinesFrom k) mid more

    pub none_gathered : AreGathered 0 old page
    none_gathered = begun sink (AreLinesFrom 0) old page

    module _ (k : ℕ) (mid : K) (more : List ℕ) (way : AreGathered k mid more) where
      -- room was made, and a line was added
      pub line_gathered : (new : K) (next now : List ℕ) (row : Row) → GathersText sink IsNothing mid new more next (Ok tt) → slice_get rows k ≡ Some row → now ≡ next ++ line k row → AreGathered (k + 1) new now
      line_gathered new next now row g is e =
          one_piece sink (AreLinesFrom 0) old page (AreLinesFrom k) new next
          (one_part sink (AreLinesFrom 0) old page (AreLinesFrom k) mid more way (AreLinesFrom k) IsNothing new next (nothing_before (AreLinesFrom k)) g)
          (AreLinesFrom (k + 1)) now (line k row) e (λ rest r. line_before k row rest is r)

      pub lines_stopped : (new : K) (next : List ℕ) (stop : SinkStop) → GathersText sink IsNothing mid new more next (Err stop) → GathersText sink (AreLinesFrom 0) old new page next (Err stop)
      lines_stopped new next stop g = stopped sink (AreLinesFrom 0) old page (AreLinesFrom k) mid more way (AreLinesFrom k) IsNothing new next (nothing_before (AreLinesFrom k)) stop (_, refl) g

      pub all_gathered : length rows ≤ k → GathersText sink (AreLinesFrom 0) old mid page more (Ok tt)
      all_gathered l = gathered_all sink (AreLinesFrom 0) old page (AreLinesFrom k) mid more way (no_line_left k l)
