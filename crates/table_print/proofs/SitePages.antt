-- The text of a site, gathered part by part.
use Rattle.std.proofs.Common.{◌≡◌, ℕ, List, [], ◌++◌, Result, Ok, Err, refl}
use Rattle.lattice_algebra.specs.Map.{Map}
use Rattle.lattice_algebra.specs.Point.{Point}
use Rattle.sg_io.specs.declared.sink.SinkStop.{SinkStop}
use Rattle.sg_io.specs.Streams.{SeenSink}
use Rattle.page_print.specs.Lines.{AreLines, IsNothing}
use Rattle.page_print.specs.Printing.{Prints, GathersText}
use Rattle.page_print.proofs.Gathering.{IsUnderWay, begun, one_piece, one_part, stopped, gathered_all, nothing_before, printed, prints_stopped}
use Rattle.table_print.specs.Sites.{IsElementLine, IsPointLine, IsSiteText}
use Rattle.table_print.proofs.SiteTexts as texts

module _ {K : Type 0} (sink : SeenSink K) (site : List Map) (orbit : List Point) (old : K) (page : List ℕ) (empty : page ≡ []) where
  abbrev Whole : List ℕ → Type 0
  Whole = IsSiteText site orbit

  abbrev Elements : List ℕ → Type 0
  Elements text = AreLines IsElementLine site text

  abbrev Points : List ℕ → Type 0
  Points text = AreLines IsPointLine orbit text

  -- the counts are on the page
  module _ (first : List ℕ) (counts : first ≡ page ++ texts.Counts site orbit) where
    counts_put : IsUnderWay sink Whole old page (texts.IsRestOfSite site orbit) old first
    counts_put = one_piece sink Whole old page Whole old page (begun sink Whole old page) (texts.IsRestOfSite site orbit) first (texts.Counts site orbit) counts (texts.counts_before site orbit)

    pub stopped_in_elements : (new : K) (now : List ℕ) (stop : SinkStop) → GathersText sink Elements old new first now (Err stop) → Prints sink Whole old new (Err stop)
    stopped_in_elements new now stop g =
        prints_stopped sink Whole old page empty new now stop
        (stopped sink Whole old page (texts.IsRestOfSite site orbit) old first counts_put Points Elements new now (texts.elements_before site orbit) stop (texts.some_points site orbit) g)

    -- the elements are gathered
    module _ (mid : K) (second : List ℕ) (elements : GathersText sink Elements old mid first second (Ok tt)) where
      elements_put : IsUnderWay sink Whole old page Points mid second
      elements_put = one_part sink Whole old page (texts.IsRestOfSite site orbit) old first counts_put Points Elements mid second (texts.elements_before site orbit) elements

      pub stopped_between : (new : K) (now : List ℕ) (stop : SinkStop) → GathersText sink IsNothing mid new second now (Err stop) → Prints sink Whole old new (Err stop)
      stopped_between new now stop g =
          prints_stopped sink Whole old page empty new now stop
          (stopped sink Whole old page Points mid second elements_put Points IsNothing new now (nothing_before Points) stop (texts.some_points site orbit) g)

      -- there is room for a point
      module _ (late : K) (third : List ℕ) (room : GathersText sink IsNothing mid late second third (Ok tt)) where
        room_made : IsUnderWay sink Whole old page Points late third
        room_made = one_part sink Whole old page Points mid second elements_put Points IsNothing late third (nothing_before Points) room

        pub stopped_in_points : (new : K) (now : List ℕ) (stop : SinkStop) → GathersText sink Points late new third now (Err stop) → Prints sink Whole old new (Err stop)
        stopped_in_points new now stop g =
            prints_stopped sink Whole old page empty new now stop
            (stopped sink Whole old page Points late third room_made IsNothing Points new now (texts.points_before site orbit) stop ([], refl) g)

        -- the points are gathered, and the last page is handed over
        pub site_printed : (last new : K) (fourth : List ℕ) (result : Result (Unit {0}) SinkStop) → GathersText sink Points late last third fourth (Ok tt)
            → Prints sink (λ text. text ≡ fourth) last new result → Prints sink Whole old new result
        site_printed last new fourth result g put =
            let points_put = one_part sink Whole old page Points late third room_made IsNothing Points last fourth (texts.points_before site orbit) g in
            printed sink Whole old page empty last new fourth result (gathered_all sink Whole old page IsNothing last fourth points_put refl) put
