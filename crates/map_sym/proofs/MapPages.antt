-- Printing a map line by line, and then its total.
use Rattle.std.proofs.Common.{◌≡◌, ℕ, List, [], ◌∷◌, ◌++◌, Result, Ok, Err, refl, sym, subst, ◌∙◌}
use Rattle.std.proofs.lemmas.List.Elements.{All-contains, Contains-append_right}
use Rattle.finite_groups.proofs.Members as lists
use Rattle.lattice_algebra.specs.Operator.{Operator}
use Rattle.group_closure.specs.GroupList.{IsGroup}
use Rattle.tag_walks.specs.Regions.{IsListed}
use Rattle.grid_tags.specs.declared.line.GridLine.{GridLine}
use Rattle.grid_tags.specs.Grids.{Grid, IsInGrid, IsGridInRange, IsKept, triple_of}
use Rattle.grid_tags.specs.GridLists.{IsGridList, grid_region}
use Rattle.grid_tags.specs.Walks.{Walk, IsWalk}
use Rattle.grid_tags.proofs.Whole.{some_grid_list, one_grid_list, taken_first}
use Rattle.sg_io.specs.declared.sink.SinkStop.{SinkStop}
use Rattle.sg_io.specs.Streams.{SeenSink}
use Rattle.page_print.specs.Lines.{AddsSuch, AreLines}
use Rattle.page_print.specs.Parts.{Is}
use Rattle.page_print.specs.Printing.{Prints, GathersText}
use Rattle.page_print.proofs.Counting.{none_counted, counted_ok}
use Rattle.page_print.proofs.Gathering.{pushed, printed, prints_stopped}
use Rattle.page_print.proofs.LineTexts.{some_lines, one_text}
use Rattle.page_print.proofs.PartTexts.{first_stopped, two_gathered, some_then, one_then}
use Rattle.page_print.proofs.WalkPages.{Listing}
use Rattle.map_sym.specs.SummedMaps.{GridValues, SummedMap, value_at}
use Rattle.map_sym.specs.MapTexts.{sum_text, total_text, IsSumText, AreSumLines, IsMapText}

-- the line that was taken last is that of a grid point of the cell
pub taken_in_grid : (members : List Operator) (now : Walk) (taken : List GridLine) (line : GridLine) → IsWalk members now (taken ++ line ∷ []) → IsInGrid now.size (triple_of line.at)
taken_in_grid members now taken line walk =
    (All-contains (λ (l : GridLine). IsListed (grid_region members now.size) (triple_of l.at)) (taken ++ line ∷ []) line walk.tags.listed (Contains-append_right taken (line ∷ []) line (lists.Contains-here line []))).in_region

module _ (members : List Operator) (sums : GridValues) where
  -- these lines were taken from a walk through the grid of the map
  pub record IsTaken (now : Walk) (taken : List GridLine) : Type 0 where
    pub walk : IsWalk members now taken
    pub size : now.size ≡ sums.size

  pub same_list : (size : Grid) (lines : List GridLine) → size ≡ sums.size → IsGridList members size lines → IsGridList members sums.size lines
  same_list size lines s list = subst (λ z. IsGridList members z lines) s list

  pub later_lines : (now : Walk) (taken : List GridLine) → IsTaken now taken → (rest : List GridLine) × IsGridList members sums.size (taken ++ rest)
  later_lines now taken t =
      let all = some_grid_list members now.size t.walk.group t.walk.range t.walk.kept in
      let later = taken_first members now taken all.0 t.walk all.1 in
      (later.0, same_list now.size (taken ++ later.0) t.size (subst (IsGridList members now.size) later.1 all.1))

  abbrev pub sum_listing : Listing
  sum_listing = record {
    Line = GridLine;
    Walk = Walk;
    text_of = λ (line : GridLine). sum_text line (value_at sums (triple_of line.at));
    IsWhole = AreSumLines members sums;
    IsList = IsGridList members sums.size;
    IsTaken = IsTaken;
    whole = λ lines text list are. record { lines = lines; is_list = list; are_lines = are };
    later = later_lines;
  }

module _ (members : List Operator) (map : SummedMap) {K : Type 0} (sink : SeenSink K) (old : K) (page : List ℕ) (empty : page ≡ []) where
  -- the total was put on the page, which is handed over
  pub map_printed : (mid new : K) (more now : List ℕ) (result : Result (Unit {0}) SinkStop) → GathersText sink (AreSumLines members map.sums) old mid page more (Ok tt) → AddsSuch (Is (total_text map.total)) more now
      → Prints sink (λ text. text ≡ now) mid new result → Prints sink (IsMapText members map) old new result
  map_printed mid new more now result g a put =
      printed sink (IsMapText members map) old page empty mid new now result
      (two_gathered sink (AreSumLines members map.sums) (Is (total_text map.total)) old mid page more mid now (Ok tt) g (total_gathered mid more now a)) put
    where
      total_gathered : (mid : K) (more now : List ℕ) → AddsSuch (Is (total_text map.total)) more now → GathersText sink (Is (total_text map.total)) mid mid more now (Ok tt)
      total_gathered mid more now a = record { ok = (a.0, a.1, pushed sink mid more now a.0 a.2); err = tt; counts = counted_ok sink mid mid (none_counted sink mid) }

  -- the sink stopped in the lines
  pub map_stopped : (mid : K) (more : List ℕ) (stop : SinkStop) → GathersText sink (AreSumLines members map.sums) old mid page more (Err stop) → Prints sink (IsMapText members map) old mid (Err stop)
  map_stopped mid more stop g =
      prints_stopped sink (IsMapText members map) old page empty mid more stop
      (first_stopped sink (AreSumLines members map.sums) (Is (total_text map.total)) old mid page more (total_text map.total, refl) stop g)

-- ---- one text, and one only

module _ (members : List Operator) (map : SummedMap) (group : IsGroup members) (range : IsGridInRange map.sums.size) (kept : IsKept members map.sums.size) where
  some_sum_lines : (text : List ℕ) × AreSumLines members map.sums text
  some_sum_lines =
      let lines = some_grid_list members map.sums.size group range kept in
      let text = some_lines (IsSumText map.sums) lines.0 (λ line m. (_, refl)) in
      (text.0, record { lines = lines.0; is_list = lines.1; are_lines = text.1 })

  one_sum_lines : (s t : List ℕ) → AreSumLines members map.sums s → AreSumLines members map.sums t → s ≡ t
  one_sum_lines s t p q =
      let e = one_grid_list members map.sums.size group range kept p.lines q.lines p.is_list q.is_list in
      one_text (IsSumText map.sums) (λ line l m a b. a ∙ sym b) q.lines s t (subst (λ lines. AreLines (IsSumText map.sums) lines s) e p.are_lines) q.are_lines

  pub some_map_text : (text : List ℕ) × IsMapText members map text
  some_map_text = some_then some_sum_lines (_, refl)

  pub one_map_text : (s t : List ℕ) → IsMapText members map s → IsMapText members map t → s ≡ t
  one_map_text = one_then one_sum_lines (λ s t p q. p ∙ sym q)
