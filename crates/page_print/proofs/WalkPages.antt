-- Printing a list whose lines a walk gives one after the other.
use Rattle.std.proofs.Common.{◌≡◌, ℕ, List, [], ◌∷◌, ◌++◌, Ok, Err, refl, sym, subst, append_assoc}
use Rattle.std.proofs.lemmas.List.{append-nil}
use Rattle.sg_io.specs.declared.sink.SinkStop.{SinkStop}
use Rattle.sg_io.specs.Streams.{SeenSink}
use Rattle.page_print.specs.Lines.{AreLines, IsNothing, AddsSuch}
use Rattle.page_print.specs.Printing.{GathersText}
use Rattle.page_print.proofs.LineTexts.{some_lines}
use Rattle.page_print.proofs.Gathering.{IsUnderWay, begun, one_piece, one_part, stopped, gathered_all, nothing_before}

-- lines that a walk takes one after the other from the front of a list, and the text of the whole list
pub record Listing : Type 1 where
  pub Line : Type 0
  pub Walk : Type 0
  pub text_of : Line → List ℕ
  pub IsWhole : List ℕ → Type 0
  pub IsList : List Line → Type 0
  pub IsTaken : Walk → List Line → Type 0
  pub whole : (lines : List Line) (text : List ℕ) → IsList lines → AreLines (λ line piece. piece ≡ text_of line) lines text → IsWhole text
  pub later : (now : Walk) (taken : List Line) → IsTaken now taken → (rest : List Line) × IsList (taken ++ rest)

module _ (listing : Listing) where
  open listing use {Line, Walk, text_of, IsWhole, IsList, IsTaken, whole, later}

  abbrev IsText : Line → List ℕ → Type 0
  IsText line piece = piece ≡ text_of line

  -- what is still to come where these lines were taken
  pub record IsRest (taken : List Line) (text : List ℕ) : Type 0 where
    pub rest : List Line
    pub is_list : IsList (taken ++ rest)
    pub are_lines : AreLines IsText rest text

  line_before : (taken : List Line) (line : Line) (piece rest : List ℕ) → IsText line piece → IsRest (taken ++ line ∷ []) rest → IsRest taken (piece ++ rest)
  line_before taken line piece rest is r = record {
    rest = line ∷ r.rest;
    is_list = subst IsList (append_assoc taken (line ∷ []) r.rest) r.is_list;
    are_lines = AreLines.line is r.are_lines;
  }

  -- there is such a text
  some_rest : (now : Walk) (taken : List Line) → IsTaken now taken → (text : List ℕ) × IsRest taken text
  some_rest now taken t =
      let rest = later now taken t in
      let text = some_lines IsText rest.0 (λ line m. (_, refl)) in
      (text.0, record { rest = rest.0; is_list = rest.1; are_lines = text.1 })

  module _ {K : Type 0} (sink : SeenSink K) (old : K) (page : List ℕ) where
    -- these lines were taken from the walk, and gathered
    pub record IsPrinting (now : Walk) (mid : K) (more : List ℕ) : Type 0 where
      pub taken : List Line
      pub is_taken : IsTaken now taken
      pub way : IsUnderWay sink IsWhole old page (IsRest taken) mid more

    pub printing_begun : (first : Walk) → IsTaken first [] → IsPrinting first old page
    printing_begun first t = record {
      taken = [];
      is_taken = t;
      way = one_piece sink IsWhole old page IsWhole old page (begun sink IsWhole old page) (IsRest []) page [] (sym (append-nil page)) (λ text r. whole r.rest text r.is_list r.are_lines);
    }

    -- one line more
    pub line_put : (now next : Walk) (mid : K) (more added : List ℕ) (line : Line) (p : IsPrinting now mid more) → IsTaken next (p.taken ++ line ∷ []) → AddsSuch (IsText line) more added → IsPrinting next mid added
    line_put now next mid more added line p t a = record {
      taken = p.taken ++ line ∷ [];
      is_taken = t;
      way = one_piece sink IsWhole old page (IsRest p.taken) mid more p.way (IsRest (p.taken ++ line ∷ [])) added a.0 a.2 (λ rest r. line_before p.taken line a.0 rest a.1 r);
    }

    pub room_made : (now : Walk) (mid new : K) (more next : List ℕ) → IsPrinting now mid more → GathersText sink IsNothing mid new more next (Ok tt) → IsPrinting now new next
    room_made now mid new more next p g = record {
      taken = p.taken;
      is_taken = p.is_taken;
      way = one_part sink IsWhole old page (IsRest p.taken) mid more p.way (IsRest p.taken) IsNothing new next (nothing_before (IsRest p.taken)) g;
    }

    pub printing_stopped : (now : Walk) (mid new : K) (more next : List ℕ) (stop : SinkStop) → IsPrinting now mid more → GathersText sink IsNothing mid new more next (Err stop) → GathersText sink IsWhole old new page next (Err stop)
    printing_stopped now mid new more next stop p g = stopped sink IsWhole old page (IsRest p.taken) mid more p.way (IsRest p.taken) IsNothing new next (nothing_before (IsRest p.taken)) stop (some_rest now p.taken p.is_taken) g

    -- no line is left
    pub all_put : (now : Walk) (mid : K) (more : List ℕ) (p : IsPrinting now mid more) → IsList p.taken → GathersText sink IsWhole old mid page more (Ok tt)
    all_put now mid more p all = gathered_all sink IsWhole old page (IsRest p.taken) mid more p.way (record { rest = []; is_list = subst IsList (sym (append-nil p.taken)) all; are_lines = AreLines.end })
