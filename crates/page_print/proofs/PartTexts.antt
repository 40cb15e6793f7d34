-- Gathering a text of several parts, part by part.
use Rattle.std.proofs.Common.{◌≡◌, ℕ, List, [], ◌++◌, Result, Ok, Err, refl, sym, ap, ap₂, subst, ◌∙◌}
use Rattle.std.proofs.lemmas.List.{append-nil}
use Rattle.sg_io.specs.declared.sink.SinkStop.{SinkStop}
use Rattle.sg_io.specs.Streams.{SeenSink}
use Rattle.page_print.specs.Lines.{IsNothing}
use Rattle.page_print.specs.Printing.{GathersText}
use Rattle.page_print.proofs.Gathering.{IsUnderWay, begun, one_piece, one_part, stopped, gathered_all, nothing_before}
use Rattle.page_print.specs.Parts.{Is, Then}

then_before : (P Q : List ℕ → Type 0) (first later : List ℕ) → P first → Q later → Then P Q (first ++ later)
then_before P Q first later p q = record { first = first; is_first = p; later = later; is_later = q; whole = refl }

pub some_then : {P Q : List ℕ → Type 0} → (text : List ℕ) × P text → (text : List ℕ) × Q text → (text : List ℕ) × Then P Q text
some_then {P} {Q} p q = (p.0 ++ q.0, then_before P Q p.0 q.0 p.1 q.1)

-- there is one such text at most
abbrev pub IsOne : (List ℕ → Type 0) → Type 0
IsOne P = (s t : List ℕ) → P s → P t → s ≡ t

pub one_then : {P Q : List ℕ → Type 0} → IsOne P → IsOne Q → IsOne (Then P Q)
one_then {P} {Q} one other s t p q = p.whole ∙ ap₂ (λ u v. u ++ v) (one p.first q.first p.is_first q.is_first) (other p.later q.later p.is_later q.is_later) ∙ sym q.whole

pub one_under : {heading : List ℕ} {Q : List ℕ → Type 0} → IsOne Q → IsOne (Then (Is heading) Q)
one_under {heading} {Q} one = one_then {P = Is heading} {Q = Q} (λ s t p q. p ∙ sym q) one

-- the last part is followed by nothing
last_before : (P : List ℕ → Type 0) (text rest : List ℕ) → P text → IsNothing rest → P (text ++ rest)
last_before P text rest p e = subst P (sym (append-nil text) ∙ ap (λ (t : List ℕ). text ++ t) (sym e)) p

module _ {K : Type 0} (sink : SeenSink K) (Whole : List ℕ → Type 0) (old : K) (page : List ℕ) where
  module _ (P Q : List ℕ → Type 0) (mid : K) (more : List ℕ) (way : IsUnderWay sink Whole old page (Then P Q) mid more) where
    -- the first of the parts that are left was gathered
    pub part_gathered : (new : K) (now : List ℕ) → GathersText sink P mid new more now (Ok tt) → IsUnderWay sink Whole old page Q new now
    part_gathered new now g = one_part sink Whole old page (Then P Q) mid more way Q P new now (then_before P Q) g

    -- the sink stopped in it
    pub part_stopped : (text : List ℕ) × Q text → (new : K) (now : List ℕ) (stop : SinkStop) → GathersText sink P mid new more now (Err stop) → GathersText sink Whole old new page now (Err stop)
    part_stopped later new now stop g = stopped sink Whole old page (Then P Q) mid more way Q P new now (then_before P Q) stop later g

  -- the last part
  pub last_gathered : (P : List ℕ → Type 0) (mid new : K) (more now : List ℕ) (result : Result (Unit {0}) SinkStop) → IsUnderWay sink Whole old page P mid more → GathersText sink P mid new more now result → GathersText sink Whole old new page now result
  last_gathered P mid new more now (Ok done) way g = gathered_all sink Whole old page IsNothing new now (one_part sink Whole old page P mid more way IsNothing P new now (last_before P) g) refl
  last_gathered P mid new more now (Err stop) way g = stopped sink Whole old page P mid more way IsNothing P new now (last_before P) stop ([], refl) g

-- two parts
module _ {K : Type 0} (sink : SeenSink K) (P Q : List ℕ → Type 0) (old mid : K) (page more : List ℕ) where
  pub two_gathered : (new : K) (now : List ℕ) (result : Result (Unit {0}) SinkStop) → GathersText sink P old mid page more (Ok tt) → GathersText sink Q mid new more now result → GathersText sink (Then P Q) old new page now result
  two_gathered new now result g h =
      last_gathered sink (Then P Q) old page Q mid new more now result
      (part_gathered sink (Then P Q) old page P Q old page (begun sink (Then P Q) old page) mid more g) h

  pub first_stopped : (text : List ℕ) × Q text → (stop : SinkStop) → GathersText sink P old mid page more (Err stop) → GathersText sink (Then P Q) old mid page more (Err stop)
  first_stopped later stop g = part_stopped sink (Then P Q) old page P Q old page (begun sink (Then P Q) old page) later mid more stop g

-- the sink stopped before a text was begun
pub room_stopped : {K : Type 0} (sink : SeenSink K) (P : List ℕ → Type 0) (old new : K) (page now : List ℕ) → (text : List ℕ) × P text → (stop : SinkStop) → GathersText sink IsNothing old new page now (Err stop) → GathersText sink P old new page now (Err stop)
room_stopped sink P old new page now some stop g = stopped sink P old page P old page (begun sink P old page) P IsNothing new now (nothing_before P) stop some g

-- the heading stands on the page
pub after_heading : {K : Type 0} (sink : SeenSink K) (heading : List ℕ) (Q : List ℕ → Type 0) (old new : K) (page first now : List ℕ) (result : Result (Unit {0}) SinkStop) → first ≡ page ++ heading → GathersText sink Q old new first now result → GathersText sink (Then (Is heading) Q) old new page now result
after_heading sink heading Q old new page first now result e g =
    let Whole = Then (Is heading) Q in
    last_gathered sink Whole old page Q old new first now result
    (one_piece sink Whole old page Whole old page (begun sink Whole old page) Q first heading e (λ rest q. then_before (Is heading) Q heading rest refl q)) g
