-- What is gathered on a page, text behind text, and handed over.
use Rattle.std.proofs.Common.{◌≡◌, ℕ, List, [], ◌++◌, Option, Result, Ok, Err, refl, sym, ap, subst, ◌∙◌, append_assoc}
use Rattle.std.proofs.lemmas.List.{append-nil}
use Rattle.std.specs.Prelude.{OnOk, OnErr}
use Rattle.std.specs.Io.KnownBytes.{Appends}
use Rattle.std.proofs.KnownBytes.{Appends-nil, Appends-trans}
use Rattle.sg_io.specs.declared.sink.SinkStop.{SinkStop}
use Rattle.sg_io.specs.Bytes.{AppendsPrefix}
use Rattle.sg_io.specs.Streams.{SeenSink}
use Rattle.page_print.specs.Lines.{IsNothing, AddsSuch, AddsLine}
use Rattle.page_print.specs.Printing.{Counts, Prints, Gathers, GathersText}
use Rattle.page_print.proofs.Counting.{SameCounts, none_counted, counted_ok, same_when_ok, same_then, same_then_same}

-- a prefix of a text is a prefix of a longer one
pub prefix_of_longer : (old new : Option (List ℕ)) (text rest : List ℕ) → AppendsPrefix old new text → AppendsPrefix old new (text ++ rest)
prefix_of_longer old new text rest front =
    let more = front.1.0 in
    (front.0, (more ++ rest, sym (append_assoc front.0 more rest) ∙ ap (λ (l : List ℕ). l ++ rest) front.1.1), front.2)

-- a text, and a prefix of the next
pub prefix_behind : (old mid new : Option (List ℕ)) (text next : List ℕ) → Appends old mid text → AppendsPrefix mid new next → AppendsPrefix old new (text ++ next)
prefix_behind old mid new text next first front =
    (text ++ front.0, (front.1.0, append_assoc text front.0 front.1.0 ∙ ap (λ (l : List ℕ). text ++ l) front.1.1), Appends-trans old mid new text front.0 first front.2)

-- nothing stands before the rest
pub nothing_before : (Rest : List ℕ → Type 0) (text rest : List ℕ) → IsNothing text → Rest rest → Rest (text ++ rest)
nothing_before Rest text rest e r = subst (λ (t : List ℕ). Rest (t ++ rest)) (sym e) r

module _ {K : Type 0} (sink : SeenSink K) where
  open sink use {held}

  -- all of a text was handed over, or a prefix of it
  pub handed_over : (old new : K) (page : List ℕ) (result : Result (Unit {0}) SinkStop) → OnOk result (Appends (held old) (held new) page) → OnErr result (AppendsPrefix (held old) (held new) page) → Counts sink old new result
      → Prints sink (λ text. text ≡ page) old new result
  handed_over old new page (Ok done) ok err counts = record { ok = (page, refl, ok); err = tt; counts = counts }
  handed_over old new page (Err stop) ok err counts = record { ok = tt; err = (page, refl, err); counts = counts }

  -- a piece is added to the page
  pub pushed : (old : K) (page now text : List ℕ) → now ≡ page ++ text → Gathers sink old old page now text
  pushed old page now text e = ([], Appends-nil (held old), e)

  -- text behind text
  pub gathers_behind : (old mid new : K) (page more now first next : List ℕ) → Gathers sink old mid page more first → Gathers sink mid new more now next → Gathers sink old new page now (first ++ next)
  gathers_behind old mid new page more now first next a b = (
    a.0 ++ b.0,
    Appends-trans (held old) (held mid) (held new) a.0 b.0 a.1 b.1,
    append_assoc a.0 b.0 now ∙ ap (λ (l : List ℕ). a.0 ++ l) b.2 ∙ sym (append_assoc a.0 more next) ∙ ap (λ (l : List ℕ). l ++ next) a.2 ∙ append_assoc page first next,
  )

  -- text, and a prefix of what stands on the page then and of the next
  pub stops_behind : (old mid new : K) (page more first next : List ℕ) → Gathers sink old mid page more first → AppendsPrefix (held mid) (held new) (more ++ next) → AppendsPrefix (held old) (held new) (page ++ (first ++ next))
  stops_behind old mid new page more first next a front =
      subst (AppendsPrefix (held old) (held new)) (sym (append_assoc a.0 more next) ∙ ap (λ (l : List ℕ). l ++ next) a.2 ∙ append_assoc page first next)
      (prefix_behind (held old) (held mid) (held new) a.0 (more ++ next) a.1 front)

  module _ (First : List ℕ → Type 0) (old : K) (page : List ℕ) where
    -- some text was gathered, and with it in front what is still to come is what is to be printed
    pub record IsUnderWay (Rest : List ℕ → Type 0) (mid : K) (more : List ℕ) : Type 0 where
      pub done : List ℕ
      pub gathered : Gathers sink old mid page more done
      pub before : (rest : List ℕ) → Rest rest → First (done ++ rest)
      pub counts : SameCounts sink old mid

    pub begun : IsUnderWay First old page
    begun = record { done = []; gathered = pushed old page page [] (sym (append-nil page)); before = λ rest h. h; counts = none_counted sink old }

    module _ (Rest : List ℕ → Type 0) (mid : K) (more : List ℕ) (way : IsUnderWay Rest mid more) (After : List ℕ → Type 0) where
      -- a piece was added to the page
      pub one_piece : (now piece : List ℕ) → now ≡ more ++ piece → ((rest : List ℕ) → After rest → Rest (piece ++ rest)) → IsUnderWay After mid now
      one_piece now piece e before = record {
        done = way.done ++ piece;
        gathered = gathers_behind old mid mid page more now way.done piece way.gathered (pushed mid more now piece e);
        before = λ rest h. subst First (sym (append_assoc way.done piece rest)) (way.before (piece ++ rest) (before rest h));
        counts = way.counts;
      }

      pub one_line : (now : List ℕ) → AddsLine Rest After more now → IsUnderWay After mid now
      one_line now a = one_piece now a.line a.added a.before

      module _ (Part : List ℕ → Type 0) (new : K) (now : List ℕ) (before : (text rest : List ℕ) → Part text → After rest → Rest (text ++ rest)) where
        -- a part of the text was gathered
        pub one_part : GathersText sink Part mid new more now (Ok tt) → IsUnderWay After new now
        one_part g =
            let text = g.ok.0 in
            record {
              done = way.done ++ text;
              gathered = gathers_behind old mid new page more now way.done text way.gathered g.ok.2;
              before = λ rest h. subst First (sym (append_assoc way.done text rest)) (way.before (text ++ rest) (before text rest g.ok.1 h));
              counts = same_then_same sink old mid new way.counts (same_when_ok sink mid new g.counts);
            }

        -- the sink stopped in that part
        pub stopped : (stop : SinkStop) → (rest : List ℕ) × After rest → GathersText sink Part mid new more now (Err stop) → GathersText sink First old new page now (Err stop)
        stopped stop r g =
            let text = g.err.0 in
            let longer = subst (AppendsPrefix (held mid) (held new)) (append_assoc more text r.0) (prefix_of_longer (held mid) (held new) (more ++ text) r.0 g.err.2) in
            record {
              ok = tt;
              err = (way.done ++ (text ++ r.0), way.before (text ++ r.0) (before text r.0 g.err.1 r.1), stops_behind old mid new page more way.done (text ++ r.0) way.gathered longer);
              counts = same_then sink old mid new (Err stop) way.counts g.counts;
            }

    module _ (Rest : List ℕ → Type 0) (mid : K) (more : List ℕ) (way : IsUnderWay Rest mid more) (nothing : Rest []) where
      -- there is no more to come
      pub gathered_all : GathersText sink First old mid page more (Ok tt)
      gathered_all = record {
        ok = (way.done, subst First (append-nil way.done) (way.before [] nothing), way.gathered);
        err = tt;
        counts = counted_ok sink old mid way.counts;
      }

  module _ (First : List ℕ → Type 0) (old : K) (page : List ℕ) (empty : page ≡ []) where
    from_empty : (mid : K) (more text : List ℕ) → Gathers sink old mid page more text → (front : List ℕ) × Appends (held old) (held mid) front × (front ++ more ≡ text)
    from_empty mid more text a = (a.0, a.1, a.2 ∙ ap (λ (l : List ℕ). l ++ text) empty)

    -- the sink stopped while a text was gathered from an empty page on
    pub prints_stopped : (new : K) (now : List ℕ) (stop : SinkStop) → GathersText sink First old new page now (Err stop) → Prints sink First old new (Err stop)
    prints_stopped new now stop g = record {
      ok = tt;
      err = (g.err.0, g.err.1, subst (λ (l : List ℕ). AppendsPrefix (held old) (held new) (l ++ g.err.0)) empty g.err.2);
      counts = g.counts;
    }

    -- all that was gathered from an empty page on is handed over
    pub printed : (mid new : K) (more : List ℕ) (result : Result (Unit {0}) SinkStop) → GathersText sink First old mid page more (Ok tt) → Prints sink (λ text. text ≡ more) mid new result → Prints sink First old new result
    printed mid new more (Ok done) g put =
        let a = from_empty mid more g.ok.0 g.ok.2 in
        let last = subst (Appends (held mid) (held new)) put.ok.1 put.ok.2 in
        record {
          ok = (g.ok.0, g.ok.1, subst (Appends (held old) (held new)) a.2 (Appends-trans (held old) (held mid) (held new) a.0 more a.1 last));
          err = tt;
          counts = same_then sink old mid new (Ok tt) (same_when_ok sink old mid g.counts) put.counts;
        }
    printed mid new more (Err stop) g put =
        let a = from_empty mid more g.ok.0 g.ok.2 in
        let front = subst (AppendsPrefix (held mid) (held new)) put.err.1 put.err.2 in
        record {
          ok = tt;
          err = (g.ok.0, g.ok.1, subst (AppendsPrefix (held old) (held new)) a.2 (prefix_behind (held old) (held mid) (held new) a.0 more a.1 front));
          counts = same_then sink old mid new (Err stop) (same_when_ok sink old mid g.counts) put.counts;
        }

    -- a text that was put on an empty page, which is handed over
    pub piece_printed : (new : K) (more : List ℕ) (result : Result (Unit {0}) SinkStop) → AddsSuch First page more → Prints sink (λ text. text ≡ more) old new result → Prints sink First old new result
    piece_printed new more result a = printed old new more result (record { ok = (a.0, a.1, pushed old page more a.0 a.2); err = tt; counts = counted_ok sink old old (none_counted sink old) })
