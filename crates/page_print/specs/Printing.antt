-- What printing a text did to a sink, and gathering it on a page.
use Rattle.std.specs.Prelude.{◌≡◌, ◌≢◌, ◌≤◌, ℕ, List, ◌++◌, Result, Err, OnOk, OnErr, IsErrOf}
use Rattle.std.specs.Io.KnownBytes.{Appends}
use Rattle.sg_io.specs.declared.sink.SinkStop.{SinkStop}
use Rattle.sg_io.specs.declared.sink.SinkStop.TheVariants.{Failed, NoMemory}
use Rattle.sg_io.specs.Bytes.{AppendsPrefix}
use Rattle.sg_io.specs.Count.{Rose}
use Rattle.sg_io.specs.Streams.{SeenSink}
use Rattle.page_print.specs.Lines.{SomeText}

module _ {K : Type 0} (sink : SeenSink K) where
  open sink use {held, faults, wants}

  -- the count of what stopped the call rose, any other is as it was, and none fell
  pub record Counts (old new : K) (result : Result (Unit {0}) SinkStop) : Type 0 where
    pub faults_later : faults old ≤ faults new
    pub wants_later : wants old ≤ wants new
    pub failed : IsErrOf result Failed → Rose (faults old) (faults new)
    pub no_memory : IsErrOf result NoMemory → Rose (wants old) (wants new)
    pub unfailed : result ≢ Err Failed → faults new ≡ faults old
    pub unwanted : result ≢ Err NoMemory → wants new ≡ wants old

  -- after Ok the sink took such a text, after an Err a prefix of one
  pub record Prints (IsText : List ℕ → Type 0) (old new : K) (result : Result (Unit {0}) SinkStop) : Type 0 where
    pub ok : OnOk result (SomeText IsText (Appends (held old) (held new)))
    pub err : OnErr result (SomeText IsText (AppendsPrefix (held old) (held new)))
    pub counts : Counts old new result

  -- of what stood on the page and of the text the sink took the front, and the rest stands on the page now
  abbrev pub Gathers : K → K → List ℕ → List ℕ → List ℕ → Type 0
  Gathers old new page now text = (front : List ℕ) × Appends (held old) (held new) front × (front ++ now ≡ page ++ text)

  -- after Ok such a text was gathered, after an Err the sink took a prefix of what stood on the page and of one
  pub record GathersText (IsText : List ℕ → Type 0) (old new : K) (page now : List ℕ) (result : Result (Unit {0}) SinkStop) : Type 0 where
    pub ok : OnOk result (SomeText IsText (Gathers old new page now))
    pub err : OnErr result (SomeText IsText (λ text. AppendsPrefix (held old) (held new) (page ++ text)))
    pub counts : Counts old new result
