-- From what answering did, by its outcome, to what is said by the status.
use Rattle.std.proofs.Common.{◌≡◌, ◌≢◌, ◌⊎◌, ◌≤◌, ◌<◌, ◌+◌, ◌↔◌, ℕ, List, ◌++◌, Option, Some, None, IfSome, Result, Ok, Err, refl, sym, ap, subst, ◌∙◌, inl, inr, ⊎_elim, length, length-append, arith}
use Rattle.std.specs.Prelude.{IsErrOf}
use Rattle.std.proofs.lemmas.List.{append-nil}
use Rattle.std.specs.Io.KnownBytes.{Appends, Consumes, IsAtEnd}
use Rattle.sg_io.specs.declared.source.ReadStop.{ReadStop}
use Rattle.sg_io.specs.declared.source.ReadStop.TheVariants as reads
use Rattle.sg_io.specs.Bytes.{ConsumesSome}
use Rattle.sg_io.specs.Count.{Rose}
use Rattle.sg_io.specs.Streams.{SeenSource, SeenSink}
use Rattle.lattice_algebra.specs.Operator.{Operator}
use Rattle.triplet_text.specs.Lines.{lines_of}
use Rattle.samples.specs.Groups.{number_of, IsSampleGroup}
use Rattle.sg_cli.specs.declared.TheConstants.{MAX_INPUT}
use Rattle.sg_cli.specs.declared.words.Input.{Input}
use Rattle.sg_cli.specs.declared.words.Input.TheVariants.{Made}
use Rattle.sg_cli.specs.declared.fault.Fault.{Fault}
use Rattle.sg_cli.specs.declared.fault.Fault.TheVariants as fault
use Rattle.sg_cli.specs.Words.{Asked, IsAsked, IsNoCommand}
use Rattle.sg_cli.specs.Inputs.{input_for, IsMade, ReadsNothing, no_data}
use Rattle.sg_cli.specs.Fault.{status_of, fault_of_read}
use Rattle.sg_cli.specs.Stages.{Gives, Refuses, Stage, ◌>>=◌, behind, refused}
use Rattle.sg_cli.specs.Answer.{Answer, command, no_command, short, long, Measuring, Over, OverLines, OverInput, AnswerOver, IsAnswer}
use Rattle.sg_cli.specs.Run.{before_writing, HasStatus, IsDecided, IsReadToEnd, IfKnown, IfTold, IfRefused, IfTabled, Completes}
use Rattle.sg_cli.specs.Listed.{IfListed}
use Rattle.sg_cli.specs.Steps.{Answers, Serves}
use Rattle.sg_cli.proofs.Stages.{IsSound}
use Rattle.sg_cli.proofs.Commands.{one_asked}
use Rattle.sg_cli.proofs.SampleTexts.{made_is_group}
use Rattle.sg_cli.proofs.Soundness.{sound_lines, sound_over}
use Rattle.sg_cli.proofs.Outcomes.{answers_after}
use Rattle.sg_cli.proofs.Tabled.{answer_tabled}
use Rattle.sg_cli.proofs.Listed.{answer_listed}

IfSome-each : {A : Type 0} (o : Option A) (P : A → Type 0) → ((x : A) → P x) → IfSome o P
IfSome-each None P h = tt
IfSome-each (Some x) P h = h x

IfSome-after : {A : Type 0} (o : Option A) (P Q : A → Type 0) → ((x : A) → P x → Q x) → IfSome o P → IfSome o Q
IfSome-after None P Q f h = tt
IfSome-after (Some x) P Q f h = f x h

-- the same of what is known of the bytes
module _ (words : List (List ℕ)) (left : Option (List ℕ)) where
  known_each : (P : List ℕ → Type 0) → ((bytes : List ℕ) → P bytes) → IfKnown words left P
  known_each P h = (IfSome-each left P h, λ _. h)

  known_after : (P Q : List ℕ → Type 0) → ((bytes : List ℕ) → P bytes → Q bytes) → IfKnown words left P → IfKnown words left Q
  known_after P Q f h = (IfSome-after left P Q f h.0, λ r bytes. f bytes (h.1 r bytes))

  -- where words read something, what is told is all
  known_told : (P : List ℕ → Type 0) → (ReadsNothing words → ⊥) → IfSome left P → IfKnown words left P
  known_told P reading h = (h, λ r. absurd (reading r))

-- a source that is at its end gave all that it had
all_told : (before now : Option (List ℕ)) (bytes : List ℕ) (P : List ℕ → Type 0) → Consumes before now bytes → IsAtEnd now → P bytes → IfSome before P
all_told None now bytes P taken end h = tt
all_told (Some all) None bytes P taken end h = absurd taken
all_told (Some all) (Some rest) bytes P taken end h = subst P (sym (taken ∙ ap (λ (xs : List ℕ). bytes ++ xs) end ∙ append-nil bytes)) h

-- ---- whether something is read

-- what is not made is read
pub not_made : (input : Input) → ((seed : ℕ) → input ≡ Made seed → ⊥) → IsMade input → ⊥
not_made (Made seed) n m = n seed refl
not_made other n m = m

over_read : (input : Input) (bytes : List ℕ) (Then : Over) (outcome : Answer) → (IsMade input → ⊥) → (Measuring bytes >>= λ _. OverLines input (lines_of bytes) Then) outcome → OverInput input bytes Then outcome
over_read (Made seed) bytes Then outcome n h = absurd (n tt)
over_read other bytes Then outcome n h = h

-- words whose command reads something
pub reads_something : (words : List (List ℕ)) (asked : Asked) → IsAsked words asked → (IsMade (input_for asked) → ⊥) → ReadsNothing words → ⊥
reads_something words asked is reading r = reading (subst (λ (a : Asked). IsMade (input_for a)) (one_asked words r.0 asked r.1 is) r.2)

-- more was there than may be
longer : (before now : Option (List ℕ)) (bytes : List ℕ) → Consumes before now bytes → length bytes ≡ MAX_INPUT + 1 → IfSome before (λ all. MAX_INPUT < length all)
longer None now bytes taken n = tt
longer (Some all) None bytes taken n = absurd taken
longer (Some all) (Some rest) bytes taken n = omega (arith, ap length taken, length-append bytes rest)

-- only refused words have the status 2
status_two : (stop : Fault) → status_of stop ≡ 2 → stop ≡ fault.Words
status_two fault.Words e = refl
status_two other e = absurd (omega (arith, e))

-- what one fault alone takes away is there on every status but its own
pub unless_status : {P : Type 0} (stop one : Fault) → (◌≢◌ {A = Result (Unit {0}) Fault} (Err stop) (Err one) → P) → status_of stop ≢ status_of one → P
unless_status stop one h n = h (λ e. let same : stop ≡ one = cc in n (ap status_of same))

-- only a read that failed has the status 3
status_three : (stop : Fault) → status_of stop ≡ 3 → stop ≡ fault.Reading
status_three fault.Reading e = refl
status_three other e = absurd (omega (arith, e))

pub words_status : (stop : Fault) (P : Type 0) → IsErrOf {T = Unit {0}} (Err stop) fault.Words ↔ P → (status_of stop ≡ 2) ↔ P
words_status stop P k = ((λ e. k.0 (ap (λ (f : Fault). Err f) (status_two stop e))), (λ p. let q = k.1 p in let same : stop ≡ fault.Words = cc in ap status_of same))

-- ---- from what serving did to what the status says

module _ {S K : Type 0} (sink : SeenSink K) (source : SeenSource S) (words : List (List ℕ)) (s t : S) (old new : K) where
  abbrev IfStatus : ℕ → Type 0
  IfStatus status = IfKnown words (source.left s) (λ bytes. HasStatus words bytes status)

  -- where the words read nothing, no read failed, and the source is as it was
  abbrev IsUnread : Result (Unit {0}) Fault → Type 0
  IsUnread result = ReadsNothing words → (result ≢ Err fault.Reading) × (t ≡ s)

  pub unread_when_stopped : (stop : Fault) → IsUnread (Err stop) → ReadsNothing words → (status_of stop ≢ 3) × (t ≡ s)
  unread_when_stopped stop unread r = let u = unread r in ((λ e. u.0 (ap (λ (f : Fault). Err f) (status_three stop e))), u.1)

  pub end_when_stopped : (stop : Fault) → Serves sink source words s t old new (Err stop) → (ReadsNothing words → ⊥) → IsReadToEnd (status_of stop) → IsAtEnd (source.left t)
  end_when_stopped fault.Words h reading e = absurd (e.0 refl)
  end_when_stopped fault.Reading h reading e = absurd (e.1 refl)
  end_when_stopped fault.TooLong h reading e = absurd (e.3 refl)
  end_when_stopped fault.NoMemory h reading e = absurd (e.2 refl)
  end_when_stopped other h reading e = h.0 reading

  refused_words : Serves sink source words s t old new (Err fault.Words) → (bytes : List ℕ) → IsAnswer words bytes (Refuses fault.Words)
  refused_words h bytes = refused (no_command h.0)

  pub status_when_done : Serves sink source words s t old new (Ok tt) → IfStatus 0
  status_when_done h = known_after words (source.left s) _ _ (λ bytes p. (Gives h.1.0, p, refl)) h.1.1

  -- the rows that were written
  pub tabled_when_done : Serves sink source words s t old new (Ok tt) → IfTabled words (source.left s) (Appends (sink.held old) (sink.held new))
  tabled_when_done h = (h.1.0, known_after words (source.left s) _ _ (λ bytes a asked is. answer_tabled words bytes h.1.0 asked is a) h.1.1, h.1.2)

  -- the classes or orbits that were written
  pub listed_when_done : Serves sink source words s t old new (Ok tt) → IfListed words (source.left s) (Appends (sink.held old) (sink.held new))
  listed_when_done h = (h.1.0, known_after words (source.left s) _ _ (λ bytes a asked is. answer_listed words bytes h.1.0 asked is a) h.1.1, h.1.2)

  -- the status of the answer
  pub status_when_stopped : (stop : Fault) → Serves sink source words s t old new (Err stop) → (status_of stop ≡ 3 → ⊥) → (status_of stop ≡ 9 → ⊥) → IfStatus (before_writing (status_of stop))
  status_when_stopped fault.Words h read memory = known_each words (source.left s) _ (λ bytes. (Refuses fault.Words, refused_words h bytes, refl))
  status_when_stopped fault.Reading h read memory = absurd (read refl)
  status_when_stopped fault.TooLong h read memory = known_after words (source.left s) _ _ (λ bytes a. (Refuses fault.TooLong, a, refl)) h.1
  status_when_stopped fault.Writing h read memory = known_after words (source.left s) _ _ (λ bytes p. (Gives h.1.0.0, p, refl)) h.1.0.1
  status_when_stopped fault.NoMemory h read memory = absurd (memory refl)
  status_when_stopped other h read memory = known_after words (source.left s) _ _ (λ bytes a. (Refuses other, a, refl)) h.1.0

  pub complete_when_done : Serves sink source words s t old new (Ok tt) → Completes words (source.left s) (sink.held old) (sink.held new) 0
  complete_when_done h = known_after words (source.left s) _ _ (λ bytes p. inl (Gives h.1.0, p, (refl, h.1.2))) h.1.1

  -- where neither count rose
  pub complete_when_stopped : (stop : Fault) → Serves sink source words s t old new (Err stop) → IsUnread (Err stop) → ReadsNothing words ⊎ (Rose (source.faults s) (source.faults t) → ⊥) → (Rose (sink.faults old) (sink.faults new) → ⊥)
      → Completes words (source.left s) (sink.held old) (sink.held new) (status_of stop)
  complete_when_stopped fault.Words h unread reads writes = known_each words (source.left s) _ (λ bytes. inl (Refuses fault.Words, refused_words h bytes, refl))
  complete_when_stopped fault.Reading h unread reads writes = absurd (⊎_elim (λ r. (unread r).0 refl) (λ none. none h.0) reads)
  complete_when_stopped fault.TooLong h unread reads writes = known_after words (source.left s) _ _ (λ bytes a. inl (Refuses fault.TooLong, a, refl)) h.1
  complete_when_stopped fault.Writing h unread reads writes = absurd (writes h.1.1)
  complete_when_stopped fault.NoMemory h unread reads writes = known_each words (source.left s) _ (λ bytes. inr refl)
  complete_when_stopped other h unread reads writes = known_after words (source.left s) _ _ (λ bytes a. inl (Refuses other, a, refl)) h.1.0

  -- the refusal that is told, where the words and the bytes decide it
  pub refused_when_stopped : (stop : Fault) → Serves sink source words s t old new (Err stop) → IsDecided (status_of stop) → IfRefused words (source.left s) stop
  refused_when_stopped fault.Words h d = known_each words (source.left s) _ (refused_words h)
  refused_when_stopped fault.Reading h d = absurd (d.0 refl)
  refused_when_stopped fault.TooLong h d = h.1
  refused_when_stopped fault.Writing h d = absurd (d.1 refl)
  refused_when_stopped fault.NoMemory h d = absurd (d.2 refl)
  refused_when_stopped other h d = h.1.0

  -- ---- from what answering did to what serving did

  -- a sound stage was answered, whose outcomes are those of the answer
  module _ (stage : Stage (List ℕ)) (sound : IsSound stage) (result : Result (Unit {0}) Fault) (h : Answers sink stage old new result) where
    -- so it was no fault of the words or of reading
    not_early : (stop : Fault) → (stop ≡ fault.Words) ⊎ (stop ≡ fault.Reading) → result ≡ Err stop → ⊥
    not_early stop which e = by stop which (subst (Answers sink stage old new) e h)
      where
        by : (stop : Fault) → (stop ≡ fault.Words) ⊎ (stop ≡ fault.Reading) → Answers sink stage old new (Err stop) → ⊥
        by fault.Words w a = sound.late fault.Words a.0
        by fault.Reading w a = sound.late fault.Reading a.0
        by other w a = ⊎_elim (λ e. absurd cc) (λ e. absurd cc) w

    pub words_were_read : (asked : Asked) → IsAsked words asked → IsErrOf result fault.Words ↔ IsNoCommand words
    words_were_read asked is = ((λ e. absurd (not_early fault.Words (inl refl) e)), (λ none. absurd (none asked is)))

    pub serves : ((ReadsNothing words → ⊥) → IsAtEnd (source.left t)) → ((outcome : Answer) → stage outcome → IfTold words (source.left s) outcome) → Serves sink source words s t old new result
    serves end to = by result h (answers_after sink stage (IfTold words (source.left s)) to old new result h)
      where
        by : (result : Result (Unit {0}) Fault) → Answers sink stage old new result → Answers sink (IfTold words (source.left s)) old new result → Serves sink source words s t old new result
        by (Err fault.Words) h a = absurd (sound.late fault.Words h.0)
        by (Err fault.Reading) h a = absurd (sound.late fault.Reading h.0)
        by (Err fault.TooLong) h a = absurd (sound.late fault.TooLong h.0)
        by (Err fault.NoMemory) h a = a
        by other h a = (end, a)

  module _ (asked : Asked) (is : IsAsked words asked) where
    -- of the input
    module _ (reading : IsMade (input_for asked) → ⊥) where
      -- the source could not be read, or has too much
      pub not_read : (stop : ReadStop) → (stop ≡ reads.Failed → Rose (source.faults s) (source.faults t)) → ConsumesSome (source.left s) (source.left t) (λ count. stop ≡ reads.TooLong → count ≡ MAX_INPUT + 1) → new ≡ old → Serves sink source words s t old new (Err (fault_of_read stop))
      not_read reads.NoMemory failed taken same = inl same
      not_read reads.Failed failed taken same = (failed refl, same)
      not_read reads.TooLong failed taken same =
          let told : IfSome (source.left s) (λ bytes. IsAnswer words bytes (Refuses fault.TooLong)) =
          IfSome-after (source.left s) _ _ (λ bytes l. behind (command is) (over_read (input_for asked) bytes (AnswerOver asked) (Refuses fault.TooLong) reading (refused (long l)))) (longer (source.left s) (source.left t) taken.0 taken.1 (taken.2 refl)) in
          ((taken.0, taken.1, taken.2 refl), known_told words (source.left s) _ (reads_something words asked is reading) told, same)

      module _ (bytes : List ℕ) (result : Result (Unit {0}) Fault) (h : Answers sink (OverLines (input_for asked) (lines_of bytes) (AnswerOver asked)) old new result) where
        sound : IsSound (OverLines (input_for asked) (lines_of bytes) (AnswerOver asked))
        sound = sound_lines (AnswerOver asked) (sound_over words asked (command is)) (input_for asked) (lines_of bytes)

        -- the answer over all the bytes that were left
        pub served : Consumes (source.left s) (source.left t) bytes → IsAtEnd (source.left t) → length bytes ≤ MAX_INPUT → Serves sink source words s t old new result
        served taken end few =
            serves _ sound result h (λ _. end)
            (λ outcome a. known_told words (source.left s) _ (reads_something words asked is reading) (all_told (source.left s) (source.left t) bytes _ taken end (behind (command is) (over_read (input_for asked) bytes (AnswerOver asked) outcome reading (behind (short few) a)))))

        -- and the words were no fault
        pub words_of_input : IsErrOf result fault.Words ↔ IsNoCommand words
        words_of_input = words_were_read _ sound result h asked is

    -- of a made group, where the source stays as it was
    module _ (seed : ℕ) (made : input_for asked ≡ Made seed) (members : List Operator) (group : IsSampleGroup (number_of seed) members) (result : Result (Unit {0}) Fault) (h : Answers sink (AnswerOver asked members no_data) old new result) where
      sound_made : IsSound (AnswerOver asked members no_data)
      sound_made = sound_over words asked (command is) members no_data (made_is_group seed members group)

      pub served_made : Serves sink source words s t old new result
      served_made =
          serves _ sound_made result h (λ reading. absurd (reading (asked, is, subst IsMade (sym made) tt)))
          (λ outcome a. known_each words (source.left s) _ (λ bytes. behind (command is) (subst (λ i. OverInput i bytes (AnswerOver asked) outcome) (sym made) (behind group a))))

      pub words_of_made : IsErrOf result fault.Words ↔ IsNoCommand words
      words_of_made = words_were_read _ sound_made result h asked is

      pub unread_made : result ≢ Err fault.Reading
      unread_made e = not_early _ sound_made result h fault.Reading (inr refl) e
