-- What calls one behind the other did to the counts of a sink.
use Rattle.std.proofs.Common.{◌≡◌, ℕ, ◌≤◌, Result, Ok, arith, refl, subst, ◌∙◌}
use Rattle.sg_io.specs.declared.sink.SinkStop.{SinkStop}
use Rattle.sg_io.specs.Count.{Rose}
use Rattle.sg_io.specs.Streams.{SeenSink}
use Rattle.page_print.specs.Printing.{Counts}

module _ {K : Type 0} (sink : SeenSink K) where
  open sink use {faults, wants}

  -- neither count changed
  pub record SameCounts (old new : K) : Type 0 where
    pub faults_same : faults new ≡ faults old
    pub wants_same : wants new ≡ wants old

  pub none_counted : (old : K) → SameCounts old old
  none_counted old = record { faults_same = refl; wants_same = refl }

  pub counted_ok : (old new : K) → SameCounts old new → Counts sink old new (Ok tt)
  counted_ok old new same = record {
    faults_later = omega (arith, same.faults_same);
    wants_later = omega (arith, same.wants_same);
    failed = λ e. absurd cc;
    no_memory = λ e. absurd cc;
    unfailed = λ other. same.faults_same;
    unwanted = λ other. same.wants_same;
  }

  pub same_when_ok : (old new : K) → Counts sink old new (Ok tt) → SameCounts old new
  same_when_ok old new c = record { faults_same = c.unfailed (λ e. cc); wants_same = c.unwanted (λ e. cc) }

  pub same_then_same : (old mid new : K) → SameCounts old mid → SameCounts mid new → SameCounts old new
  same_then_same old mid new s t = record { faults_same = t.faults_same ∙ s.faults_same; wants_same = t.wants_same ∙ s.wants_same }

  -- a call behind others that changed no count
  pub same_then : (old mid new : K) (result : Result (Unit {0}) SinkStop) → SameCounts old mid → Counts sink mid new result → Counts sink old new result
  same_then old mid new result s c = record {
    faults_later = subst (λ (n : ℕ). n ≤ faults new) s.faults_same c.faults_later;
    wants_later = subst (λ (n : ℕ). n ≤ wants new) s.wants_same c.wants_later;
    failed = λ e. subst (λ (n : ℕ). Rose n (faults new)) s.faults_same (c.failed e);
    no_memory = λ e. subst (λ (n : ℕ). Rose n (wants new)) s.wants_same (c.no_memory e);
    unfailed = λ other. c.unfailed other ∙ s.faults_same;
    unwanted = λ other. c.unwanted other ∙ s.wants_same;
  }
