use Rattle.std.proofs.Common.{◌≡◌, ◌≢◌, ◌∙◌, length, arith, ap}
use Rattle.triplet_text.specs.declared.text.TheConstants.{TEXT_ROOM}
use Rattle.sg_cli.specs.Fault.{text_of}
use Rattle.sg_c.specs.Texts.{told_of}
use Rattle.sg_c.proofs.Told.{front_told}
use Rattle.sg_c.proofs.answer.give_answer.Goals as goal
use Rattle.sg_c.proofs.answer.give_answer.Goals.{then-status-eq0, else-status-eq0}

pub returns-clause-fault_text : goal.returns-clause-fault_text
returns-clause-fault_text c failed = elim c.if-status-eq0.branch [
  | then-status-eq0 w ↦ absurd (failed w.if-status-eq0.true)
  | else-status-eq0 w ↦
      let t = c.run-status.ensures.fault_text failed in
      let sink = rw c.new-err.ensures at t.3 in
      let is = w.held-else-status-eq0.ensures in
      let told : w.held-else-status-eq0.result.now ≡ told_of t.0 =
      is.text ∙ front_told TEXT_ROOM c.run-status.new.err.held sink.front.0 sink.front.1.0 (text_of t.0) c.run-status.new.err.refused sink.front.2 sink.front.1.1 is.room is.whole sink.whole in
      let readable : c.run-status.result ≢ 3 = λ three. absurd (omega (arith, c.run-status.ensures.read_fault three)) in
      let writable : c.run-status.result ≢ 4 = λ four. absurd (omega (arith, c.run-status.ensures.write_fault four)) in
      record {
        fault = t.0;
        is = t.1;
        answer = λ remembered. rw c.new-source.ensures.value at (t.2 (readable, writable, remembered)).0;
        counted = ap (λ lengths. lengths.fault) w.lengths-is ∙ w.put_front-else-status-eq0.ensures.count ∙ ap length told;
        shown = rw w.fault-is (rw told at w.put_front-else-status-eq0.ensures.shown);
      }
]
