use Rattle.std.proofs.Common.{refl, sym, ◌∙◌}
use Rattle.std.proofs.lemmas.Bool.{false≢true}
use Rattle.triplet_text.proofs.LineSteps.{lines_left, lines_cut}
use Rattle.map_sym.proofs.PlainTaken.{plain_taken, value_added, none_added}
use Rattle.map_sym.proofs.reading.take_line.Goals as goal

pub returns-in-Some-clause-taken : goal.returns-in-Some-clause-taken
returns-in-Some-clause-taken c = plain_taken c.args.text.now c.in-Some.rest c.in-Some.value c.args.values.now.items c.push.new.values.items c.in-Some.ensures c.in_ok-push.ensures.value

pub returns-then-is_skipped_line-clause-taken : goal.returns-then-is_skipped_line-clause-taken
returns-then-is_skipped_line-clause-taken c = record {
  line = c.cut_line.result.0.now;
  cut = c.cut_line.ensures.lines;
  shorter = c.cut_line.ensures.shorter;
  written = none_added c.cut_line.result.0.now c.args.values.now.items (c.is_skipped_line.ensures.0 c.if-is_skipped_line.true);
}

pub returns-in_default-read_value-clause-fault : goal.returns-in_default-read_value-clause-fault
returns-in_default-read_value-clause-fault c = (
  refl,
  (
    c.cut_line.result.0.now,
    lines_left c.cut_line.result.1,
    lines_cut c.cut_line.result.1 c.args.text.now c.cut_line.result.0.now c.cut_line.ensures.lines,
    record { kept = λ s. false≢true (sym c.if-is_skipped_line.false ∙ c.is_skipped_line.ensures.1 s); unwritten = c.in_default-read_value.ensures.none },
  ),
)

pub returns-clause-taken : goal.returns-clause-taken
returns-clause-taken c = record {
  line = c.cut_line.result.0.now;
  cut = c.cut_line.ensures.lines;
  shorter = c.cut_line.ensures.shorter;
  written =
      value_added c.cut_line.result.0.now c.in-Some-read_value.value c.args.values.now.items c.push-2.new.values.items
      (record { kept = λ s. false≢true (sym c.if-is_skipped_line.false ∙ c.is_skipped_line.ensures.1 s); written = c.in-Some-read_value.ensures.some })
      c.in_ok-push-2.ensures.value;
}
