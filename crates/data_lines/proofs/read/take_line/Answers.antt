use Rattle.std.proofs.Common.{[], ◌∷◌, sym, ◌∙◌}
use Rattle.std.proofs.lemmas.Bool.{false≢true}
use Rattle.std.proofs.lemmas.List.{append-nil}
use Rattle.triplet_text.specs.Lines.{end, skipped, read}
use Rattle.data_lines.proofs.read.take_line.Goals as goal

pub returns-then-is_skipped_line-clause-written : goal.returns-then-is_skipped_line-clause-written
returns-then-is_skipped_line-clause-written g c = record { added = []; read = skipped (c.is_skipped_line.ensures.0 c.if-is_skipped_line.true) end; grown = sym (append-nil c.args.values.now.items) }

pub returns-in-Ok-clause-written : goal.returns-in-Ok-clause-written
returns-in-Ok-clause-written g c = record {
  added = c.in-Some.value ∷ [];
  read = read (record { kept = λ s. false≢true (sym c.if-is_skipped_line.false ∙ c.is_skipped_line.ensures.1 s); written = c.in-Some.ensures.some }) end;
  grown = c.in-Ok.ensures.items;
}
