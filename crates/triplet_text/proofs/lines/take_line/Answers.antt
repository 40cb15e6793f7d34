use Rattle.std.proofs.Common.{[], ◌∷◌, sym, refl, ◌∙◌}
use Rattle.std.proofs.lemmas.List.{append-nil}
use Rattle.std.proofs.lemmas.Bool.{false≢true}
use Rattle.exact_ops.specs.Numbers.{numbers}
use Rattle.triplet_text.specs.Lines.{end, skipped, read}
use Rattle.triplet_text.proofs.lines.take_line.Goals as goal

pub returns-then-is_skipped_line-clause-read : goal.returns-then-is_skipped_line-clause-read
returns-then-is_skipped_line-clause-read c = record {
  added = [];
  read = skipped (c.is_skipped_line.ensures.0 c.if-is_skipped_line.true) end;
  grown = sym (append-nil c.args.list.now);
}

pub returns-in-Ok-clause-read : goal.returns-in-Ok-clause-read
returns-in-Ok-clause-read c = record {
  added = numbers c.in-Some.raw ∷ [];
  read = read (record { kept = λ s. false≢true (sym c.if-is_skipped_line.false ∙ c.is_skipped_line.ensures.1 s); triplet = c.in-Some.ensures.some; unimodular = c.in-Ok.ensures.unimodular }) end;
  grown = c.in-Ok.ensures.ok;
}

pub returns-in_default-clause-fault : goal.returns-in_default-clause-fault
returns-in_default-clause-fault c = (refl, record { kept = λ s. false≢true (sym c.if-is_skipped_line.false ∙ c.is_skipped_line.ensures.1 s); no_triplet = c.in_default.ensures.none })

pub returns-in-Err-NotUnimodular-clause-fault : goal.returns-in-Err-NotUnimodular-clause-fault
returns-in-Err-NotUnimodular-clause-fault c =
    let not_unimodular = rw c.in-Err-NotUnimodular.field-0-is at c.in-Err-NotUnimodular.ensures.not_unimodular in
    (refl, record { kept = λ s. false≢true (sym c.if-is_skipped_line.false ∙ c.is_skipped_line.ensures.1 s); operator = numbers c.in-Some.raw; triplet = c.in-Some.ensures.some; not_unimodular = not_unimodular.0 refl })

pub returns-in-Err-NoMemory-clause-fault : goal.returns-in-Err-NoMemory-clause-fault
returns-in-Err-NoMemory-clause-fault c = record { kept = λ s. false≢true (sym c.if-is_skipped_line.false ∙ c.is_skipped_line.ensures.1 s); operator = numbers c.in-Some.raw; triplet = c.in-Some.ensures.some }
