use Rattle.std.proofs.lemmas.Bool.{false≢true}
use Rattle.refl_merge.proofs.LineTexts.{no_index, no_index_passed}
use Rattle.refl_merge.proofs.reading.read_measured.Goals as goal

pub returns-in_err-index-clause-none : goal.returns-in_err-index-clause-none
returns-in_err-index-clause-none c =
    rw c.from_residual-in_err-index.ensures
    (no_index c.args.line.now c.in_ok-h.h.now c.in_ok-h.k.now c.in_ok-h.l.now c.in_ok-h.value.now c.in_ok-h.ensures.some c.in_ok-h-2.h c.in_ok-k.k c.in_ok-l.l c.in_ok-h-2.ensures.some c.in_ok-k.ensures.some c.in_ok-l.ensures.some
    (no_index_passed c.in_ok-h-2.h c.in_ok-k.k c.in_ok-l.l (λ w. false≢true (c.in_err-index.ensures.some.1 w))))
