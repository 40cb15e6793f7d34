use Rattle.sg_cli.proofs.words.numbers.index_of.Goals as goal

pub returns-in_err-h-clause-none : goal.returns-in_err-h-clause-none
returns-in_err-h-clause-none c =
    rw c.from_residual.ensures (λ h t. c.in_err-h.ensures.none h.h h.k h.l (t.first, t.in_range.first) (t.second, t.in_range.second) (t.third, t.in_range.third))
