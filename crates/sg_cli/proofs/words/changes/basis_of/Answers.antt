use Rattle.exact_ops.specs.Numbers.{numbers}
use Rattle.sg_cli.proofs.ChangeWords.{no_basis}
use Rattle.sg_cli.proofs.words.changes.basis_of.Goals as goal

pub returns-in_err-raw-clause-none : goal.returns-in_err-raw-clause-none
returns-in_err-raw-clause-none c = rw c.from_residual.ensures (λ k h. c.in_err-raw.ensures.none h.operator h.triplet)

pub returns-clause-none : goal.returns-clause-none
returns-clause-none c = no_basis c.args.text.now (numbers c.in_ok-raw.raw) c.of.result c.in_ok-raw.ensures.some c.of.ensures.some
