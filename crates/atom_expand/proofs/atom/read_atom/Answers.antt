use Rattle.atom_expand.proofs.Places.{no_site}
use Rattle.atom_expand.proofs.atom.read_atom.Goals as goal

pub returns-in_err-at-clause-none : goal.returns-in_err-at-clause-none
returns-in_err-at-clause-none c = rw c.from_residual-in_err-at.ensures (no_site c.args.line.now c.in_ok-label.label.now c.in_ok-label.x.now c.in_ok-label.y.now c.in_ok-label.z.now c.in_ok-label.ensures.some c.in_err-at.ensures.none)
