use Rattle.affine_sets.proofs.KeySteps.{IsFirstUpTo}
use Rattle.affine_sets.proofs.keys.first_of.Given as goal

abbrev pub invariant-loop-i : goal.invariant-loop-i
invariant-loop-i l = IsFirstUpTo l.base l.best l.first l.sizes l.i
