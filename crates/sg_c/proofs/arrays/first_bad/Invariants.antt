use Rattle.std.proofs.Common.{ℕ, ◌<◌, get_or}
use Rattle.sg_c.proofs.arrays.first_bad.Given as goal

abbrev pub invariant-loop-i : goal.invariant-loop-i
invariant-loop-i g l = (k : ℕ) (q : _) → k < l.i → g.K.Asking.can_ask (get_or l.questions k q)
