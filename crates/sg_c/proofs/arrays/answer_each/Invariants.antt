use Rattle.std.proofs.Common.{◌≡◌, ℕ, ◌<◌, length, get_or}
use Rattle.sg_c.proofs.arrays.answer_each.Given as goal

abbrev pub invariant-loop-i : goal.invariant-loop-i
invariant-loop-i g l = record {
  counted : length l.answers ≡ length l.questions;
  each : (k : ℕ) (q : _) (a : _) → k < l.i → g.K.Asking.is_answer l.asking l.group (get_or l.questions k q) (get_or l.answers k a);
}
