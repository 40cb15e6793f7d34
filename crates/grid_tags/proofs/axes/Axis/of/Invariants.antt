use Rattle.std.proofs.Common.{◌≡◌, ℕ, ◌<◌, ◌*◌, ◌/◌, pos, get_or, length}
use Rattle.std.specs.Prelude.{◌-ℤ◌}
use Rattle.exact_ops.specs.declared.TheConstants.{UNIT}
use Rattle.grid_tags.proofs.axes.Axis.of.Given as goal

abbrev pub invariant-loop-t : goal.invariant-loop-t
invariant-loop-t l = record {
  len : length l.shifts ≡ UNIT;
  shifts : (t : ℕ) → t < l.t → get_or l.shifts t (pos 0) ≡ pos (t * l.n / UNIT * l.step) -ℤ pos (l.n * l.step);
}
