use Rattle.std.proofs.Common.{◌<◌, w32, FitsSigned, length, rules, arith, ◌∙◌}
use Rattle.std.proofs.Math.ListN.{length-set}
use Rattle.grid_tags.proofs.AxisSteps.{shifts_more}
use Rattle.grid_tags.proofs.axes.Axis.of.Goals as goal

pub loop-t-preserved : goal.loop-t-preserved
loop-t-preserved c =
    let fits : FitsSigned w32 c.shift.result = search rules in
    let was = c.loop-t.invariant in
    let within : c.loop-t.t < length c.loop-t.shifts = omega (arith, was.len, c.loop-t-test.true) in
    record {
      len = length-set c.loop-t.shifts c.loop-t.t _ ∙ was.len;
      shifts = shifts_more c.args.n c.args.step c.loop-t.t c.loop-t.shifts c.shift.result within was.shifts fits c.shift.ensures;
    }
