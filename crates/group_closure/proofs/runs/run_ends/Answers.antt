use Rattle.std.proofs.Common.{◌≡◌, ◌+◌, ◌-◌, ◌<◌, ◌∙◌, arith, length, subst}
use Rattle.std.proofs.Math.ListN.{length-set}
use Rattle.group_closure.proofs.OneMatrix.{AreEndsFrom, ends_more}
use Rattle.group_closure.proofs.runs.run_ends.Goals as goal

pub loop-i-preserved : goal.loop-i-preserved
loop-i-preserved c =
    let i : c.loop-i.i ≡ c.loop-i.i - 1 + 1 = omega (arith, c.loop-i-test.true) in
    let w = subst (λ j. AreEndsFrom c.args.members.now c.loop-i.ends j c.loop-i.end) i c.loop-i.invariant.from in
    let within : c.loop-i.i - 1 < length c.args.members.now = omega (arith, c.loop-i-test.true, c.loop-i.invariant.from.size) in
    record {
      size = length-set _ _ _ ∙ c.loop-i.invariant.size;
      from = ends_more c.args.members.now c.requires.sorted c.loop-i.ends (c.loop-i.i - 1) c.loop-i.end c.end_at-end.result w (omega (arith, c.loop-i-test.true)) within (omega (arith, within, c.requires.within, c.loop-i.invariant.size)) c.end_at-end.ensures;
    }
