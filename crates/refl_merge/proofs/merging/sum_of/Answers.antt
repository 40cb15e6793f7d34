use Rattle.std.proofs.Common.{◌≤◌, ◌*◌, ◌^◌, ◌+◌, ◌+ℤ◌, unsigned_abs, rules, arith, w32, FitsSigned, ap, sym, ◌∙◌, subst}
use Rattle.refl_merge.proofs.Runs.{sum_more}
use Rattle.refl_merge.proofs.Totals.{summed, sum_size}
use Rattle.refl_merge.proofs.merging.sum_of.Goals as goal

pub loop-entry-preserved : goal.loop-entry-preserved
loop-entry-preserved c =
    let i = c.loop-entry.entry-index in
    let v = c.entry-item.result.line.value in
    let fits : FitsSigned w32 v = search rules in
    let size = c.loop-entry.invariant.size in
    let sum = summed _ v c.from-sum.result i fits c.from-sum.ensures size (omega (arith, c.requires, c.loop-entry-test.true)) in
    record {
      sum = sum ∙ ap (λ x. x +ℤ v) c.loop-entry.invariant.sum ∙ sum_more c.args.run.now i c.entry-item.result c.loop-entry-test.true c.entry-item.is;
      size = subst (λ x. unsigned_abs x ≤ 2 ^ 31 * (i + 1)) (sym sum) (sum_size _ v i fits size);
    }
