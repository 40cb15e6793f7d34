use Rattle.std.proofs.Common.{◌∙◌, ap, refl, replicate, arith}
use Rattle.exact_ops.specs.Numbers.{point_in}
use Rattle.samples.proofs.CountSteps.{none_counted, counted_room, counts_go_on, state_goes_on}
use Rattle.samples.proofs.counting.count_points.Goals as goal

pub loop-made-init : goal.loop-made-init
loop-made-init c = record {
  counted = none_counted c.args.group.now c.args.rows.now c.args.seed c.in-Ok.counts.items (c.in-Ok.ensures.items_if_clones_equal (λ y e. e) ∙ ap (λ n. replicate n 0) c.len.ensures);
  state = refl;
  few = omega arith;
}

pub overflow_add-index_mut : goal.overflow_add-index_mut
overflow_add-index_mut c =
    let few = counted_room c.args.group.now c.args.rows.now c.args.seed c.loop-made.made c.loop-made.counts.items c.fit-k.result c.index_mut.result.now c.loop-made.invariant.counted c.fit-k.ensures.within c.index_mut.ensures.value in
    omega (arith, few, c.loop-made-test.true)

pub loop-made-preserved : goal.loop-made-preserved
loop-made-preserved c =
    let was = c.loop-made.invariant in
    record {
      counted = counts_go_on c.args.group.now c.args.rows.now c.args.seed c.loop-made.made c.loop-made.counts.items (point_in c.point-point.result) c.loop-made.draws.state c.fit-k.result c.index_mut.result.now was.counted c.point-point.result.in_range.positive c.point-point.ensures.value was.state c.fit-k.ensures.fits c.fit-k.ensures.within c.index_mut.ensures.value;
      state = state_goes_on c.args.seed c.loop-made.made c.loop-made.draws.state c.point-point.new.self.state was.state c.point-point.ensures.state;
      few = omega (arith, c.loop-made-test.true);
    }
