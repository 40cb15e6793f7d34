use Rattle.std.proofs.Common.{◌≡◌, ◌+◌, subst, ◌∙◌, ap, arith}
use Rattle.group_closure.proofs.Places.{some_member}
use Rattle.grid_tags.specs.Grids.{triple_of}
use Rattle.grid_tags.specs.Steps.{fixing_count, AreTagged}
use Rattle.grid_tags.proofs.Tags.{tagged_first, count_first, count_few, run_image}
use Rattle.grid_tags.proofs.tagging.tag_orbit.Goals as goal

pub loop-i-init : goal.loop-i-init
loop-i-init g c =
    let some = some_member c.args.group.now c.len-order.ensures.group in
    record {
      after_first = omega arith;
      within = omega (arith, some);
      some = omega arith;
      count = count_first c.args.group.now c.args.size.now (triple_of c.args.at.now) c.len-order.ensures.group c.requires.within;
      tagged = tagged_first c.args.group.now c.args.size.now (triple_of c.args.at.now) c.args.tag c.args.tags.now c.place.result c.len-order.ensures.group c.requires.len c.requires.within c.place.ensures.value;
    }

pub tag_run-fixing-requires-clause-run : goal.tag_run-fixing-requires-clause-run
tag_run-fixing-requires-clause-run g c =
    run_image c.args.group.now c.args.size.now (triple_of c.args.at.now) (triple_of c.turned-image.result) c.loop-i.i c.run_end-end.result c.op.result c.w.result (c.run_end-end.ensures.run c.loop-i.invariant.after_first) c.op.ensures.value c.w.ensures.value c.turned-image.ensures.value

pub overflow_add-fixing : goal.overflow_add-fixing
overflow_add-fixing g c =
    let few = count_few c.args.group.now c.args.size.now (triple_of c.args.at.now) c.run_end-end.result in
    let e = c.tag_run-fixing.ensures.count in
    let was = c.loop-i.invariant.count in
    let l = c.op.ensures.group.within in
    omega (arith, few, e, was, l)

pub loop-i-preserved : goal.loop-i-preserved
loop-i-preserved g c = record {
  after_first = omega (arith, c.run_end-end.ensures.beyond);
  within = c.run_end-end.ensures.within;
  some = omega (arith, c.loop-i.invariant.some);
  count = ap (λ n. n + c.tag_run-fixing.result) c.loop-i.invariant.count ∙ c.tag_run-fixing.ensures.count;
  tagged = c.tag_run-fixing.ensures.tags c.args.tags.now c.loop-i.invariant.tagged;
}

pub returns-clause-count : goal.returns-clause-count
returns-clause-count g c = subst (λ i. c.loop-i.fixing ≡ fixing_count c.args.group.now c.args.size.now (triple_of c.args.at.now) i) (omega (arith, c.loop-i.invariant.within)) c.loop-i.invariant.count

pub returns-clause-tags : goal.returns-clause-tags
returns-clause-tags g c = subst (λ i. AreTagged c.args.group.now c.args.size.now (triple_of c.args.at.now) c.args.tag c.args.tags.now c.loop-i.tags i) (omega (arith, c.loop-i.invariant.within)) c.loop-i.invariant.tagged
