use Rattle.std.proofs.Common.{rules, is_lt}
use Rattle.std.proofs.lemmas.List.Sorted.{ranks_by, answers_always}
use Rattle.exact_ops.specs.declared.point.Point.{Point}
use Rattle.exact_ops.specs.Numbers.{point_in}
use Rattle.orbit_map.specs.Steps.{stored_cmp}
use Rattle.orbit_map.proofs.Order.{stored_cmp_total}
use Rattle.orbit_map.proofs.OrbitLists.{placed_more, orbit_of_points}
use Rattle.orbit_map.proofs.orbits.orbit.Goals as goal

pub loop-i-preserved : goal.loop-i-preserved
loop-i-preserved c = record {
  len = search rules;
  capacity = search rules;
  placed =
      placed_more c.args.group.now (point_in c.args.point.now) c.loop-i.i c.loop-i.points.items c.push_reserved.new.self.items c.op.result c.image_in_cell.result
      c.loop-i.invariant.placed c.op.ensures.value c.image_in_cell.ensures.three c.image_in_cell.ensures.placed c.push_reserved.ensures.items;
}

pub returns : goal.returns
returns c =
    orbit_of_points c.args.group.now (point_in c.args.point.now) c.loop-i.i c.loop-i.points.items c.sort_unstable_by.new.self.items c.dedup.new.self.items c.len.ensures.group c.args.point.now.in_range.positive c.loop-i.invariant.placed (search rules) c.sort_unstable_by.ensures.permutation
    (c.sort_unstable_by.ensures.sorted (λ a b. is_lt (stored_cmp a b)) (ranks_by stored_cmp_total (λ (p : Point). p)) (answers_always _ _ _ (λ f a r q k. search rules)))
    c.dedup.ensures.filtered
