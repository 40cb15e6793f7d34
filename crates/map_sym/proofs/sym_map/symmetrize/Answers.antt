use Rattle.std.proofs.Common.{w64, FitsSigned, length, rules, ap, sym, subst, ◌∙◌}
use Rattle.std.proofs.lemmas.Int.{to_z-of_z}
use Rattle.std.proofs.lemmas.List.{with_items_is}
use Rattle.std.specs.Vec.{with_items}
use Rattle.grid_tags.specs.Grids.{IsGridInRange, IsKept, points}
use Rattle.grid_tags.specs.GridLists.{AreFirstPoints}
use Rattle.map_sym.specs.Steps.{AreWithin, IsItsOwn}
use Rattle.map_sym.proofs.MapSteps.{within, own, is_summed}
use Rattle.map_sym.proofs.OrbitSums.{one_on_orbits, sum_over_list}
use Rattle.map_sym.proofs.sym_map.symmetrize.Goals.{After-values, After-sum_by_firsts-total}
use Rattle.map_sym.proofs.sym_map.symmetrize.Goals as goal

-- what is known of the size is known of that of the values
range : (c : After-values) → IsGridInRange c.args.values.now.size
range c = subst IsGridInRange (sym c.requires.size) c.points.ensures.range

kept : (c : After-values) → IsKept c.args.group.now c.args.values.now.size
kept c = subst (IsKept c.args.group.now) (sym c.requires.size) c.requires.kept

firsts : (c : After-values) → AreFirstPoints c.args.group.now c.args.values.now.size c.in_ok-firsts.firsts.items
firsts c = subst (λ s. AreFirstPoints c.args.group.now s c.in_ok-firsts.firsts.items) (sym c.requires.size) c.in_ok-firsts.ensures

pub sum_by_firsts-total-requires-clause-within : goal.sum_by_firsts-total-requires-clause-within
sum_by_firsts-total-requires-clause-within c =
    subst (AreWithin (length c.values.result.now)) (sym c.deref.ensures.value)
    (within c.args.group.now c.args.values.now c.len.ensures.group (range c) (kept c) c.in_ok-firsts.firsts.items (firsts c) (length c.values.result.now) (ap length c.values.ensures.value ∙ c.values.ensures.all))

pub sum_by_firsts-total-requires-clause-own : goal.sum_by_firsts-total-requires-clause-own
sum_by_firsts-total-requires-clause-own c =
    subst IsItsOwn (sym c.deref.ensures.value)
    (own c.args.group.now c.args.values.now c.len.ensures.group (range c) (kept c) c.in_ok-firsts.firsts.items (firsts c))

pub returns-clause-sums : goal.returns-clause-sums
returns-clause-sums c =
    let b = (goal.at.returns-clause-sums c).After-values in
    let fits : FitsSigned w64 c.sum_by_firsts-total.result = search rules in
    let len = c.deref_mut.ensures.len ∙ c.in-Ok.ensures.len ∙ c.points.ensures.value ∙ ap points (sym c.requires.size) in
    is_summed c.args.group.now c.args.values.now c.len.ensures.group (range b) (kept b) c.in_ok-firsts.firsts.items (firsts b)
    c.args.size.now c.deref.result.now c.values.result.now c.sum_by_firsts-total.new.sums (with_items c.in-Ok.sums c.sum_by_firsts-total.new.sums).items _ (sym c.requires.size) c.deref.ensures.value c.values.ensures.value
    (with_items_is c.in-Ok.sums c.sum_by_firsts-total.new.sums (c.sum_by_firsts-total.auto.sums ∙ c.deref_mut.ensures.len))
    (c.sum_by_firsts-total.auto.sums ∙ len) c.values.ensures.all c.sum_by_firsts-total.ensures.sums (to_z-of_z w64 _ fits ∙ c.sum_by_firsts-total.ensures.total)

pub returns-clause-one : goal.returns-clause-one
returns-clause-one c =
    let b = (goal.at.returns-clause-one c).After-values in
    one_on_orbits c.args.group.now c.args.values.now c.len.ensures.group (range b) (kept b) _ (returns-clause-sums c)

pub returns-clause-total : goal.returns-clause-total
returns-clause-total c =
    let b = (goal.at.returns-clause-total c).After-values in
    sum_over_list c.args.group.now c.args.values.now c.len.ensures.group (range b) (kept b) _ (returns-clause-sums c) c.values.ensures.all
