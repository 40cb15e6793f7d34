use Rattle.std.proofs.Common.{length, sym, subst}
use Rattle.group_closure.specs.GroupList.{IsGroup}
use Rattle.group_closure.specs.Runs.{AreRunEnds, AreOpposites}
use Rattle.group_closure.specs.Table.{IsProductTable}
use Rattle.group_closure.proofs.Lists.{group_of_sorted}
use Rattle.group_closure.proofs.group.Group.close.Goals as goal

pub fill-requires-clause-group : goal.fill-requires-clause-group
fill-requires-clause-group c =
    let s = c.list_in_order.ensures in
    let made = c.in-Ok-close.ensures in
    subst IsGroup (sym c.deref-2.ensures.value) (group_of_sorted c.args.list.now _ _ _ made.narrow made.generated c.deref.ensures.value s.permutation s.first s.sorted).group

pub run_ends-ends-requires : goal.run_ends-ends-requires
run_ends-ends-requires c =
    let s = c.list_in_order.ensures in
    let made = c.in-Ok-close.ensures in
    subst IsGroup (sym c.deref-3.ensures.value) (group_of_sorted c.args.list.now _ _ _ made.narrow made.generated c.deref.ensures.value s.permutation s.first s.sorted).group

pub opposite_runs-opposites-requires : goal.opposite_runs-opposites-requires
opposite_runs-opposites-requires c =
    let s = c.list_in_order.ensures in
    let made = c.in-Ok-close.ensures in
    subst IsGroup (sym c.deref-4.ensures.value) (group_of_sorted c.args.list.now _ _ _ made.narrow made.generated c.deref.ensures.value s.permutation s.first s.sorted).group

pub invariant_of-result : goal.invariant_of-result
invariant_of-result c =
    let s = c.list_in_order.ensures in
    let made = c.in-Ok-close.ensures in
    record {
      group = (group_of_sorted c.args.list.now _ _ _ made.narrow made.generated c.deref.ensures.value s.permutation s.first s.sorted).group;
      all = subst (λ v. IsProductTable v c.fill.new.table.items c.fill.new.inverses.items (length v)) c.deref-2.ensures.value c.fill.ensures;
      runs = subst (λ v. AreRunEnds v c.run_ends-ends.result) c.deref-3.ensures.value c.run_ends-ends.ensures;
      opposites_known = subst (λ v. AreOpposites v c.opposite_runs-opposites.result) c.deref-4.ensures.value c.opposite_runs-opposites.ensures;
    }

pub returns-clause-ok : goal.returns-clause-ok
returns-clause-ok c =
    let s = c.list_in_order.ensures in
    let made = c.in-Ok-close.ensures in
    (group_of_sorted c.args.list.now _ _ _ made.narrow made.generated c.deref.ensures.value s.permutation s.first s.sorted).listed

pub returns-clause-closes : goal.returns-clause-closes
returns-clause-closes c =
    let s = c.list_in_order.ensures in
    let made = c.in-Ok-close.ensures in
    (group_of_sorted c.args.list.now _ _ _ made.narrow made.generated c.deref.ensures.value s.permutation s.first s.sorted).closes
