use Rattle.std.proofs.Common.{map, sym, ◌∙◌, subst}
use Rattle.std.proofs.lemmas.Option.{same_Some}
use Rattle.exact_ops.specs.Elements.{map_in}
use Rattle.wyckoff_rows.specs.Steps.{IsCovered}
use Rattle.wyckoff_rows.proofs.Lists.{contains_at}
use Rattle.wyckoff_rows.proofs.Pushed.{covered_from, candidates_from, in_shift_range}
use Rattle.wyckoff_rows.proofs.candidates.push_shifts.Goals as goal

pub push_box-requires : goal.push_box-requires
push_box-requires c = λ i j k x y z. in_shift_range i j k (c.shift_ranges-ranges.ensures.small (record { x = i; y = j; z = k }) (x, y, z))

pub returns-clause-extends : goal.returns-clause-extends
returns-clause-extends c = c.in_ok-push_box.ensures.extends

pub returns-clause-covered : goal.returns-clause-covered
returns-clause-covered c = λ f s.
    let g = c.args.g.now in
    let set = c.args.entry.now.set in
    let r = c.shift_ranges-ranges.result in
    let new = map map_in c.push_box.new.list.items in
    let e = c.op-op.result in
    subst (IsCovered g set new) (same_Some e f (sym c.op-op.ensures.value ∙ s)) (covered_from g set (map map_in c.args.list.now.items) new e r c.in_ok-push_box.ensures (c.shift_ranges-ranges.ensures.enough e c.op-op.ensures.value))

pub returns-clause-candidates : goal.returns-clause-candidates
returns-clause-candidates c =
    let g = c.args.g.now in
    let r = c.shift_ranges-ranges.result in
    let e = c.op-op.result in
    candidates_from g c.op-op.ensures.group (map map_in c.args.list.now.items) (map map_in c.push_box.new.list.items) e r (contains_at g c.args.i e c.op-op.ensures.value) c.in_ok-push_box.ensures c.shift_ranges-ranges.ensures.small c.requires.candidates
