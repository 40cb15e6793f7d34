use Rattle.std.proofs.Common.{arith, take, [], ◌+◌, sym, subst}
use Rattle.std.proofs.lemmas.List.{take_all}
use Rattle.basis_change.specs.Frames.{change_in, map_in, generators, HasNarrowMatrix, HasMap, AreChanged}
use Rattle.basis_change.proofs.Steps.{at_of}
use Rattle.basis_change.proofs.Generators.{narrow, parts, none_changed, generator_changed}
use Rattle.basis_change.proofs.Frames.{is_change}
use Rattle.basis_change.proofs.elements.changed_list.Goals as goal

pub loop-i-init : goal.loop-i-init
loop-i-init c = subst (AreChanged c.args.group.now (change_in c.args.frame.now) []) (sym c.new-list.ensures) (none_changed c.args.group.now c.generator_count-i-end.ensures.group (change_in c.args.frame.now))

pub changed-requires-clause-frame : goal.changed-requires-clause-frame
changed-requires-clause-frame c = c.requires.frame

pub changed-requires-clause-narrow : goal.changed-requires-clause-narrow
changed-requires-clause-narrow c = c.generator_at-g.ensures.narrow

pub changed-requires-clause-within : goal.changed-requires-clause-within
changed-requires-clause-within c = c.generator_at-g.ensures.within

pub changed-requires-clause-stays_narrow : goal.changed-requires-clause-stays_narrow
changed-requires-clause-stays_narrow c = at_of (HasNarrowMatrix (change_in c.args.frame.now)) (generators c.args.group.now) c.loop-i.i (map_in c.generator_at-g.result) c.generator_at-g.ensures.value ((narrow c.args.group.now c.generator_count-i-end.ensures.group (change_in c.args.frame.now)).1 c.requires.narrow)

pub unwrap-raw-requires : goal.unwrap-raw-requires
unwrap-raw-requires c = c.changed.ensures.some.1 (at_of (HasMap (change_in c.args.frame.now)) (generators c.args.group.now) c.loop-i.i (map_in c.generator_at-g.result) c.generator_at-g.ensures.value ((parts c.args.group.now c.generator_count-i-end.ensures.group (change_in c.args.frame.now) (is_change c.args.frame.now c.requires.frame)).1 c.requires.parts))

pub loop-i-preserved : goal.loop-i-preserved
loop-i-preserved c = let r = rw c.unwrap-raw.ensures at c.changed.ensures.value in subst (AreChanged c.args.group.now (change_in c.args.frame.now) (take (c.loop-i.i + 1) (generators c.args.group.now))) (sym c.in-Ok.ensures.ok) (generator_changed c.args.group.now c.generator_count-i-end.ensures.group (change_in c.args.frame.now) c.loop-i.i c.loop-i.list (map_in c.generator_at-g.result) r.0 _ c.loop-i.invariant c.generator_at-g.ensures.value r.1 r.2)

pub returns : goal.returns
returns c = subst (λ maps. AreChanged c.args.group.now (change_in c.args.frame.now) maps c.loop-i.list) (take_all c.loop-i.i (generators c.args.group.now) (omega (arith, c.loop-i-test.false, c.generator_count-i-end.ensures.count))) c.loop-i.invariant
