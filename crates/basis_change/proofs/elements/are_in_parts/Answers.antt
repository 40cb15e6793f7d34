use Rattle.std.proofs.Common.{arith, sym, ◌∙◌, refl}
use Rattle.std.proofs.lemmas.Bool.{false≢true}
use Rattle.basis_change.specs.Frames.{change_in, map_in, generators, HasNarrowMatrix, HasMap}
use Rattle.basis_change.proofs.Steps.{none_yet, one_more_of, all_of, at_of}
use Rattle.basis_change.proofs.Generators.{narrow, parts}
use Rattle.basis_change.proofs.Frames.{is_change}
use Rattle.basis_change.proofs.elements.are_in_parts.Goals as goal

pub loop-i-init : goal.loop-i-init
loop-i-init c = none_yet (HasMap (change_in c.args.frame.now)) (generators c.args.group.now)

pub changed-requires-clause-frame : goal.changed-requires-clause-frame
changed-requires-clause-frame c = c.requires.frame

pub changed-requires-clause-narrow : goal.changed-requires-clause-narrow
changed-requires-clause-narrow c = c.generator_at-g.ensures.narrow

pub changed-requires-clause-within : goal.changed-requires-clause-within
changed-requires-clause-within c = c.generator_at-g.ensures.within

pub changed-requires-clause-stays_narrow : goal.changed-requires-clause-stays_narrow
changed-requires-clause-stays_narrow c = at_of (HasNarrowMatrix (change_in c.args.frame.now)) (generators c.args.group.now) c.loop-i.i (map_in c.generator_at-g.result) c.generator_at-g.ensures.value ((narrow c.args.group.now c.generator_count-i-end.ensures.group (change_in c.args.frame.now)).1 c.requires.narrow)

pub returns-then-is_none : goal.returns-then-is_none
returns-then-is_none c = ((λ t. absurd (false≢true t)), (λ h. absurd (false≢true (sym c.if-is_none.ensures ∙ c.changed.ensures.some.1 (at_of (HasMap (change_in c.args.frame.now)) (generators c.args.group.now) c.loop-i.i (map_in c.generator_at-g.result) c.generator_at-g.ensures.value ((parts c.args.group.now c.generator_count-i-end.ensures.group (change_in c.args.frame.now) (is_change c.args.frame.now c.requires.frame)).1 h))))))

pub loop-i-preserved : goal.loop-i-preserved
loop-i-preserved c = one_more_of (HasMap (change_in c.args.frame.now)) (generators c.args.group.now) c.loop-i.i (map_in c.generator_at-g.result) c.generator_at-g.ensures.value c.loop-i.invariant (c.changed.ensures.some.0 c.if-is_none.ensures)

pub returns : goal.returns
returns c = ((λ t. (parts c.args.group.now c.generator_count-i-end.ensures.group (change_in c.args.frame.now) (is_change c.args.frame.now c.requires.frame)).0 (all_of (HasMap (change_in c.args.frame.now)) (generators c.args.group.now) c.loop-i.i (omega (arith, c.loop-i-test.false, c.generator_count-i-end.ensures.count)) c.loop-i.invariant)), (λ h. refl))
