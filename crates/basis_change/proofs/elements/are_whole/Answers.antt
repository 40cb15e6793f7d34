use Rattle.std.proofs.Common.{arith, sym, ◌∙◌, refl}
use Rattle.std.proofs.lemmas.Bool.{false≢true}
use Rattle.basis_change.specs.Frames.{change_in, map_in, generators, HasWholeMatrix}
use Rattle.basis_change.proofs.Steps.{none_yet, one_more_of, all_of, at_of}
use Rattle.basis_change.proofs.Generators.{whole}
use Rattle.basis_change.proofs.elements.are_whole.Goals as goal

pub loop-i-init : goal.loop-i-init
loop-i-init c = none_yet (HasWholeMatrix (change_in c.args.frame.now)) (generators c.args.group.now)

pub rotation-requires-clause-frame : goal.rotation-requires-clause-frame
rotation-requires-clause-frame c = c.requires

pub rotation-requires-clause-narrow : goal.rotation-requires-clause-narrow
rotation-requires-clause-narrow c = c.generator_at-g.ensures.narrow

pub returns-then-is_none : goal.returns-then-is_none
returns-then-is_none c = ((λ t. absurd (false≢true t)), (λ h. absurd (false≢true (sym c.if-is_none.ensures ∙ c.rotation.ensures.some.1 (at_of (HasWholeMatrix (change_in c.args.frame.now)) (generators c.args.group.now) c.loop-i.i (map_in c.generator_at-g.result) c.generator_at-g.ensures.value ((whole c.args.group.now c.generator_count-i-end.ensures.group (change_in c.args.frame.now)).1 h))))))

pub loop-i-preserved : goal.loop-i-preserved
loop-i-preserved c = one_more_of (HasWholeMatrix (change_in c.args.frame.now)) (generators c.args.group.now) c.loop-i.i (map_in c.generator_at-g.result) c.generator_at-g.ensures.value c.loop-i.invariant (c.rotation.ensures.some.0 c.if-is_none.ensures)

pub returns : goal.returns
returns c = ((λ t. (whole c.args.group.now c.generator_count-i-end.ensures.group (change_in c.args.frame.now)).0 (all_of (HasWholeMatrix (change_in c.args.frame.now)) (generators c.args.group.now) c.loop-i.i (omega (arith, c.loop-i-test.false, c.generator_count-i-end.ensures.count)) c.loop-i.invariant)), (λ h. refl))
