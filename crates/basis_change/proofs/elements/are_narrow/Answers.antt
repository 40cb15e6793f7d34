use Rattle.std.proofs.Common.{arith, sym, ◌∙◌, refl}
use Rattle.std.proofs.lemmas.Bool.{false≢true}
use Rattle.basis_change.specs.Frames.{change_in, map_in, generators, HasNarrowMatrix}
use Rattle.basis_change.proofs.Steps.{none_yet, one_more_of, all_of, at_of}
use Rattle.basis_change.proofs.Generators.{narrow}
use Rattle.basis_change.proofs.elements.are_narrow.Goals as goal

pub loop-i-init : goal.loop-i-init
loop-i-init c = none_yet (HasNarrowMatrix (change_in c.args.frame.now)) (generators c.args.group.now)

pub stays_narrow-requires-clause-frame : goal.stays_narrow-requires-clause-frame
stays_narrow-requires-clause-frame c = c.requires

pub stays_narrow-requires-clause-narrow : goal.stays_narrow-requires-clause-narrow
stays_narrow-requires-clause-narrow c = c.generator_at-g.ensures.narrow

pub returns-then-not-stays_narrow : goal.returns-then-not-stays_narrow
returns-then-not-stays_narrow c = ((λ t. absurd (false≢true t)), (λ h. absurd (false≢true (sym c.if-not-stays_narrow.true ∙ c.stays_narrow.ensures.1 (at_of (HasNarrowMatrix (change_in c.args.frame.now)) (generators c.args.group.now) c.loop-i.i (map_in c.generator_at-g.result) c.generator_at-g.ensures.value ((narrow c.args.group.now c.generator_count-i-end.ensures.group (change_in c.args.frame.now)).1 h))))))

pub loop-i-preserved : goal.loop-i-preserved
loop-i-preserved c = one_more_of (HasNarrowMatrix (change_in c.args.frame.now)) (generators c.args.group.now) c.loop-i.i (map_in c.generator_at-g.result) c.generator_at-g.ensures.value c.loop-i.invariant (c.stays_narrow.ensures.0 c.if-not-stays_narrow.false)

pub returns : goal.returns
returns c = ((λ t. (narrow c.args.group.now c.generator_count-i-end.ensures.group (change_in c.args.frame.now)).0 (all_of (HasNarrowMatrix (change_in c.args.frame.now)) (generators c.args.group.now) c.loop-i.i (omega (arith, c.loop-i-test.false, c.generator_count-i-end.ensures.count)) c.loop-i.invariant)), (λ h. refl))
