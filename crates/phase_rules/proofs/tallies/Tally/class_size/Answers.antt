use Rattle.std.proofs.Common.{arith, subst}
use Rattle.phase_rules.proofs.Classes.{some_fixer, apart_size, friedel_size}
use Rattle.phase_rules.specs.Equivalent.{IsClass}
use Rattle.phase_rules.proofs.tallies.Tally.class_size.Goals as goal

pub nonzero_div-result : goal.nonzero_div-result
nonzero_div-result c = let t = c.requires.1 in omega (arith, some_fixer c.args.group.now c.len.ensures.group c.requires.0, t.fixers)

pub nonzero_div-result-in-Apart : goal.nonzero_div-result-in-Apart
nonzero_div-result-in-Apart c = let t = c.requires.1 in omega (arith, some_fixer c.args.group.now c.len-in-Apart.ensures.group c.requires.0, t.fixers)

pub returns-in-Friedel : goal.returns-in-Friedel
returns-in-Friedel c =
    λ h class t s. friedel_size c.args.group.now h c.len.result c.args.self.now.fixers c.args.self.now.reversers class c.len.ensures.group c.len.ensures.value t.fixers t.reversers (subst (λ p. IsClass p c.args.group.now h class) c.in-Friedel.is s)

pub returns-in-Apart : goal.returns-in-Apart
returns-in-Apart c =
    λ h class t s. apart_size c.args.group.now h c.len-in-Apart.result c.args.self.now.fixers class c.len-in-Apart.ensures.group c.len-in-Apart.ensures.value t.fixers (subst (λ p. IsClass p c.args.group.now h class) c.in-Apart.is s)
