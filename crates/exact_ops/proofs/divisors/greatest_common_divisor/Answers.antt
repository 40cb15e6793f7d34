use Rattle.std.proofs.Common.{subst, sym}
use Rattle.std.specs.Int.{IsGcd}
use Rattle.std.proofs.lemmas.Nat.Gcd.{IsGcd-from_mod, IsGcd-from_zero}
use Rattle.exact_ops.proofs.divisors.greatest_common_divisor.Goals as goal

pub loop-b-preserved : goal.loop-b-preserved
loop-b-preserved c = λ g h. c.loop-b.invariant g (IsGcd-from_mod _ _ g h)

pub returns-then-b-eq0 : goal.returns-then-b-eq0
returns-then-b-eq0 c = c.loop-b.invariant c.loop-b.a (IsGcd-from_zero c.loop-b.a c.loop-b.b c.if-b-eq0.true)

pub returns : goal.returns
returns c = subst (λ g. IsGcd c.args.n c.args.d g) (sym c.from-2.ensures) (c.loop-b.invariant c.narrow_divisor.result (IsGcd-from_mod _ _ _ c.narrow_divisor.ensures))
