use Rattle.std.proofs.Common.{length, arith, sym}
use Rattle.std.proofs.lemmas.Grind.{common_steps}
use Rattle.triplet_text.proofs.Bounds.{bound_all}
use Rattle.triplet_text.proofs.IntegerLaw.{natural_is, no_natural}
use Rattle.triplet_text.proofs.integer.read_natural.Goals as goal

pub returns-in_err-digits_behind-clause-none : goal.returns-in_err-digits_behind-clause-none
returns-in_err-digits_behind-clause-none c = rw c.from_residual.ensures (no_natural c.args.most c.args.text.now (sym c.in_err-digits_behind.ensures.value))

pub returns-clause-some : goal.returns-clause-some
returns-clause-some c =
    natural_is c.args.most c.args.text.now c.in_ok-digits_behind.field-0 (λ e. let t = c.is_empty.ensures in let f = c.if-is_empty.false in grind (arith, common_steps)) c.if-text-most.false (sym c.in_ok-digits_behind.ensures.value)

pub returns-clause-small : goal.returns-clause-small
returns-clause-small c = omega (arith, bound_all c.in_ok-digits_behind.field-0 0 (length c.args.text.now) 18 c.in_ok-digits_behind.ensures.bound (omega arith))
