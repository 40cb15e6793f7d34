use Rattle.triplet_text.proofs.IntegerLaw.{behind_minus, behind_plus, without_sign}
use Rattle.std.proofs.Common.{arith}
use Rattle.triplet_text.proofs.integer.read_integer.Goals as goal

pub returns-in_ok-n-in-len1-up-clause-some : goal.returns-in_ok-n-in-len1-up-clause-some
returns-in_ok-n-in-len1-up-clause-some c =
    behind_minus c.args.most c.args.text.now c.in_ok-n-in-len1-up.field-0 (omega (arith, c.in-len1-up.len_at_least)) c.if-sign-eq45.true c.in_ok-n-in-len1-up.ensures.small c.in_ok-n-in-len1-up.ensures.some

pub returns-in_ok-read_natural-in-len1-up-2-clause-some : goal.returns-in_ok-read_natural-in-len1-up-2-clause-some
returns-in_ok-read_natural-in-len1-up-2-clause-some c =
    behind_plus c.args.most c.args.text.now c.in_ok-read_natural-in-len1-up-2.field-0 (omega (arith, c.in-len1-up.len_at_least)) c.if-sign-eq43.true c.in_ok-read_natural-in-len1-up-2.ensures.small c.in_ok-read_natural-in-len1-up-2.ensures.some

pub returns-in_ok-read_natural-in_default-clause-some : goal.returns-in_ok-read_natural-in_default-clause-some
returns-in_ok-read_natural-in_default-clause-some c = without_sign c.args.most c.args.text.now c.in_ok-read_natural-in_default.field-0 c.in_ok-read_natural-in_default.ensures.small c.in_ok-read_natural-in_default.ensures.some
