use Rattle.std.proofs.Common.{arith}
use Rattle.std.proofs.lemmas.Int.{ints}
use Rattle.map_sym.proofs.PlainSteps.{digits_small, plain_behind_minus, plain_bare}
use Rattle.map_sym.proofs.plain_lines.plain_line.Goals as goal

pub overflow_cast-result : goal.overflow_cast-result
overflow_cast-result c = let few = digits_small c.in_ok-n-in-len1-up.ensures in omega (arith, ints, few)

pub overflow_sub-result : goal.overflow_sub-result
overflow_sub-result c = let few = digits_small c.in_ok-n-in-len1-up.ensures in omega (arith, ints, few)

pub overflow_cast-result-in_default : goal.overflow_cast-result-in_default
overflow_cast-result-in_default c = let few = digits_small c.in_ok-n-in_default.ensures in omega (arith, ints, few)

pub returns-in_ok-n-in-len1-up : goal.returns-in_ok-n-in-len1-up
returns-in_ok-n-in-len1-up c = plain_behind_minus c.args.text.now c.in_ok-n-in-len1-up.n c.in_ok-n-in-len1-up.rest.now c.in-len1-up.len_at_least c.if-sign-eq45.true c.in_ok-n-in-len1-up.ensures

pub returns-in_ok-n-in_default : goal.returns-in_ok-n-in_default
returns-in_ok-n-in_default c = plain_bare c.args.text.now c.in_ok-n-in_default.n c.in_ok-n-in_default.rest.now c.in_ok-n-in_default.ensures
