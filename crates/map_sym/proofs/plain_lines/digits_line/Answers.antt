use Rattle.std.proofs.Common.{◌≡◌, ◌<◌, true, get_or, arith}
use Rattle.std.proofs.lemmas.Grind.{common_steps}
use Rattle.triplet_text.specs.Bytes.{is_digit}
use Rattle.map_sym.proofs.PlainSteps.{none_before, less, one_more, small, digits_line}
use Rattle.map_sym.proofs.plain_lines.digits_line.Goals as goal

pub loop-rest-init : goal.loop-rest-init
loop-rest-init c = record { digits = none_before c.args.text.now }

pub returns-then-byte-lt48 : goal.returns-then-byte-lt48
returns-then-byte-lt48 c = digits_line c.args.text.now c.loop-rest.rest.now c.loop-rest.n c.loop-rest.invariant.digits c.in-len1-up.len_at_least c.if-taken-eq0.false c.if-byte-ne10.false

pub overflow_mul-n : goal.overflow_mul-n
overflow_mul-n c =
    let h = c.loop-rest.invariant.digits in
    let few = small c.args.text.now c.loop-rest.rest.now c.loop-rest.n h (less c.args.text.now c.loop-rest.rest.now c.loop-rest.n h c.if-taken-eq-NUMBER_DIGITS.false) in
    omega (arith, few)

pub overflow_add-n : goal.overflow_add-n
overflow_add-n c =
    let h = c.loop-rest.invariant.digits in
    let few = small c.args.text.now c.loop-rest.rest.now c.loop-rest.n h (less c.args.text.now c.loop-rest.rest.now c.loop-rest.n h c.if-taken-eq-NUMBER_DIGITS.false) in
    let digit : c.from.result < 10 = grind (arith, common_steps) in
    omega (arith, few, digit)

pub loop-rest-preserved : goal.loop-rest-preserved
loop-rest-preserved c =
    let h = c.loop-rest.invariant.digits in
    let digit : is_digit (get_or c.loop-rest.rest.now 0 0) ≡ true = grind (arith, common_steps) in
    record { digits = rw c.from.ensures (one_more c.args.text.now c.loop-rest.rest.now c.loop-rest.n h c.in-len1-up.len_at_least (less c.args.text.now c.loop-rest.rest.now c.loop-rest.n h c.if-taken-eq-NUMBER_DIGITS.false) digit) }
