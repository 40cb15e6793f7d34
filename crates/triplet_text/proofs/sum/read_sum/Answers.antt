use Rattle.std.proofs.Common.{◌≤◌, ◌-◌, ◌+◌, length, get_or, refl, ◌∙◌, arith, length-drop}
use Rattle.triplet_text.specs.declared.triplet.TheConstants.{LINE_LENGTH}
use Rattle.triplet_text.proofs.Totals.{IsSumOf-more, IsSumOf-wider, total_more}
use Rattle.triplet_text.proofs.sum.read_sum.Goals as goal

pub loop-rest-init : goal.loop-rest-init
loop-rest-init c = record {
  value = c.in_ok-total.ensures.value ∙ rw (c.until_sign.ensures.front, c.until_sign.ensures.signs) refl;
  sign = c.until_sign.ensures.rest;
  few = c.until_sign.ensures.short;
  small = IsSumOf-wider 1 (length c.args.text.now - length c.until_sign.result.1.now + 1) c.in_ok-total.total (omega arith) c.in_ok-total.ensures.small;
}

pub added-total-requires-clause-total : goal.added-total-requires-clause-total
added-total-requires-clause-total c = IsSumOf-wider (length c.args.text.now - length c.loop-rest.rest.now + 1) LINE_LENGTH c.loop-rest.total (omega arith) c.loop-rest.invariant.small

pub loop-rest-preserved : goal.loop-rest-preserved
loop-rest-preserved c =
    let v = c.loop-rest.total in
    let t = c.in_ok-value.value in
    let rest = c.loop-rest.rest.now in
    let until = c.until_sign-in-len1-up in
    let some : 1 ≤ length rest = omega (arith, c.in-len1-up.len_at_least) in
    let is_term = rw c.without_blanks.ensures.text at c.in_ok-value.ensures.value in
    let shorter : length until.result.1.now + 1 ≤ length rest = omega (arith, until.ensures.short, length-drop 1 rest) in
    record {
      value = rw c.added-total.ensures (total_more v t rest until.result.0.now until.result.1.now some c.loop-rest.invariant.sign until.ensures.front until.ensures.signs is_term ∙ c.loop-rest.invariant.value);
      sign = until.ensures.rest;
      few = omega arith;
      small = rw c.added-total.ensures (IsSumOf-wider (length c.args.text.now - length rest + 1 + 1) (length c.args.text.now - length until.result.1.now + 1) _ (omega arith) (IsSumOf-more (length c.args.text.now - length rest + 1) (get_or rest 0 0) v t c.loop-rest.invariant.small c.in_ok-value.ensures.small));
    }

pub returns-clause-small : goal.returns-clause-small
returns-clause-small c = IsSumOf-wider (length c.args.text.now - length c.loop-rest.rest.now + 1) (LINE_LENGTH + 1) c.loop-rest.total (omega arith) c.loop-rest.invariant.small
