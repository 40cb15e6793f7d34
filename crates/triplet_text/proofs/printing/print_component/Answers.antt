use Rattle.std.proofs.Common.{◌∙◌, ◌<◌, ◌^◌, unsigned_abs, sym, subst, ap}
use Rattle.triplet_text.specs.Printing.{or_zero}
use Rattle.triplet_text.proofs.Printed.{are_passed, terms_is, below_passed, kept}
use Rattle.triplet_text.proofs.printing.print_component.Goals as goal

pub returns-else-is_empty-clause-text : goal.returns-else-is_empty-clause-text
returns-else-is_empty-clause-text c =
    let p = are_passed c.args.x c.args.y c.args.z c.args.parts c.ranges.x c.ranges.y c.ranges.z c.ranges.parts in
    let is = c.bytes.ensures.text ∙ c.terms-text.ensures.text ∙ terms_is c.args.over c.args.x c.args.y c.args.z c.args.parts p in
    sym c.bytes.ensures.text ∙ sym (kept c.bytes.result.now (sym c.is_empty.ensures ∙ c.if-is_empty.false)) ∙ ap or_zero is

pub returns-else-is_empty-clause-small : goal.returns-else-is_empty-clause-small
returns-else-is_empty-clause-small c = λ k l m n pk pl pm pn below few small parts.
    let p = are_passed c.args.x c.args.y c.args.z c.args.parts c.ranges.x c.ranges.y c.ranges.z c.ranges.parts in
    c.terms-text.ensures.small k l m n pk pl pm pn (below_passed (10 ^ k) c.args.x c.args.y c.args.z c.args.parts p below) few (subst (λ v. unsigned_abs v < 10 ^ m) (sym p.constant) small) parts
