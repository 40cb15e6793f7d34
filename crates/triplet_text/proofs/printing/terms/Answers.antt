use Rattle.std.proofs.Common.{◌*◌, ◌<◌, ◌^◌, ◌∙◌, ℤ, length, unsigned_abs, ap, sym, subst, arith}
use Rattle.exact_ops.specs.declared.TheConstants.{UNIT}
use Rattle.triplet_text.specs.Printing.{coefficient_text, constant_text}
use Rattle.triplet_text.proofs.Printed.{joined_is, are_passed, below_passed}
use Rattle.triplet_text.proofs.printing.terms.Goals as goal

pub returns-clause-text : goal.returns-clause-text
returns-clause-text c =
    let over = c.args.over in
    let p = are_passed c.args.x c.args.y c.args.z c.args.parts c.ranges.x c.ranges.y c.ranges.z c.ranges.parts in
    let one = c.join.ensures.text ∙ joined_is c.new-text.ensures (c.bytes.ensures.text ∙ c.coefficient.ensures.text ∙ ap (λ (n : ℤ). coefficient_text over n 120) p.first) in
    let two = c.join-2.ensures.text ∙ joined_is one (c.bytes-2.ensures.text ∙ c.coefficient-2.ensures.text ∙ ap (λ (n : ℤ). coefficient_text over n 121) p.second) in
    let three = c.join-3.ensures.text ∙ joined_is two (c.bytes-3.ensures.text ∙ c.coefficient-3.ensures.text ∙ ap (λ (n : ℤ). coefficient_text over n 122) p.third) in
    c.join-4.ensures.text ∙ joined_is three (c.bytes-4.ensures.text ∙ c.constant.ensures.text ∙ ap (constant_text (UNIT * over)) p.constant)

pub returns-clause-small : goal.returns-clause-small
returns-clause-small c = λ k l m n pk pl pm pn below few small parts.
    let p = are_passed c.args.x c.args.y c.args.z c.args.parts c.ranges.x c.ranges.y c.ranges.z c.ranges.parts in
    let h = below_passed (10 ^ k) c.args.x c.args.y c.args.z c.args.parts p below in
    let x = c.coefficient.ensures.small k l pk pl h.0 few in
    let y = c.coefficient-2.ensures.small k l pk pl h.1 few in
    let z = c.coefficient-3.ensures.small k l pk pl h.2 few in
    let t = c.constant.ensures.small m n pm pn (subst (λ v. unsigned_abs v < 10 ^ m) (sym p.constant) small) parts in
    omega (
      arith,
      x,
      y,
      z,
      t,
      ap length c.new-text.ensures,
      ap length c.bytes.ensures.text,
      ap length c.bytes-2.ensures.text,
      ap length c.bytes-3.ensures.text,
      ap length c.bytes-4.ensures.text,
      c.join.ensures.short,
      c.join-2.ensures.short,
      c.join-3.ensures.short,
      c.join-4.ensures.short,
    )
