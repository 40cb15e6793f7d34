use Rattle.std.proofs.Common.{◌∙◌, ◌<◌, ◌^◌, unsigned_abs, sym, subst, arith}
use Rattle.triplet_text.specs.Printing.{AreBelow}
use Rattle.triplet_text.proofs.Printed.{are_passed, below_passed, component_is}
use Rattle.triplet_text.proofs.printing.component.Goals as goal

pub print_component-requires-clause-over : goal.print_component-requires-clause-over
print_component-requires-clause-over c = let few = c.requires.over in omega (arith, few)

pub returns-clause-text : goal.returns-clause-text
returns-clause-text c =
    c.print_component.ensures.text ∙ component_is c.args.over c.args.x c.args.y c.args.z c.args.parts (are_passed c.args.x c.args.y c.args.z c.args.parts c.ranges.x c.ranges.y c.ranges.z c.ranges.parts)

pub returns-clause-short : goal.returns-clause-short
returns-clause-short c =
    let p = are_passed c.args.x c.args.y c.args.z c.args.parts c.ranges.x c.ranges.y c.ranges.z c.ranges.parts in
    let few = c.requires.over in
    let h = c.requires.narrow in
    let below : AreBelow (10 ^ 3) c.args.x c.args.y c.args.z = (omega (arith, few, h.first), omega (arith, few, h.second), omega (arith, few, h.third)) in
    let small = c.requires.parts in
    let length =
    c.print_component.ensures.small 3 3 12 4 (omega arith) (omega arith) (omega arith) (omega arith) (below_passed (10 ^ 3) c.args.x c.args.y c.args.z c.args.parts p below) (omega (arith, few))
    (subst (λ v. unsigned_abs v < 10 ^ 12) (sym p.constant) (omega (arith, small))) (omega (arith, few)) in
    omega (arith, length)
