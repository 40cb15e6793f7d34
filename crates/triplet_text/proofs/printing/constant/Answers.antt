use Rattle.std.proofs.Common.{◌≤◌, ◌+◌, length, List, ℕ, sym, subst, ◌∙◌, arith}
use Rattle.std.proofs.lemmas.Int.{ints}
use Rattle.triplet_text.proofs.Printed.{constant_short, constant_passed}
use Rattle.triplet_text.proofs.printing.constant.Goals as goal

pub returns-clause-text : goal.returns-clause-text
returns-clause-text c =
    let d = c.ranges.d in
    c.print_frac.ensures ∙ constant_passed c.args.d c.args.n c.from.result c.from-2.result (omega (arith, d)) c.ranges.n c.if-n-eq0.false c.from.ensures c.from-2.ensures

pub returns-clause-small : goal.returns-clause-small
returns-clause-small c = λ k l pk pl small few.
    let n = c.ranges.n in
    let d = c.ranges.d in
    subst (λ (t : List ℕ). length t ≤ k + l + 2) (sym (returns-clause-text c)) (constant_short k l pk pl c.args.d c.args.n few (omega (arith, d)) small (omega (arith, ints, n)))

pub returns-clause-short : goal.returns-clause-short
returns-clause-short c =
    let n = c.ranges.n in
    let d = c.ranges.d in
    returns-clause-small c 19 10 (omega arith) (omega arith) (omega (arith, ints, n)) (omega (arith, d))
