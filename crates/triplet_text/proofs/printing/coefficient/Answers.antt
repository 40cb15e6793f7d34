use Rattle.std.proofs.Common.{◌≤◌, ◌+◌, length, List, ℕ, sym, subst, arith}
use Rattle.std.proofs.lemmas.Int.{ints}
use Rattle.std.proofs.lemmas.Grind.{common_steps}
use Rattle.triplet_text.proofs.Printed.{coefficient_short}
use Rattle.triplet_text.proofs.printing.coefficient.Goals as goal

pub returns-clause-text : goal.returns-clause-text
returns-clause-text c = grind (arith, common_steps)

pub returns-clause-small : goal.returns-clause-small
returns-clause-small c = λ k l pk pl small few.
    let n = c.ranges.n in
    let d = c.ranges.over in
    subst (λ (t : List ℕ). length t ≤ k + l + 4) (sym (returns-clause-text c))
    (coefficient_short k l pk pl c.args.over c.args.n c.args.letter few (omega (arith, d)) small (omega (arith, ints, n)))

pub returns-clause-short : goal.returns-clause-short
returns-clause-short c =
    let n = c.ranges.n in
    let d = c.ranges.over in
    returns-clause-small c 10 10 (omega arith) (omega arith) (omega (arith, ints, n)) (omega (arith, d))
