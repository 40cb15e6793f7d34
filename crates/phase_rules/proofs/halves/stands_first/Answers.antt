use Rattle.std.proofs.Common.{arith}
use Rattle.phase_rules.proofs.Opposites.{behind_opposite}
use Rattle.group_closure.proofs.Places.{some_at}
use Rattle.phase_rules.proofs.halves.stands_first.Goals as goal

pub returns-in-Some-clause-behind : goal.returns-in-Some-clause-behind
returns-in-Some-clause-behind c = λ _.
    let s = some_at c.args.group.now c.args.i (omega (arith, c.if-from-len.false, c.from.ensures, c.len.ensures.value)) in
    behind_opposite c.args.group.now c.len.ensures.group c.args.i c.in-Some.opposite s.0 s.1 (c.in-Some.ensures.first s.0 s.1) c.if-opposite-i.true
