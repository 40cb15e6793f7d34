use Rattle.group_closure.proofs.closing.write.Goals as goal

pub returns-clause-size : goal.returns-clause-size
returns-clause-size c = c.told-row
