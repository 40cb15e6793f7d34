use Rattle.sg_c.proofs.questions.sg_class_keys.Goals as goal

pub returns-clause-answered : goal.returns-clause-answered
returns-clause-answered c = rw c.pairs_of.ensures at c.ask_each.ensures.answered
