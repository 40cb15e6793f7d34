use Rattle.sg_cli.proofs.answers.answer_over.Goals as goal

pub returns-in-Site-clause-answers : goal.returns-in-Site-clause-answers
returns-in-Site-clause-answers g c = λ rest is. rw c.in-Site.is c.answer_site.ensures.answers

pub returns-in-Index-clause-answers : goal.returns-in-Index-clause-answers
returns-in-Index-clause-answers g c = λ rest is. rw c.in-Index.is c.answer_index.ensures.answers

pub returns-in-Refl-clause-answers : goal.returns-in-Refl-clause-answers
returns-in-Refl-clause-answers g c = λ rest is. rw c.in-Refl.is c.answer_refl.ensures.answers

pub returns-in-Grid-clause-answers : goal.returns-in-Grid-clause-answers
returns-in-Grid-clause-answers g c = λ rest is. rw c.in-Grid.is c.answer_grid.ensures.answers

pub returns-in-Basis-clause-answers : goal.returns-in-Basis-clause-answers
returns-in-Basis-clause-answers g c = λ rest is. rw c.in-Basis.is c.answer_basis.ensures.answers

pub returns-in-Recell-clause-answers : goal.returns-in-Recell-clause-answers
returns-in-Recell-clause-answers g c = λ rest is. rw c.in-Recell.is c.answer_recell.ensures.answers

pub returns-in-Fit-clause-answers : goal.returns-in-Fit-clause-answers
returns-in-Fit-clause-answers g c = λ rest is. rw c.in-Fit.is c.answer_fit.ensures.answers

pub returns-in-Table-clause-answers : goal.returns-in-Table-clause-answers
returns-in-Table-clause-answers g c = λ rest is. rw c.in-Table.is c.answer_table.ensures.answers

pub returns-in-Sample-clause-answers : goal.returns-in-Sample-clause-answers
returns-in-Sample-clause-answers g c = λ rest is. rw c.in-Sample.is c.answer_sample.ensures.answers

pub returns-in-Atoms-clause-answers : goal.returns-in-Atoms-clause-answers
returns-in-Atoms-clause-answers g c = λ rest is. rw c.in-Atoms.is (c.answer_atoms.ensures.answers rest is)

pub returns-in-Merge-clause-answers : goal.returns-in-Merge-clause-answers
returns-in-Merge-clause-answers g c = λ rest is. rw c.in-Merge.is (c.answer_merge.ensures.answers rest is)

pub returns-in-Map-clause-answers : goal.returns-in-Map-clause-answers
returns-in-Map-clause-answers g c = λ rest is. rw c.in-Map.is (c.answer_map.ensures.answers rest is)
