use Rattle.sg_cli.proofs.Soundness as answers
use Rattle.sg_cli.proofs.laws.some_answer.Goals as goal

pub returns : goal.returns
returns c = answers.some_answer
