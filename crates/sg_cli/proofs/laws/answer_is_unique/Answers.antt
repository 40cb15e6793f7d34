use Rattle.sg_cli.proofs.Soundness.{one_answer}
use Rattle.sg_cli.proofs.laws.answer_is_unique.Goals as goal

pub returns : goal.returns
returns c = one_answer
