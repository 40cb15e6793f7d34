use Rattle.std.proofs.Common.{◌∙◌}
use Rattle.std.proofs.lemmas.Result.{IfOk-weaker}
use Rattle.triplet_text.specs.Printing.{operator_text}
use Rattle.json_report.proofs.PlainTexts.{operator_plain}
use Rattle.json_report.proofs.Written.{told_text}
use Rattle.json_report.proofs.entries.operator_value.Goals as goal

pub returns : goal.returns
returns c = IfOk-weaker c.text_value.result _ _ (λ v h. told_text c.bytes.result.now (operator_text c.args.op.now) _ (c.bytes.ensures.text ∙ c.print_triplet.ensures.text) (operator_plain c.args.op.now c.w.ensures.narrow) h) c.text_value.ensures
