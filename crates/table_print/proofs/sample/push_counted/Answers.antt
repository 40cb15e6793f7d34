use Rattle.std.proofs.Common.{◌∙◌}
use Rattle.table_print.proofs.SampleTexts.{counted_pushed}
use Rattle.table_print.proofs.sample.push_counted.Goals as goal

pub returns : goal.returns
returns c = λ row is.
    counted_pushed _ _ _ _ _ _ _ _ (c.push_row.ensures.text row is) c.push.ensures c.push-2.ensures c.push-3.ensures (c.as_bytes.ensures.value ∙ c.format.ensures.text)
