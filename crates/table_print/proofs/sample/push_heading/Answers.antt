use Rattle.std.proofs.Common.{◌∙◌, ap, codes}
use Rattle.page_print.specs.Parts.{counted}
use Rattle.table_print.proofs.SampleTexts.{heading_pushed}
use Rattle.table_print.proofs.sample.push_heading.Goals as goal

pub returns : goal.returns
returns c =
    heading_pushed _ _ _ _ (codes "group ") _ _ _ _ c.push.ensures c.push-2.ensures c.push-3.ensures (c.as_bytes.ensures.value ∙ c.format.ensures.text)
    (c.bytes.ensures.text ∙ c.counted.ensures.text ∙ ap (counted (codes " operators ")) (c.from.ensures ∙ c.len.ensures.value))
