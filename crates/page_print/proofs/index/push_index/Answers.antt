use Rattle.std.proofs.Common.{rules, ◌∙◌, ap, w32}
use Rattle.std.specs.Fmt.{signed_decimal}
use Rattle.std.proofs.lemmas.Int.{to_z-of_z}
use Rattle.page_print.proofs.Pushed.{three_pushed}
use Rattle.page_print.proofs.index.push_index.Goals as goal

pub returns-clause-text : goal.returns-clause-text
returns-clause-text c =
    three_pushed _ _ _ _ _ _ _ _ _ _ _ _ c.push.ensures c.push-2.ensures c.push-3.ensures c.push-4.ensures c.push-5.ensures
    (c.as_bytes.ensures.value ∙ c.format.ensures.text ∙ ap signed_decimal (to_z-of_z w32 _ (search rules)))
    (c.as_bytes-2.ensures.value ∙ c.format-2.ensures.text ∙ ap signed_decimal (to_z-of_z w32 _ (search rules)))
    (c.as_bytes-3.ensures.value ∙ c.format-3.ensures.text ∙ ap signed_decimal (to_z-of_z w32 _ (search rules)))
