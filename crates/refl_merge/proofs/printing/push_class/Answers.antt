use Rattle.std.proofs.Common.{rules, ◌∙◌, ap, w64}
use Rattle.std.specs.Fmt.{signed_decimal}
use Rattle.std.proofs.lemmas.Int.{to_z-of_z}
use Rattle.page_print.proofs.Pushed.{four_pushed}
use Rattle.refl_merge.proofs.printing.push_class.Goals as goal

pub returns : goal.returns
returns c =
    four_pushed _ _ _ _ _ _ _ _ _ _ _ _ _ _ _ c.push_key.ensures.text c.push.ensures c.push-2.ensures c.push-3.ensures c.push-4.ensures c.push-5.ensures c.push_absence.ensures.text c.push-6.ensures
    (c.as_bytes.ensures.value ∙ c.format.ensures.text)
    (c.as_bytes-2.ensures.value ∙ c.format-2.ensures.text ∙ ap signed_decimal (to_z-of_z w64 _ (search rules)))
