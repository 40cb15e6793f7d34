use Rattle.std.proofs.Common.{◌∙◌, ap, refl}
use Rattle.std.proofs.lemmas.Int.{to_z-of_z}
use Rattle.std.specs.Fmt.{signed_decimal}
use Rattle.map_sym.specs.MapTexts.{sum_text}
use Rattle.map_sym.proofs.MapLines.{sum_pushed}
use Rattle.map_sym.proofs.printing.push_sum.Goals as goal

pub returns : goal.returns
returns c = (
  sum_text c.args.line.now c.args.sum,
  refl,
  sum_pushed _ _ _ _ _ _ _ _ _ _ _ _ _ _ _ _ _ _ _ _ _ c.push.ensures c.push-2.ensures c.push-3.ensures c.push-4.ensures c.push-5.ensures c.push-6.ensures c.push-7.ensures c.push-8.ensures c.push-9.ensures c.push-10.ensures
      (c.as_bytes.ensures.value ∙ c.format.ensures.text) (c.as_bytes-2.ensures.value ∙ c.format-2.ensures.text) (c.as_bytes-3.ensures.value ∙ c.format-3.ensures.text) (c.as_bytes-4.ensures.value ∙ c.format-4.ensures.text)
      (c.as_bytes-5.ensures.value ∙ c.format-5.ensures.text ∙ ap signed_decimal (to_z-of_z _ c.args.sum c.ranges.sum)),
)
