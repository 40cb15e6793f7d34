use Rattle.std.proofs.Common.{◌∙◌, ap, refl}
use Rattle.std.proofs.lemmas.Int.{to_z-of_z}
use Rattle.std.specs.Fmt.{signed_decimal}
use Rattle.map_sym.specs.MapTexts.{total_text}
use Rattle.map_sym.proofs.MapLines.{total_pushed}
use Rattle.map_sym.proofs.printing.push_total.Goals as goal

pub returns : goal.returns
returns c = (
  total_text c.args.total,
  refl,
  total_pushed _ _ _ _ _ _ c.push.ensures c.push-2.ensures c.push-3.ensures (c.as_bytes.ensures.value ∙ c.format.ensures.text ∙ ap signed_decimal (to_z-of_z _ c.args.total c.ranges.total)),
)
