use Rattle.std.proofs.Common.{◌∙◌, refl}
use Rattle.table_print.specs.Grids.{orbit_text}
use Rattle.table_print.proofs.GridTexts.{orbit_pushed}
use Rattle.table_print.proofs.grids.push_orbit.Goals as goal

pub returns : goal.returns
returns c = (
  orbit_text c.args.line.now,
  refl,
  orbit_pushed _ _ _ _ _ _ _ _ _ _ _ _ _ _ _ _ _ c.push.ensures c.push-2.ensures c.push-3.ensures c.push-4.ensures c.push-5.ensures c.push-6.ensures c.push-7.ensures c.push-8.ensures
      (c.as_bytes.ensures.value ∙ c.format.ensures.text) (c.as_bytes-2.ensures.value ∙ c.format-2.ensures.text) (c.as_bytes-3.ensures.value ∙ c.format-3.ensures.text) (c.as_bytes-4.ensures.value ∙ c.format-4.ensures.text),
)
