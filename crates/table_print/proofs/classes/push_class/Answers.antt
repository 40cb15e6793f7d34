use Rattle.std.proofs.Common.{◌∙◌, refl}
use Rattle.table_print.specs.Classes.{class_text}
use Rattle.page_print.proofs.Pushed.{four_pushed}
use Rattle.table_print.proofs.classes.push_class.Goals as goal

pub returns : goal.returns
returns c = (
  class_text c.args.line.now,
  refl,
  four_pushed _ _ _ _ _ _ _ _ _ _ _ _ _ _ _ c.push_index_of.ensures.text c.push.ensures c.push-2.ensures c.push-3.ensures c.push-4.ensures c.push-5.ensures c.push_mark.ensures.text c.push-6.ensures
      (c.as_bytes.ensures.value ∙ c.format.ensures.text) (c.as_bytes-2.ensures.value ∙ c.format-2.ensures.text),
)
