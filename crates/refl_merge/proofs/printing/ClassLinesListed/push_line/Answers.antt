use Rattle.page_print.proofs.Places.{adds_text}
use Rattle.refl_merge.specs.Texts.{class_text}
use Rattle.refl_merge.proofs.printing.ClassLinesListed.push_line.Goals as goal

pub returns : goal.returns
returns c = adds_text class_text c.args.self.now.merged.now c.args.at c.get.result c.args.page.now c.push_class.new.page c.get.ensures c.push_class.ensures
