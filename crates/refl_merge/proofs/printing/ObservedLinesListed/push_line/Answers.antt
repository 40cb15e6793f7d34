use Rattle.page_print.proofs.Places.{adds_text}
use Rattle.refl_merge.specs.Texts.{observed_text}
use Rattle.refl_merge.proofs.printing.ObservedLinesListed.push_line.Goals as goal

pub returns : goal.returns
returns c = adds_text observed_text c.args.self.now.merged.now c.args.at c.get.result c.args.page.now c.push_observed.new.page c.get.ensures c.push_observed.ensures
