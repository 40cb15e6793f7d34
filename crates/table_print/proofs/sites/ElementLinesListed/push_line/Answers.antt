use Rattle.std.proofs.Common.{refl}
use Rattle.page_print.proofs.Places.{adds_line}
use Rattle.table_print.specs.Sites.{IsElementLine}
use Rattle.table_print.proofs.sites.ElementLinesListed.push_line.Goals as goal

pub returns : goal.returns
returns c = adds_line IsElementLine c.args.self.now.site.now c.args.at _ c.args.page.now c.push_element.new.page c.get.ensures c.push_element.ensures (λ x m. (_, refl))
