use Rattle.page_print.proofs.Gathering.{printed}
use Rattle.table_print.specs.Params.{IsParamsText}
use Rattle.table_print.proofs.params.print_params.Goals as goal

pub returns : goal.returns
returns g c =
    printed g.K.Sink.seen (IsParamsText c.args.g.now c.args.r.now) c.args.sink.now c.new-page.result c.new-page.ensures c.put_params.new.sink c.put_page.new.sink c.put_params.new.page c.put_page.result c.in_ok-put_params.ensures c.put_page.ensures
