use Rattle.std.proofs.Common.{refl}
use Rattle.page_print.proofs.Gathering.{piece_printed}
use Rattle.table_print.specs.Classes.{IsIndexText}
use Rattle.table_print.proofs.classes.print_index.Goals as goal

pub returns : goal.returns
returns g c =
    let added = c.push_class.ensures in
    piece_printed g.K.Sink.seen (IsIndexText c.args.pairs c.args.group.now c.args.index.now) c.args.sink.now c.new-page.result c.new-page.ensures c.put_page.new.sink c.push_class.new.page c.put_page.result (
      added.0,
      record {
        line = record { index = c.args.index.now; size = c.class_size.result; fixers = c.fixers.result; mark = c.mark.result };
        index = refl;
        is_line = record { size = c.class_size.ensures; fixers = c.fixers.ensures; mark = c.mark.ensures };
        whole = added.1;
      },
      added.2,
    ) c.put_page.ensures
