use Rattle.std.proofs.Common.{Err, Ok, ap, ◌∙◌, length}
use Rattle.std.proofs.lemmas.Result.{err_from_is_err_and}
use Rattle.page_print.proofs.Gathering.{printed, prints_stopped}
use Rattle.table_print.specs.Sample.{sample_heading, AreCountedLines, IsSampleText}
use Rattle.page_print.proofs.PartTexts.{after_heading}
use Rattle.table_print.proofs.sample.print_sample.Goals as goal

pub returns-in_err-put_counted : goal.returns-in_err-put_counted
returns-in_err-put_counted g c =
    let p = err_from_is_err_and c.from_residual.result c.from_residual.ensures.1 in
    let members = c.args.group.now in
    let rows = c.args.rows.now in
    let counts = c.args.counts.now in
    rw (p.1 ∙ ap Err p.2) (prints_stopped g.K.Sink.seen (IsSampleText c.args.number members rows counts) c.args.sink.now c.new-page.result c.new-page.ensures c.put_counted.new.sink c.put_counted.new.page _
    (after_heading g.K.Sink.seen (sample_heading c.args.number (length members)) (AreCountedLines members rows counts) c.args.sink.now c.put_counted.new.sink c.new-page.result c.push_heading.new.page c.put_counted.new.page _ c.push_heading.ensures c.in_err-put_counted.ensures))

pub returns : goal.returns
returns g c =
    let members = c.args.group.now in
    let rows = c.args.rows.now in
    let counts = c.args.counts.now in
    printed g.K.Sink.seen (IsSampleText c.args.number members rows counts) c.args.sink.now c.new-page.result c.new-page.ensures c.put_counted.new.sink c.put_page.new.sink c.put_counted.new.page c.put_page.result
    (after_heading g.K.Sink.seen (sample_heading c.args.number (length members)) (AreCountedLines members rows counts) c.args.sink.now c.put_counted.new.sink c.new-page.result c.push_heading.new.page c.put_counted.new.page (Ok tt) c.push_heading.ensures c.in_ok-put_counted.ensures) c.put_page.ensures
