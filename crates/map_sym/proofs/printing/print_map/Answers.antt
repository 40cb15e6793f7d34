use Rattle.std.proofs.Common.{Err, w64, FitsSigned, ap, subst, rules, ◌∙◌}
use Rattle.std.proofs.lemmas.Int.{to_z-of_z}
use Rattle.std.proofs.lemmas.Result.{err_from_is_err_and}
use Rattle.page_print.specs.Lines.{AddsSuch}
use Rattle.page_print.specs.Parts.{Is}
use Rattle.map_sym.specs.MapTexts.{total_text}
use Rattle.map_sym.proofs.MapPages.{map_printed, map_stopped}
use Rattle.map_sym.proofs.printing.print_map.Goals as goal

pub returns-in_err-put_sums-clause-text : goal.returns-in_err-put_sums-clause-text
returns-in_err-put_sums-clause-text g c =
    let p = err_from_is_err_and c.from_residual.result c.from_residual.ensures.1 in
    rw (p.1 ∙ ap Err p.2) (map_stopped c.args.group.now c.args.map.now g.K.Sink.seen c.args.sink.now c.new-page.result c.new-page.ensures c.put_sums.new.sink c.put_sums.new.page _ c.in_err-put_sums.ensures.gathers)

pub returns-clause-text : goal.returns-clause-text
returns-clause-text g c =
    let fits : FitsSigned w64 c.total.result = search rules in
    let total = to_z-of_z w64 c.total.result fits ∙ c.total.ensures in
    map_printed c.args.group.now c.args.map.now g.K.Sink.seen c.args.sink.now c.new-page.result c.new-page.ensures c.put_sums.new.sink c.put_page.new.sink c.put_sums.new.page c.push_total.new.page c.put_page.result c.in_ok-put_sums.ensures.gathers
    (subst (λ z. AddsSuch (Is (total_text z)) c.put_sums.new.page c.push_total.new.page) total c.push_total.ensures) c.put_page.ensures
