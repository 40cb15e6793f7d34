use Rattle.std.proofs.Common.{Err, ap, ◌∙◌, codes, length, refl}
use Rattle.std.proofs.lemmas.Result.{err_from_is_err_and}
use Rattle.page_print.proofs.LineTexts.{some_lines}
use Rattle.table_print.specs.Operators.{IsOperatorLine, AreOperatorLines}
use Rattle.page_print.specs.Parts.{Is, counted}
use Rattle.page_print.proofs.PartTexts.{two_gathered, first_stopped}
use Rattle.table_print.proofs.table.put_operators.Goals as goal

pub returns-in_err-put_heading : goal.returns-in_err-put_heading
returns-in_err-put_heading g c =
    let p = err_from_is_err_and c.from_residual.result c.from_residual.ensures.1 in
    let members = c.args.group.now in
    let heading = c.bytes.ensures.text ∙ c.counted-heading.ensures.text ∙ ap (counted (codes "operators ")) (c.from.ensures ∙ c.len.ensures.value) in
    rw (p.1 ∙ ap Err p.2) (first_stopped g.K.Sink.seen (Is (counted (codes "operators ") (length members))) (AreOperatorLines members) c.args.sink.now c.put_heading.new.sink c.args.page.now c.put_heading.new.page
    (some_lines IsOperatorLine members (λ f m. (_, refl))) _ (rw heading at c.in_err-put_heading.ensures.gathers))

pub returns : goal.returns
returns g c =
    let members = c.args.group.now in
    let heading = c.bytes.ensures.text ∙ c.counted-heading.ensures.text ∙ ap (counted (codes "operators ")) (c.from.ensures ∙ c.len.ensures.value) in
    two_gathered g.K.Sink.seen (Is (counted (codes "operators ") (length members))) (AreOperatorLines members) c.args.sink.now c.put_heading.new.sink c.args.page.now c.put_heading.new.page c.put_listed.new.sink c.put_listed.new.page c.put_listed.result
    (rw heading at c.in_ok-put_heading.ensures.gathers) c.put_listed.ensures
