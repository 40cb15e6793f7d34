use Rattle.std.proofs.Common.{◌≡◌, Err, ap, ◌∙◌, codes}
use Rattle.std.proofs.lemmas.Result.{err_from_is_err_and}
use Rattle.page_print.specs.Parts.{counted}
use Rattle.refl_merge.specs.Texts.{heading_text}
use Rattle.refl_merge.proofs.Pages.{classes_stopped, heading_stopped, observed_stopped, all_printed}
use Rattle.refl_merge.proofs.printing.print_merged.Goals as goal

pub returns-in_err-put_listed : goal.returns-in_err-put_listed
returns-in_err-put_listed g c =
    let p = err_from_is_err_and c.from_residual.result c.from_residual.ensures.1 in
    rw (p.1 ∙ ap Err p.2) (classes_stopped g.K.Sink.seen c.args.merged.now c.args.sink.now c.new-page.result c.new-page.ensures c.put_listed.new.sink c.put_listed.new.page _ c.in_err-put_listed.ensures)

pub returns-in_err-put_heading : goal.returns-in_err-put_heading
returns-in_err-put_heading g c =
    let p = err_from_is_err_and c.from_residual-in_err-put_heading.result c.from_residual-in_err-put_heading.ensures.1 in
    let heading : c.bytes.result.now ≡ heading_text c.args.merged.now = c.bytes.ensures.text ∙ c.counted-heading.ensures.text ∙ ap (counted (codes "observed absences ")) c.observed_absences.ensures in
    rw (p.1 ∙ ap Err p.2)
    (heading_stopped g.K.Sink.seen c.args.merged.now c.args.sink.now c.new-page.result c.new-page.ensures c.put_listed.new.sink c.put_listed.new.page c.in_ok-put_listed.ensures c.put_heading.new.sink c.put_heading.new.page _
    (rw heading at c.in_err-put_heading.ensures.gathers))

pub returns-in_err-put_listed-2 : goal.returns-in_err-put_listed-2
returns-in_err-put_listed-2 g c =
    let p = err_from_is_err_and c.from_residual-in_err-put_listed-2.result c.from_residual-in_err-put_listed-2.ensures.1 in
    let heading : c.bytes.result.now ≡ heading_text c.args.merged.now = c.bytes.ensures.text ∙ c.counted-heading.ensures.text ∙ ap (counted (codes "observed absences ")) c.observed_absences.ensures in
    rw (p.1 ∙ ap Err p.2)
    (observed_stopped g.K.Sink.seen c.args.merged.now c.args.sink.now c.new-page.result c.new-page.ensures c.put_listed.new.sink c.put_listed.new.page c.in_ok-put_listed.ensures c.put_heading.new.sink c.put_heading.new.page
    (rw heading at c.in_ok-put_heading.ensures.gathers) c.put_listed-2.new.sink c.put_listed-2.new.page _ c.in_err-put_listed-2.ensures)

pub returns : goal.returns
returns g c =
    let heading : c.bytes.result.now ≡ heading_text c.args.merged.now = c.bytes.ensures.text ∙ c.counted-heading.ensures.text ∙ ap (counted (codes "observed absences ")) c.observed_absences.ensures in
    all_printed g.K.Sink.seen c.args.merged.now c.args.sink.now c.new-page.result c.new-page.ensures c.put_listed.new.sink c.put_listed.new.page c.in_ok-put_listed.ensures c.put_heading.new.sink c.put_heading.new.page
    (rw heading at c.in_ok-put_heading.ensures.gathers) c.put_listed-2.new.sink c.put_page.new.sink c.put_listed-2.new.page c.put_page.result c.in_ok-put_listed-2.ensures c.put_page.ensures
