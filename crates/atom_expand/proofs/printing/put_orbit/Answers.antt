use Rattle.std.proofs.Common.{◌≡◌, Err, ap, ◌∙◌, codes, length}
use Rattle.std.proofs.lemmas.Result.{err_from_is_err_and}
use Rattle.page_print.proofs.PartTexts.{two_gathered, first_stopped}
use Rattle.page_print.specs.Lines.{AreLines}
use Rattle.page_print.specs.Parts.{Is}
use Rattle.atom_expand.specs.Printing.{site_line, IsPointLine}
use Rattle.atom_expand.proofs.SiteTexts.{some_points}
use Rattle.atom_expand.proofs.printing.put_orbit.Goals as goal

pub returns-in_err-put_heading : goal.returns-in_err-put_heading
returns-in_err-put_heading g c =
    let p = err_from_is_err_and c.from_residual.result c.from_residual.ensures.1 in
    let points = c.args.orbit.now in
    let heading : c.bytes.result.now ≡ site_line (codes "site ") c.args.number c.args.label.now (length points) = c.bytes.ensures.text ∙ c.heading-heading.ensures.text ∙ ap (site_line (codes "site ") c.args.number c.args.label.now) c.len.ensures.value in
    rw (p.1 ∙ ap Err p.2)
    (first_stopped g.K.Sink.seen (Is (site_line (codes "site ") c.args.number c.args.label.now (length points))) (AreLines (IsPointLine c.args.number) points) c.args.sink.now c.put_heading.new.sink c.args.page.now c.put_heading.new.page
    (some_points c.args.number points) _ (rw heading at c.in_err-put_heading.ensures.gathers))

pub returns : goal.returns
returns g c =
    let points = c.args.orbit.now in
    let heading : c.bytes.result.now ≡ site_line (codes "site ") c.args.number c.args.label.now (length points) = c.bytes.ensures.text ∙ c.heading-heading.ensures.text ∙ ap (site_line (codes "site ") c.args.number c.args.label.now) c.len.ensures.value in
    two_gathered g.K.Sink.seen (Is (site_line (codes "site ") c.args.number c.args.label.now (length points))) (AreLines (IsPointLine c.args.number) points) c.args.sink.now c.put_heading.new.sink c.args.page.now c.put_heading.new.page c.put_points.new.sink c.put_points.new.page
    c.put_points.result (rw heading at c.in_ok-put_heading.ensures.gathers) c.put_points.ensures
