use Rattle.std.proofs.Common.{◌≡◌, Err, ap, ap₂, ◌++◌, ◌∙◌, List, ℕ}
use Rattle.std.proofs.lemmas.Result.{err_from_is_err_and}
use Rattle.table_print.specs.Sites.{counts_text}
use Rattle.table_print.proofs.SiteTexts.{Counts}
use Rattle.table_print.proofs.SitePages.{stopped_in_elements, stopped_between, stopped_in_points, site_printed}
use Rattle.table_print.proofs.sites.print_site.Given.{Over}
use Rattle.table_print.proofs.sites.print_site.Goals.{After-push_counts}
use Rattle.table_print.proofs.sites.print_site.Goals as goal

counts : (g : Over) (c : After-push_counts g) → c.push_counts.new.page ≡ c.new-page.result ++ Counts c.args.site.now c.args.orbit.now
counts g c = c.push_counts.ensures.text ∙ ap (λ (t : List ℕ). c.new-page.result ++ t) (ap₂ counts_text c.len.ensures.value c.len-2.ensures.value)

pub returns-in_err-put_listed : goal.returns-in_err-put_listed
returns-in_err-put_listed g c =
    let p = err_from_is_err_and c.from_residual.result c.from_residual.ensures.1 in
    rw (p.1 ∙ ap Err p.2) (stopped_in_elements g.K.Sink.seen c.args.site.now c.args.orbit.now c.args.sink.now c.new-page.result c.new-page.ensures c.push_counts.new.page (counts g (goal.at.returns-in_err-put_listed g c).After-push_counts) c.put_listed.new.sink c.put_listed.new.page _ c.in_err-put_listed.ensures)

pub returns-in_err-make_room : goal.returns-in_err-make_room
returns-in_err-make_room g c =
    let p = err_from_is_err_and c.from_residual-in_err-make_room.result c.from_residual-in_err-make_room.ensures.1 in
    rw (p.1 ∙ ap Err p.2) (stopped_between g.K.Sink.seen c.args.site.now c.args.orbit.now c.args.sink.now c.new-page.result c.new-page.ensures c.push_counts.new.page (counts g (goal.at.returns-in_err-make_room g c).After-push_counts) c.put_listed.new.sink c.put_listed.new.page c.in_ok-put_listed.ensures
    c.make_room.new.sink c.make_room.new.page _ c.in_err-make_room.ensures.gathers)

pub returns-in_err-put_listed-2 : goal.returns-in_err-put_listed-2
returns-in_err-put_listed-2 g c =
    let p = err_from_is_err_and c.from_residual-in_err-put_listed-2.result c.from_residual-in_err-put_listed-2.ensures.1 in
    rw (p.1 ∙ ap Err p.2) (stopped_in_points g.K.Sink.seen c.args.site.now c.args.orbit.now c.args.sink.now c.new-page.result c.new-page.ensures c.push_counts.new.page (counts g (goal.at.returns-in_err-put_listed-2 g c).After-push_counts) c.put_listed.new.sink c.put_listed.new.page c.in_ok-put_listed.ensures
    c.make_room.new.sink c.make_room.new.page c.in_ok-make_room.ensures.gathers c.put_listed-2.new.sink c.put_listed-2.new.page _ c.in_err-put_listed-2.ensures)

pub returns : goal.returns
returns g c =
    site_printed g.K.Sink.seen c.args.site.now c.args.orbit.now c.args.sink.now c.new-page.result c.new-page.ensures c.push_counts.new.page (counts g (goal.at.returns g c).After-push_counts) c.put_listed.new.sink c.put_listed.new.page c.in_ok-put_listed.ensures
    c.make_room.new.sink c.make_room.new.page c.in_ok-make_room.ensures.gathers c.put_listed-2.new.sink c.put_page.new.sink c.put_listed-2.new.page c.put_page.result c.in_ok-put_listed-2.ensures c.put_page.ensures
