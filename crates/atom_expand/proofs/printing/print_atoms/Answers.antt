use Rattle.std.proofs.Common.{◌+◌, ◌≤◌, Err, ap, ◌∙◌, drop, length, arith}
use Rattle.std.proofs.lemmas.Result.{err_from_is_err_and}
use Rattle.page_print.specs.Lines.{AreLines}
use Rattle.page_print.proofs.Gathering.{one_part, stopped, gathered_all, printed, prints_stopped}
use Rattle.atom_expand.specs.Sites.{site_in}
use Rattle.atom_expand.specs.Printing.{IsEntryText, IsAtomText, numbered, IsAtomsText}
use Rattle.atom_expand.proofs.SiteTexts.{site_before, some_text, none_left}
use Rattle.atom_expand.proofs.printing.print_atoms.Goals as goal

pub returns-in_err-put_site : goal.returns-in_err-put_site
returns-in_err-put_site g c =
    let p = err_from_is_err_and c.from_residual.result c.from_residual.ensures.1 in
    let sites = c.args.atoms.now in
    let entries = c.args.expansion.now in
    let k = c.loop-k.k in
    let after = numbered (k + 1 + 1) (drop (k + 1) sites) (drop (k + 1) entries) in
    rw (p.1 ∙ ap Err p.2)
    (prints_stopped g.K.Sink.seen (IsAtomsText sites entries) c.args.sink.now c.new-page.result c.new-page.ensures c.put_site.new.sink c.put_site.new.page _
    (stopped g.K.Sink.seen (IsAtomsText sites entries) c.args.sink.now c.new-page.result (AreLines IsAtomText (numbered (k + 1) (drop k sites) (drop k entries))) c.loop-k.sink c.loop-k.page c.loop-k.invariant
    (AreLines IsAtomText after) (IsEntryText (k + 1) c.get-label.result.label c.entry.result.now) c.put_site.new.sink c.put_site.new.page
    (site_before sites entries k (k + 1) (site_in c.get-label.result) c.entry.result.now c.get-label.ensures c.entry.ensures.value) _ (some_text after) c.in_err-put_site.ensures))

pub loop-k-preserved : goal.loop-k-preserved
loop-k-preserved g c =
    let sites = c.args.atoms.now in
    let entries = c.args.expansion.now in
    let k = c.loop-k.k in
    one_part g.K.Sink.seen (IsAtomsText sites entries) c.args.sink.now c.new-page.result (AreLines IsAtomText (numbered (k + 1) (drop k sites) (drop k entries))) c.loop-k.sink c.loop-k.page c.loop-k.invariant
    (AreLines IsAtomText (numbered (k + 1 + 1) (drop (k + 1) sites) (drop (k + 1) entries))) (IsEntryText (k + 1) c.get-label.result.label c.entry.result.now) c.put_site.new.sink c.put_site.new.page
    (site_before sites entries k (k + 1) (site_in c.get-label.result) c.entry.result.now c.get-label.ensures c.entry.ensures.value) c.in_ok-put_site.ensures

pub returns : goal.returns
returns g c =
    let sites = c.args.atoms.now in
    let entries = c.args.expansion.now in
    let k = c.loop-k.k in
    let end : length sites ≤ k = omega (arith, c.loop-k-test.false, c.len-k-end.ensures.value) in
    printed g.K.Sink.seen (IsAtomsText sites entries) c.args.sink.now c.new-page.result c.new-page.ensures c.loop-k.sink c.put_page.new.sink c.loop-k.page c.put_page.result
    (gathered_all g.K.Sink.seen (IsAtomsText sites entries) c.args.sink.now c.new-page.result (AreLines IsAtomText (numbered (k + 1) (drop k sites) (drop k entries))) c.loop-k.sink c.loop-k.page c.loop-k.invariant (none_left sites entries k (k + 1) end)) c.put_page.ensures
