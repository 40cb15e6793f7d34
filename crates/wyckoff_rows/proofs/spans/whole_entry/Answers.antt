use Rattle.std.proofs.Common.{◌≤◌, ◌*◌, ◌∙◌, pos, ◌*ℤ◌, unsigned_abs, ap, sym, subst}
use Rattle.group_closure.specs.declared.TheConstants.{MAX_OPERATORS}
use Rattle.wyckoff_rows.proofs.Columns.{quotient_found, multiple_within, passed_back, passed_fits}
use Rattle.wyckoff_rows.proofs.spans.whole_entry.Goals as goal

pub overflow_cast-result : goal.overflow_cast-result
overflow_cast-result c =
    let r = c.unwrap.result in
    let e = quotient_found c.args.a c.product_of-n.result c.from-d.result r c.args.q c.args.over c.requires.few c.requires.entry c.product_of-n.ensures.value c.product_of-n.ensures.size c.from-d.ensures (rw c.unwrap.ensures at c.exact_quotient.ensures.value) in
    passed_fits r (multiple_within c.args.a r c.args.q c.args.over c.requires.some c.requires.entry c.requires.number e)

pub returns-clause-value : goal.returns-clause-value
returns-clause-value c =
    let r = c.unwrap.result in
    let e = quotient_found c.args.a c.product_of-n.result c.from-d.result r c.args.q c.args.over c.requires.few c.requires.entry c.product_of-n.ensures.value c.product_of-n.ensures.size c.from-d.ensures (rw c.unwrap.ensures at c.exact_quotient.ensures.value) in
    e ∙ ap (λ v. pos c.args.over *ℤ v) (sym (passed_back r (multiple_within c.args.a r c.args.q c.args.over c.requires.some c.requires.entry c.requires.number e)))

pub returns-clause-size : goal.returns-clause-size
returns-clause-size c =
    let r = c.unwrap.result in
    let e = quotient_found c.args.a c.product_of-n.result c.from-d.result r c.args.q c.args.over c.requires.few c.requires.entry c.product_of-n.ensures.value c.product_of-n.ensures.size c.from-d.ensures (rw c.unwrap.ensures at c.exact_quotient.ensures.value) in
    let s = multiple_within c.args.a r c.args.q c.args.over c.requires.some c.requires.entry c.requires.number e in
    subst (λ v. unsigned_abs v ≤ 2 * MAX_OPERATORS) (sym (passed_back r s)) s
