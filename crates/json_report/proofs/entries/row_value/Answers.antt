use Rattle.std.proofs.Common.{◌≡◌, ◌∙◌, Some, length, sym, subst}
use Rattle.std.proofs.lemmas.Result.{IfOk-weaker}
use Rattle.space_groups.specs.Rows.{Row}
use Rattle.serde_json.specs.View.{view}
use Rattle.triplet_text.specs.Printing.{affine_text}
use Rattle.table_print.specs.Rows.{numbers_of_key}
use Rattle.table_print.specs.Params.{form_text}
use Rattle.table_print.proofs.RowSizes.{printable_at}
use Rattle.wyckoff_rows.specs.Shown.{row_in}
use Rattle.json_report.specs.Report.{row_entry}
use Rattle.json_report.specs.Values.{IsWrittenAs}
use Rattle.json_report.proofs.PlainTexts.{printable_plain}
use Rattle.json_report.proofs.Written.{told_text, told_form, row_written}
use Rattle.json_report.proofs.entries.row_value.Goals as goal

same_row : (r s : Row) → Some r ≡ Some s → r ≡ s
same_row r s e = cc

pub returns : goal.returns
returns c = IfOk-weaker c.row_object.result _ _ (λ v h. λ form row gives is.
    let n = length c.args.group.now in
    let shown = row_in c.get.result in
    let text = affine_text n (numbers_of_key shown.key) in
    let printable = printable_at c.args.group.now c.len.ensures.group c.args.rows.now c.requires.list c.args.k shown c.get.ensures in
    let f = told_form c.new-page.result c.push_row_form.new.page c.bytes.result.now (form_text (form shown.key)) _ c.new-page.ensures (c.push_row_form.ensures.text form shown gives c.get.ensures) c.push_row_form.ensures.kept c.bytes.ensures.text c.in_ok-form.ensures in
    let t = told_text c.bytes-2.result.now text _ (c.bytes-2.ensures.text ∙ c.row_text.ensures shown c.get.ensures) (printable_plain n (numbers_of_key shown.key) printable) c.in_ok-text.ensures in
    subst (λ (r : Row). IsWrittenAs (row_entry n form r) (view v)) (same_row shown row (sym c.get.ensures ∙ is)) (row_written (view v) shown.mult _ _ _ _ h f t)) c.row_object.ensures
