use Rattle.std.proofs.Common.{◌++◌, ◌∙◌, ℕ, List, length, codes, map, ap}
use Rattle.exact_ops.specs.declared.TheConstants.{UNIT}
use Rattle.parameter_forms.proofs.SomeForm.{found_form}
use Rattle.serde_json.specs.View.{view}
use Rattle.table_print.proofs.FormTexts.{found_gives}
use Rattle.json_report.specs.Report.{entries, operator_entry, row_entry}
use Rattle.json_report.proofs.ReportTexts.{some_members}
use Rattle.json_report.proofs.Written.{array_written, report_written, report_ended}
use Rattle.json_report.proofs.report.written.Goals as goal

pub returns : goal.returns
returns c =
    let members = c.args.group.now in
    let rows = c.args.rows.now in
    let n = length members in
    let form = found_form UNIT n in
    let gives = found_gives n (some_members members c.len.ensures.group) in
    let shown = row_entry n form in
    let f = array_written operator_entry members (map view c.in_ok-operators.operators.items) c.in_ok-operators.ensures in
    let t = array_written shown rows (map view c.in_ok-shown.shown.items) (c.in_ok-shown.ensures form gives) in
    let whole = report_written (view c.in_ok-report.report) _ _ (entries operator_entry members) (entries shown rows) c.in_ok-report.ensures f t in
    record {
      form = form;
      gives = gives;
      whole = c.in_ok-push.ensures.items ∙ ap (λ (l : List ℕ). l ++ codes "\n") (c.in_ok-text.ensures.text whole.no_float ∙ whole.text_is) ∙ report_ended (entries operator_entry members) (entries shown rows);
    }
