use Rattle.std.proofs.Common.{map, take, length}
use Rattle.space_groups.specs.Keys.{Key}
use Rattle.parameter_forms.specs.Forms.{Form}
use Rattle.table_print.specs.Params.{GivesForms}
use Rattle.serde_json.specs.View.{view}
use Rattle.json_report.specs.Report.{row_entry}
use Rattle.json_report.specs.Values.{AreWrittenAs}
use Rattle.json_report.proofs.entries.row_values.Given as goal

abbrev pub invariant-loop-k : goal.invariant-loop-k
invariant-loop-k l = (form : Key → Form) → GivesForms (length l.group) form → AreWrittenAs (row_entry (length l.group) form) (take l.k l.rows) (map view l.values.items)
