use Rattle.std.proofs.Common.{map, take}
use Rattle.serde_json.specs.View.{view}
use Rattle.json_report.specs.Report.{operator_entry}
use Rattle.json_report.specs.Values.{AreWrittenAs}
use Rattle.json_report.proofs.entries.operator_values.Given as goal

abbrev pub invariant-loop-i : goal.invariant-loop-i
invariant-loop-i l = AreWrittenAs operator_entry (take l.i l.group) (map view l.values.items)
