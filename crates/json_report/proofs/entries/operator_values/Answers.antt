use Rattle.json_report.specs.Report.{operator_entry}
use Rattle.json_report.proofs.Written.{one_pushed}
use Rattle.json_report.proofs.entries.operator_values.Goals as goal

pub loop-i-preserved : goal.loop-i-preserved
loop-i-preserved c = one_pushed operator_entry c.args.group.now c.loop-i.i c.op.result c.loop-i.values.items c.push.new.list.items c.in_ok-value.value c.op.ensures.value c.loop-i.invariant c.in_ok-value.ensures c.in_ok-push.ensures.ok
