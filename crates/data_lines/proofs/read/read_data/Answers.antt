use Rattle.std.proofs.Common.{arith}
use Rattle.triplet_text.proofs.LineSteps.{lines_cut, fewer_left}
use Rattle.triplet_text.proofs.SaidLines.{none_said, one_more}
use Rattle.data_lines.specs.DataLines.{IsDataLine}
use Rattle.data_lines.proofs.Faults.{fault_found}
use Rattle.data_lines.proofs.read.read_data.Goals as goal

pub loop-rest-init : goal.loop-rest-init
loop-rest-init g c = record { read = rw c.new-values.ensures.items (none_said (IsDataLine g.D.Datum.is) c.args.first _); count = omega arith }

pub returns-in-Err-clause-fault : goal.returns-in-Err-clause-fault
returns-in-Err-clause-fault g c =
    let e = lines_cut c.cut_line.result.1 c.in-Some.text.now c.cut_line.result.0.now c.cut_line.ensures.lines in
    let read = rw (c.in-Some.is, e) at c.loop-rest.invariant.read in
    fault_found g.D.Datum.is _ _ _ _ _ _ _ read c.in-Err.ensures.fault

pub loop-rest-preserved : goal.loop-rest-preserved
loop-rest-preserved g c =
    let e = lines_cut c.cut_line.result.1 c.in-Some.text.now c.cut_line.result.0.now c.cut_line.ensures.lines in
    let read = rw (c.in-Some.is, e) at c.loop-rest.invariant.read in
    let count = rw c.in-Some.is at c.loop-rest.invariant.count in
    record {
      read = one_more (IsDataLine g.D.Datum.is) c.args.first _ _ _ _ _ _ read c.in_default-take_line.ensures.written;
      count = omega (arith, fewer_left c.cut_line.result.1 c.in-Some.text.now c.cut_line.result.0.now c.cut_line.ensures.shorter, count);
    }
