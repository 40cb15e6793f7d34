use Rattle.std.proofs.Common.{arith}
use Rattle.triplet_text.proofs.LineSteps.{lines_cut, fewer_left}
use Rattle.triplet_text.proofs.SaidLines.{none_said, one_more}
use Rattle.data_lines.specs.DataLines.{IsDataLine}
use Rattle.map_sym.specs.ValueLines.{IsValueLine}
use Rattle.map_sym.proofs.PlainTaken.{fault_found}
use Rattle.map_sym.proofs.reading.read_lines.Goals as goal

pub loop-rest-init : goal.loop-rest-init
loop-rest-init c = record { read = rw c.new-values.ensures.items (none_said (IsDataLine IsValueLine) c.args.first _); count = omega arith }

pub returns-in-Err-clause-fault : goal.returns-in-Err-clause-fault
returns-in-Err-clause-fault c =
    let read = rw c.in-Some.is at c.loop-rest.invariant.read in
    fault_found c.args.first _ _ c.loop-rest.number _ c.in-Err.fault read c.in-Err.ensures.fault

pub loop-rest-preserved : goal.loop-rest-preserved
loop-rest-preserved c =
    let t = c.in-Ok.ensures.taken in
    let e = lines_cut c.in-Ok.more c.in-Some.text.now t.line t.cut in
    let read = rw (c.in-Some.is, e) at c.loop-rest.invariant.read in
    let count = rw c.in-Some.is at c.loop-rest.invariant.count in
    record {
      read = one_more (IsDataLine IsValueLine) c.args.first _ _ _ _ _ _ read t.written;
      count = omega (arith, fewer_left c.in-Ok.more c.in-Some.text.now t.line t.shorter, count);
    }
