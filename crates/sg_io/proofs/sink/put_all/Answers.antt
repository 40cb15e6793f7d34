use Rattle.std.proofs.Common.{rules}
use Rattle.std.proofs.lemmas.Result.{err_from_is_err_and}
use Rattle.sg_io.proofs.Told.{front_put, put_more, put_within}
use Rattle.sg_io.proofs.sink.put_all.Goals as goal

pub returns-in_err-put-clause-err : goal.returns-in_err-put-clause-err
returns-in_err-put-clause-err g c =
    let p = err_from_is_err_and c.from_residual.result c.from_residual.ensures.1 in
    rw p.1 (front_put _ _ _ c.loop-put.put c.args.bytes.now c.loop-put.invariant.put c.in_err-put.ensures.bytes)

pub loop-put-preserved : goal.loop-put-preserved
loop-put-preserved g c = record {
  put = put_more _ _ _ c.loop-put.put c.in_ok-put.field-0 c.args.bytes.now c.loop-put.invariant.within c.in_ok-put.ensures.bound c.loop-put.invariant.put c.in_ok-put.ensures.bytes;
  unfailed = search rules;
  unwanted = search rules;
  within = put_within c.loop-put.put c.in_ok-put.field-0 c.args.bytes.now c.loop-put.invariant.within c.in_ok-put.ensures.bound;
}
