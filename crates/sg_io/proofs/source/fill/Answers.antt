use Rattle.std.proofs.Common.{◌-◌, length, take, arith}
use Rattle.std.proofs.KnownBytes.{Consumes-kept}
use Rattle.std.proofs.lemmas.List.{length-take-le}
use Rattle.std.proofs.lemmas.Result.{err_from_is_err_and}
use Rattle.sg_io.proofs.Told.{filled_more, filled_within}
use borrow.Rule.Slice.PartMut.{same_len_mid}
use Rattle.sg_io.proofs.source.fill.Goals as goal

pub returns-in_err-count-clause-taken : goal.returns-in_err-count-clause-taken
returns-in_err-count-clause-taken g c =
    let p = err_from_is_err_and c.from_residual.result c.from_residual.ensures.1 in
    rw p.1 (take c.loop-filled.filled c.loop-filled.buf, Consumes-kept _ _ _ _ c.loop-filled.invariant.taken c.in_err-count.ensures.bytes, omega (arith, length-take-le c.loop-filled.filled c.loop-filled.buf c.loop-filled.invariant.within, same_len_mid c.loop-filled.filled (length c.loop-filled.buf - c.loop-filled.filled) c.loop-filled.buf c.read.new.buf c.read.auto.buf))

pub loop-filled-preserved : goal.loop-filled-preserved
loop-filled-preserved g c = record {
  taken = filled_more _ _ _ c.loop-filled.filled c.in_ok-count.count c.loop-filled.buf c.read.new.buf c.loop-filled.invariant.within c.in_ok-count.ensures.bound.0 c.loop-filled.invariant.taken c.in_ok-count.ensures.bytes.0;
  unfailed = cc (c.in_ok-count.ensures.unfailed, c.loop-filled.invariant.unfailed);
  within = rw (same_len_mid c.loop-filled.filled (length c.loop-filled.buf - c.loop-filled.filled) c.loop-filled.buf c.read.new.buf c.read.auto.buf) (filled_within c.loop-filled.filled c.in_ok-count.count c.loop-filled.buf c.read.new.buf c.loop-filled.invariant.within c.read.auto.buf c.in_ok-count.ensures.bound.0);
}
