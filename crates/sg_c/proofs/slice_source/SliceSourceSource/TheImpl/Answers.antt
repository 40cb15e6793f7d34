use Rattle.std.proofs.Common.{ℕ, Result, Ok, Err, OnErr, OnOk, IsOk, arith, refl}
use Rattle.sg_io.specs.declared.source.Failed.{Failed}
use Rattle.sg_c.proofs.slice_source.SliceSourceSource.TheImpl.Goals as goal

no_fault : (A : Type 0) (result : Result ℕ Failed) → IsOk result → OnErr result A
no_fault A (Ok count) ok = tt
no_fault A (Err fault) ok = cc

always : {A : Type 0} (result : Result ℕ Failed) → A → OnOk result A
always (Ok count) a = a
always (Err fault) a = tt

pub read-tells : goal.read-tells
read-tells g c = record {
  bound = c.ensures.bound;
  bytes = c.ensures.bytes;
  faults_later = omega arith;
  failed = no_fault _ c.result c.ensures.never_fails;
  unfailed = always c.result refl;
}
