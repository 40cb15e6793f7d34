use Rattle.std.proofs.Common.{◌≡◌, vec_capacity}
use Rattle.affine_sets.proofs.Leading.{IsLeading}
use Rattle.affine_sets.proofs.growth.put_next.Given as goal

abbrev pub invariant-loop-h : goal.invariant-loop-h
invariant-loop-h l = record {
  leading : IsLeading l.g l.old l.fn.firsts.items l.firsts.items l.fn.held l.held l.e l.r l.h-index;
  capacity : vec_capacity l.firsts ≡ vec_capacity l.fn.firsts;
}
