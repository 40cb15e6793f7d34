use Rattle.affine_sets.proofs.Putting.{IsPutting}
use Rattle.affine_sets.proofs.growth.put_block.Given as goal

abbrev pub invariant-loop-h : goal.invariant-loop-h
invariant-loop-h l = IsPutting l.g l.old l.fn.held l.held l.x l.h-index
