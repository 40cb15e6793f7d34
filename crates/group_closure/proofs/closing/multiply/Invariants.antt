use Rattle.std.proofs.Common.{◌≡◌, length, vec_capacity}
use Rattle.group_closure.specs.declared.TheConstants.{MAX_OPERATORS}
use Rattle.group_closure.specs.Making.{IsUnderWay}
use Rattle.group_closure.specs.Steps.{Extends}
use Rattle.group_closure.proofs.Origins.{IsRowUpTo}
use Rattle.group_closure.proofs.closing.multiply.Given as goal

abbrev pub invariant-loop-k : goal.invariant-loop-k
invariant-loop-k l = record {
  state : IsUnderWay l.generators l.members.items l.origins.items l.buckets;
  extends : Extends l.initial.members.items l.members.items;
  capacity : vec_capacity l.members ≡ vec_capacity l.initial.members;
  capacity_origins : vec_capacity l.origins ≡ vec_capacity l.initial.origins;
  size : length l.row ≡ MAX_OPERATORS;
  row : IsRowUpTo l.generators l.member l.members.items l.row l.k;
}
