use Rattle.std.proofs.Common.{◌≡◌, [], ◌∷◌, ◌++◌, vec_len, vec_capacity}
use Rattle.group_closure.specs.Making.{IsUnderWay}
use Rattle.group_closure.specs.Steps.{Extends}
use Rattle.group_closure.proofs.Origins.{AreWidened}
use Rattle.group_closure.proofs.closing.widen.Given as goal

abbrev pub invariant-loop-k : goal.invariant-loop-k
invariant-loop-k l = record {
  state : IsUnderWay (l.generators ++ l.op ∷ []) l.members.items l.origins.items l.buckets;
  extends : Extends l.initial.members.items l.members.items;
  products : AreWidened l.generators l.members.items l.op l.products.items l.k;
  count : vec_len l.products ≡ vec_len l.initial.products;
  capacity : vec_capacity l.members ≡ vec_capacity l.initial.members;
  capacity_origins : vec_capacity l.origins ≡ vec_capacity l.initial.origins;
  capacity_products : vec_capacity l.products ≡ vec_capacity l.initial.products;
}
