use Rattle.std.proofs.Common.{◌≡◌, ◌-◌, vec_len, vec_capacity}
use Rattle.group_closure.specs.declared.TheConstants.{MAX_OPERATORS}
use Rattle.group_closure.specs.Making.{IsUnderWay}
use Rattle.group_closure.specs.Steps.{Extends}
use Rattle.group_closure.specs.Origins.{AreProducts}
use Rattle.group_closure.proofs.closing.generate.Given as goal

abbrev pub invariant-loop-done : goal.invariant-loop-done
invariant-loop-done l = record {
  state : IsUnderWay l.generators l.members.items l.origins.items l.buckets;
  extends : Extends l.initial.members.items l.members.items;
  products : AreProducts l.generators l.members.items l.products.items;
  count : vec_len l.products ≡ l.done;
  capacity : vec_capacity l.members ≡ vec_capacity l.initial.members;
  capacity_origins : vec_capacity l.origins ≡ vec_capacity l.initial.origins;
  capacity_products : vec_capacity l.products ≡ vec_capacity l.initial.products;
}

abbrev pub decreases-loop-done : goal.decreases-loop-done
decreases-loop-done l = MAX_OPERATORS - l.done
