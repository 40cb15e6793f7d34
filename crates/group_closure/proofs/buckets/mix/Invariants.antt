use Rattle.std.proofs.Common.{◌≡◌, ◌<◌, take}
use Rattle.std.specs.List.{fold}
use Rattle.group_closure.specs.Buckets.{mixed}
use Rattle.group_closure.proofs.buckets.mix.Given as goal

abbrev pub invariant-loop-number : goal.invariant-loop-number
invariant-loop-number l = record {
  value : l.mix ≡ fold mixed l.seed (take l.number-index l.numbers);
  within : l.mix < 256;
}
