use Rattle.std.proofs.Common.{◌-◌, length, rules, is_lt}
use Rattle.std.proofs.lemmas.List.Sorted.{IsPermutation-put_mid, ranks_by, answers_always}
use Rattle.lattice_algebra.specs.Operator.{Operator}
use Rattle.group_closure.specs.Order.{operator_cmp}
use Rattle.group_closure.proofs.Ordered.{operator_cmp_total, sorted_rest}
use Rattle.group_closure.proofs.order.sort_after_first.Goals as goal

pub returns-clause-permutation : goal.returns-clause-permutation
returns-clause-permutation c = IsPermutation-put_mid 1 (length c.args.ops.now - 1) c.args.ops.now c.sort_unstable_by.new.self c.sort_unstable_by.ensures.permutation

pub returns-clause-sorted : goal.returns-clause-sorted
returns-clause-sorted c =
    sorted_rest c.args.ops.now c.sort_unstable_by.new.self c.requires
    (c.sort_unstable_by.ensures.sorted (λ f g. is_lt (operator_cmp f g)) (ranks_by operator_cmp_total (λ (f : Operator). f)) (answers_always _ _ _ (λ f a r q k. search rules)))
