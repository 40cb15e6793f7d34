use Rattle.std.proofs.Common.{arith}
use Rattle.data_lines.proofs.DataLaws.{few_values}
use Rattle.refl_merge.proofs.reading.read_list.Goals as goal

pub invariant_of-result : goal.invariant_of-result
invariant_of-result c = let few = few_values c.args.bytes.now _ c.in_ok-lines.ensures.ok in omega (arith, few, c.requires)
