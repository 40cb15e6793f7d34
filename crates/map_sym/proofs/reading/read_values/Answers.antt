use Rattle.std.proofs.Common.{arith}
use Rattle.data_lines.proofs.DataLaws.{few_values}
use Rattle.map_sym.proofs.reading.read_values.Goals as goal

pub overflow_cast-result : goal.overflow_cast-result
overflow_cast-result c = let few = few_values c.args.bytes.now c.in_ok-values.values.items c.in_ok-values.ensures.ok in omega (arith, few, c.requires, c.len-then-len-points.ensures)
