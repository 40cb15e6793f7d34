use Rattle.std.proofs.Common.{◌*◌, arith}
use Rattle.exact_ops.specs.declared.TheConstants.{UNIT}
use Rattle.wyckoff_rows.proofs.RangeEnds.{quotients_between}
use Rattle.wyckoff_rows.proofs.ranges.range_between.Goals as goal

pub returns : goal.returns
returns c = quotients_between c.args.low c.args.high c.cells_in.result c.cells_in-2.result (UNIT * c.args.over) (omega (arith, c.requires.some)) c.requires.low c.requires.high c.cells_in.ensures c.cells_in-2.ensures
