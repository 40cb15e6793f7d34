use Rattle.std.proofs.Common.{◌*◌, pos}
use Rattle.exact_ops.specs.declared.TheConstants.{UNIT}
use Rattle.exact_ops.specs.Fields.{matrix_in}
use Rattle.affine_sets.specs.Fields.{offset_in}
use Rattle.wyckoff_rows.proofs.RangeEnds.{between_columns, ends_passed}
use Rattle.wyckoff_rows.proofs.ranges.ranges_between.Goals as goal

pub returns : goal.returns
returns c =
    let base = offset_in c.args.base.now in
    let d = matrix_in c.args.d.now in
    let u = pos (UNIT * c.args.over) in
    between_columns (record { xs = c.range_of.result; ys = c.range_of-2.result; zs = c.range_of-3.result }) base d u
    (ends_passed c.range_of.result u base.x d.xx d.xy d.xz c.requires.base.first c.requires.size.x c.range_of.ensures)
    (ends_passed c.range_of-2.result u base.y d.yx d.yy d.yz c.requires.base.second c.requires.size.y c.range_of-2.ensures)
    (ends_passed c.range_of-3.result u base.z d.zx d.zy d.zz c.requires.base.third c.requires.size.z c.range_of-3.ensures)
