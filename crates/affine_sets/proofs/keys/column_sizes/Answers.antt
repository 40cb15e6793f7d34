use Rattle.exact_ops.specs.Fields.{matrix_in}
use Rattle.affine_sets.proofs.ColumnSizes.{columns_whole, whole_kept}
use Rattle.affine_sets.proofs.keys.column_sizes.Goals as goal

pub returns-clause-whole : goal.returns-clause-whole
returns-clause-whole c =
    let m = matrix_in c.args.m.now in
    let n = c.args.over in
    let few = c.requires.few in
    let rx = c.requires.within.x in
    let ry = c.requires.within.y in
    let rz = c.requires.within.z in
    let qx = c.denominator.result in
    let qy = c.denominator-2.result in
    let qz = c.denominator-3.result in
    let x = c.denominator.ensures in
    let y = c.denominator-2.ensures in
    let z = c.denominator-3.ensures in
    columns_whole m (record { x = qx; y = qy; z = qz }) n (whole_kept m.xx qx n few rx.first x.first) (whole_kept m.xy qy n few rx.second y.first) (whole_kept m.xz qz n few rx.third z.first)
    (whole_kept m.yx qx n few ry.first x.second) (whole_kept m.yy qy n few ry.second y.second) (whole_kept m.yz qz n few ry.third z.second)
    (whole_kept m.zx qx n few rz.first x.third) (whole_kept m.zy qy n few rz.second y.third) (whole_kept m.zz qz n few rz.third z.third)
