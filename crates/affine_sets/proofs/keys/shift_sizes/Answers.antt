use Rattle.exact_ops.specs.Fields.{matrix_in}
use Rattle.affine_sets.proofs.Held.{rows_below}
use Rattle.affine_sets.proofs.EnoughShifts.{AreBeside, all_passed, sizes_beside, enough_beside}
use Rattle.affine_sets.proofs.keys.shift_sizes.Goals as goal
use Rattle.affine_sets.proofs.keys.shift_sizes.Goals.{After-size_beside-2}

found : (c : After-size_beside-2) → AreBeside (matrix_in c.args.m.now) c.args.over c.column_sizes-whole.result c.size_beside.result c.size_beside-2.result c.size_beside-z_beside_x.result
found c =
    let m = matrix_in c.args.m.now in
    all_passed m c.args.over c.column_sizes-whole.result c.size_beside.result c.size_beside-2.result c.size_beside-z_beside_x.result (rows_below c.args.over m c.requires.few c.requires.within) c.size_beside.ensures.value c.size_beside-z_beside_x.ensures.value c.size_beside-2.ensures.value

pub returns-clause-sizes : goal.returns-clause-sizes
returns-clause-sizes c = sizes_beside (matrix_in c.args.m.now) c.args.over c.column_sizes-whole.result c.size_beside.result c.size_beside-2.result c.size_beside-z_beside_x.result c.column_sizes-whole.ensures.sizes (found c)

pub returns-clause-enough : goal.returns-clause-enough
returns-clause-enough c = enough_beside (matrix_in c.args.m.now) c.args.over c.column_sizes-whole.result c.size_beside.result c.size_beside-2.result c.size_beside-z_beside_x.result c.column_sizes-whole.ensures.sizes c.column_sizes-whole.ensures.whole (found c)
