use Rattle.std.proofs.Common.{◌*◌, sym, subst, arith, refl}
use Rattle.lattice_algebra.specs.Matrix.{scaled}
use Rattle.lattice_algebra.specs.Operator.{HasEntriesWithin}
use Rattle.lattice_algebra.proofs.Powers.{within-opposite, within-+ᵐ}
use Rattle.exact_ops.specs.Fields.{matrix_in}
use Rattle.group_closure.specs.declared.TheConstants.{MAX_OPERATORS}
use Rattle.affine_sets.proofs.KeySizes.{rows_wider}
use Rattle.wyckoff_rows.proofs.SpanningColumns.{diagonal_size, rest_made}
use Rattle.wyckoff_rows.proofs.spans.rest_of.Goals as goal

pub sum-requires-clause-left : goal.sum-requires-clause-left
sum-requires-clause-left c = rows_wider MAX_OPERATORS 2304 (matrix_in c.diagonal.result) (omega arith) (diagonal_size c.from-n.result c.args.over (matrix_in c.diagonal.result) c.from-n.ensures c.requires.few c.diagonal.ensures)

pub sum-requires-clause-right : goal.sum-requires-clause-right
sum-requires-clause-right c =
    let m = matrix_in c.args.m.now in
    subst (HasEntriesWithin 2304) (sym c.multiple.ensures) (rows_wider (2 * MAX_OPERATORS) 2304 (scaled _ m) (omega arith) (within-opposite (2 * MAX_OPERATORS) m c.requires.within))

pub returns-clause-value : goal.returns-clause-value
returns-clause-value c = rest_made c.from-n.result c.args.over (matrix_in c.diagonal.result) c.from-n.ensures c.requires.few c.diagonal.ensures (matrix_in c.args.m.now) (matrix_in c.multiple.result) (matrix_in c.sum.result) c.multiple.ensures c.sum.ensures

pub returns-clause-size : goal.returns-clause-size
returns-clause-size c =
    let m = matrix_in c.args.m.now in
    let opposite = subst (HasEntriesWithin (2 * MAX_OPERATORS)) (sym c.multiple.ensures) (within-opposite (2 * MAX_OPERATORS) m c.requires.within) in
    let size = diagonal_size c.from-n.result c.args.over (matrix_in c.diagonal.result) c.from-n.ensures c.requires.few c.diagonal.ensures in
    subst (HasEntriesWithin (3 * MAX_OPERATORS)) (sym c.sum.ensures) (within-+ᵐ MAX_OPERATORS (2 * MAX_OPERATORS) (3 * MAX_OPERATORS) (matrix_in c.diagonal.result) (matrix_in c.multiple.result) size opposite refl)
