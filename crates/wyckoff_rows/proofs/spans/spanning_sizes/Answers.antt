use Rattle.std.proofs.Common.{◌∙◌, ◌*◌, pos, w64, of_z, ap, arith}
use Rattle.exact_ops.specs.Fields.{matrix_in}
use Rattle.exact_ops.specs.declared.TheConstants.{MAX_ENTRY}
use Rattle.group_closure.specs.declared.TheConstants.{MAX_OPERATORS}
use Rattle.affine_sets.proofs.KeySizes.{rows_wider}
use Rattle.wyckoff_rows.proofs.SpanningColumns.{taken_enough, taken_whole, taken_few, all_enough, all_few}
use Rattle.wyckoff_rows.proofs.spans.spanning_sizes.Goals as goal

pub determinant-requires : goal.determinant-requires
determinant-requires c = rows_wider (3 * MAX_OPERATORS) MAX_ENTRY (matrix_in c.with_units.result) (omega arith) c.with_units.ensures.size

pub returns-then-determinant-ne0-clause-few : goal.returns-then-determinant-ne0-clause-few
returns-then-determinant-ne0-clause-few c = taken_few (matrix_in c.args.m.now) c.column_sizes-q.result c.taken_sizes.result _ c.taken_sizes.ensures.x c.taken_sizes.ensures.y c.taken_sizes.ensures.z c.column_sizes-q.ensures.sizes

pub returns-then-determinant-ne0-clause-whole : goal.returns-then-determinant-ne0-clause-whole
returns-then-determinant-ne0-clause-whole c = taken_whole (matrix_in c.args.m.now) c.column_sizes-q.result c.taken_sizes.result _ c.taken_sizes.ensures.x c.taken_sizes.ensures.y c.taken_sizes.ensures.z c.args.over c.column_sizes-q.ensures.whole

pub returns-then-determinant-ne0-clause-enough : goal.returns-then-determinant-ne0-clause-enough
returns-then-determinant-ne0-clause-enough c =
    taken_enough (matrix_in c.args.m.now) c.column_sizes-q.result c.taken_sizes.result _ c.taken_sizes.ensures.x c.taken_sizes.ensures.y c.taken_sizes.ensures.z (pos c.args.over) (matrix_in c.with_units.result) (matrix_in c.rest_of-rest.result)
    c.requires.idempotent c.with_units.ensures.value c.rest_of-rest.ensures.value (λ e. c.if-determinant-ne0.true (ap (of_z w64) (c.determinant.ensures.value ∙ e))) c.column_sizes-q.ensures.sizes

pub returns-clause-few : goal.returns-clause-few
returns-clause-few c = all_few c.column_sizes-q.result c.column_sizes-q.ensures.sizes

pub returns-clause-enough : goal.returns-clause-enough
returns-clause-enough c = all_enough (matrix_in c.args.m.now) c.column_sizes-q.result c.column_sizes-q.ensures.sizes
