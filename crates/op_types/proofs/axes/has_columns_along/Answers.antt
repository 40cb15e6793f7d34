use Rattle.std.proofs.Common.{sym, subst, ◌∙◌}
use Rattle.std.proofs.lemmas.Bool.{false≢true}
use Rattle.exact_ops.specs.Fields.{matrix_in, column_in}
use Rattle.op_types.specs.Vector.{AreParallel}
use Rattle.op_types.proofs.Lines.{x_image, y_image, z_image, image_column, each_image, parallel_to}
use Rattle.op_types.proofs.axes.has_columns_along.Goals as goal

pub returns-then-not-are_parallel : goal.returns-then-not-are_parallel
returns-then-not-are_parallel c =
    let m = matrix_in c.args.m.now in
    (λ t. absurd (false≢true t), λ h. sym c.if-not-are_parallel.true ∙ c.are_parallel.ensures.1 (parallel_to m (column_in c.args.along.now) _ (image_column m _ _ c.x_column.ensures (x_image m)) h))

pub returns-then-not-are_parallel-2 : goal.returns-then-not-are_parallel-2
returns-then-not-are_parallel-2 c =
    let m = matrix_in c.args.m.now in
    (λ t. absurd (false≢true t), λ h. sym c.if-not-are_parallel-2.true ∙ c.are_parallel-2.ensures.1 (parallel_to m (column_in c.args.along.now) _ (image_column m _ _ c.y_column.ensures (y_image m)) h))

pub returns : goal.returns
returns c =
    let m = matrix_in c.args.m.now in
    let a = column_in c.args.along.now in
    let x = subst (AreParallel a) c.x_column.ensures (c.are_parallel.ensures.0 c.if-not-are_parallel.false) in
    let y = subst (AreParallel a) c.y_column.ensures (c.are_parallel-2.ensures.0 c.if-not-are_parallel-2.false) in
    (λ t. each_image m a x y (subst (AreParallel a) c.z_column.ensures (c.are_parallel-3.ensures.0 t)), λ h. c.are_parallel-3.ensures.1 (parallel_to m a _ (image_column m _ _ c.z_column.ensures (z_image m)) h))
