use Rattle.std.proofs.Common.{◌≢◌, refl, sym, ap, subst, ◌∙◌}
use Rattle.std.proofs.lemmas.Bool.{false≢true}
use Rattle.lattice_algebra.specs.Matrix.{Matrix, matrix_of, column_of, origin}
use Rattle.exact_ops.specs.Fields.{matrix_in, column_in}
use Rattle.op_types.specs.Axis.{IsLine, IsAxis}
use Rattle.op_types.proofs.Members.{same_part, each_at}
use Rattle.op_types.proofs.SmallPowers.{small_proper}
use Rattle.op_types.proofs.FixedColumns.{reduced_axis, along_by, no_line_of_nothing, line_parallel}
use Rattle.op_types.proofs.axes.axis.Goals as goal

pub cycle_of-turn-requires : goal.cycle_of-turn-requires
cycle_of-turn-requires c = small_proper c.args.group.now c.op.result c.args.i _ _ c.op.ensures.group c.op.ensures.value (c.of-w.ensures ∙ ap matrix_of c.w.ensures.value) c.proper_part.ensures

pub returns-then-is_origin-clause-some : goal.returns-then-is_origin-clause-some
returns-then-is_origin-clause-some c =
    let turn = c.cycle_of-turn.ensures in
    each_at _ c.args.group.now c.args.i c.op.result c.op.ensures.value (λ p h.
    let same = same_part c.op.result _ (matrix_in c.proper_part.result) p (c.of-w.ensures ∙ ap matrix_of c.w.ensures.value) c.proper_part.ensures h in
    (λ t. absurd (false≢true t), λ l. absurd (no_line_of_nothing (matrix_in c.proper_part.result) (matrix_in c.cycle_of-turn.result.sum) _ turn.order turn.sum (c.some_column-along.ensures.origin (c.is_origin.ensures.0 c.if-is_origin.true)) (subst IsLine (sym same) l))))

pub returns-then-not-has_columns_along-clause-some : goal.returns-then-not-has_columns_along-clause-some
returns-then-not-has_columns_along-clause-some c =
    let turn = c.cycle_of-turn.ensures in
    each_at _ c.args.group.now c.args.i c.op.result c.op.ensures.value (λ p h.
    let same = same_part c.op.result _ (matrix_in c.proper_part.result) p (c.of-w.ensures ∙ ap matrix_of c.w.ensures.value) c.proper_part.ensures h in
    (λ t. absurd (false≢true t), λ l. sym c.if-not-has_columns_along.true ∙ c.has_columns_along.ensures.1 (line_parallel (matrix_in c.proper_part.result) (matrix_in c.cycle_of-turn.result.sum) _ turn.order turn.sum (subst IsLine (sym same) l) (column_in c.some_column-along.result) c.some_column-along.ensures.image)))

pub returns-clause-some : goal.returns-clause-some
returns-clause-some c =
    let turn = c.cycle_of-turn.ensures in
    let a = column_in c.some_column-along.result in
    let some : a ≢ origin = λ z. false≢true (sym c.if-is_origin.false ∙ c.is_origin.ensures.1 z) in
    let along = along_by (matrix_in c.proper_part.result) (matrix_in c.cycle_of-turn.result.sum) _ turn.order turn.sum a some c.some_column-along.ensures.image (c.has_columns_along.ensures.0 c.if-not-has_columns_along.false) in
    each_at _ c.args.group.now c.args.i c.op.result c.op.ensures.value (λ p h.
    let same = same_part c.op.result _ (matrix_in c.proper_part.result) p (c.of-w.ensures ∙ ap matrix_of c.w.ensures.value) c.proper_part.ensures h in
    (λ t. subst IsLine same (a, along), λ l. refl))

pub returns-clause-value : goal.returns-clause-value
returns-clause-value c =
    let turn = c.cycle_of-turn.ensures in
    let a = column_in c.some_column-along.result in
    let some : a ≢ origin = λ z. false≢true (sym c.if-is_origin.false ∙ c.is_origin.ensures.1 z) in
    let along = along_by (matrix_in c.proper_part.result) (matrix_in c.cycle_of-turn.result.sum) _ turn.order turn.sum a some c.some_column-along.ensures.image (c.has_columns_along.ensures.0 c.if-not-has_columns_along.false) in
    let r = c.reduced.ensures in
    each_at _ c.args.group.now c.args.i c.op.result c.op.ensures.value (λ p h.
    let same = same_part c.op.result _ (matrix_in c.proper_part.result) p (c.of-w.ensures ∙ ap matrix_of c.w.ensures.value) c.proper_part.ensures h in
    subst (λ (m : Matrix). IsAxis m (column_of c.numbers.result)) same
    (subst (IsAxis (matrix_in c.proper_part.result)) (sym (ap column_of c.numbers.ensures)) (reduced_axis (matrix_in c.proper_part.result) a (column_in c.reduced.result) r.same.0 along r.same.1 r.same.2 r.no_divisor r.directed)))
