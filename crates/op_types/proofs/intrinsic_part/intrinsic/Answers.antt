use Rattle.std.proofs.Common.{ap, ◌∙◌}
use Rattle.lattice_algebra.specs.Matrix.{matrix_of, column_of}
use Rattle.exact_ops.specs.Fields.{column_in}
use Rattle.op_types.proofs.SmallPowers.{small_member}
use Rattle.op_types.proofs.Members.{each_at}
use Rattle.op_types.proofs.IntrinsicParts.{denominator, intrinsic_part, in_cell}
use Rattle.op_types.proofs.intrinsic_part.intrinsic.Goals as goal

pub cycle_of-turn-requires : goal.cycle_of-turn-requires
cycle_of-turn-requires c = small_member c.args.group.now c.op-op.result c.args.i _ c.op-op.ensures.group c.op-op.ensures.value (c.of.ensures ∙ ap matrix_of c.w.ensures.value)

pub image-requires-clause-vector : goal.image-requires-clause-vector
image-requires-clause-vector c = in_cell c.op-op.result (column_in c.of-2.result) c.t.ensures.narrow (c.of-2.ensures ∙ ap column_of c.t.ensures.value)

pub returns : goal.returns
returns c =
    each_at _ c.args.group.now c.args.i c.op-op.result c.op-op.ensures.value (intrinsic_part c.op-op.result _ _ _ _ c.cycle_of-turn.result.order _ (c.of.ensures ∙ ap matrix_of c.w.ensures.value) (c.of-2.ensures ∙ ap column_of c.t.ensures.value) c.cycle_of-turn.ensures.order c.cycle_of-turn.ensures.sum (ap column_of c.numbers.ensures ∙ c.image.ensures) (denominator _ _ c.from.ensures c.cycle_of-turn.ensures.short))
