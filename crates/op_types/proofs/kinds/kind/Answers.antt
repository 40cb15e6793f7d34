use Rattle.std.proofs.Common.{ap, ◌∙◌}
use Rattle.lattice_algebra.specs.Matrix.{matrix_of}
use Rattle.op_types.proofs.SmallPowers.{small_proper}
use Rattle.op_types.proofs.kinds.kind.Goals as goal

pub cycle_of-requires : goal.cycle_of-requires
cycle_of-requires c = small_proper c.args.group.now c.op.result c.args.i _ _ c.op.ensures.group c.op.ensures.value (c.of-w.ensures ∙ ap matrix_of c.w.ensures.value) c.proper_part.ensures
