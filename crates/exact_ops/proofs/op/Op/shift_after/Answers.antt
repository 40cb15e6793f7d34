use Rattle.exact_ops.specs.Fields.{column_in, operator_in}
use Rattle.exact_ops.proofs.WholeShifts.{turned_shift}
use Rattle.exact_ops.proofs.op.Op.shift_after.Goals as goal

pub returns-clause-value : goal.returns-clause-value
returns-clause-value c =
    turned_shift (operator_in c.self.inside.w c.self.inside.t) (operator_in c.first.inside.w c.first.inside.t) _ _ (column_in c.carried-carry.result) c.args.shift.now _ _ _ c.self.view_is c.first.view_is c.self.invariant
    c.carried-carry.ensures.value c.carried-carry.ensures.size c.requires (record { first = c.shift_coordinate.ensures.size; second = c.shift_coordinate-2.ensures.size; third = c.shift_coordinate-3.ensures.size })
    c.shift_coordinate.ensures.value c.shift_coordinate-2.ensures.value c.shift_coordinate-3.ensures.value
