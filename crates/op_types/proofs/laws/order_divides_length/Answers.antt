use Rattle.op_types.proofs.Orders.{order_of_member}
use Rattle.op_types.proofs.laws.order_divides_length.Goals as goal

pub returns : goal.returns
returns c = order_of_member
