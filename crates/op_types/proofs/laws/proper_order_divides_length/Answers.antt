use Rattle.op_types.proofs.Orders.{proper_order_of_member}
use Rattle.op_types.proofs.laws.proper_order_divides_length.Goals as goal

pub returns : goal.returns
returns c = proper_order_of_member
