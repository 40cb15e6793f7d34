use Rattle.exact_ops.specs.declared.TheConstants.{UNIT}
use Rattle.exact_ops.proofs.Narrow.{some_parts}
use Rattle.row_lists.proofs.Theorem as row_lists
use Rattle.wyckoff_rows.proofs.Finishing.{members_of_group}
use Rattle.wyckoff_rows.proofs.laws.some_row_list.Goals as goal

pub returns : goal.returns
returns c = λ members g. row_lists.some_row_list UNIT some_parts members (members_of_group members g)
