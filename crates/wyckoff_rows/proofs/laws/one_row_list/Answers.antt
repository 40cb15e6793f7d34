use Rattle.exact_ops.specs.declared.TheConstants.{UNIT}
use Rattle.space_groups.proofs.Ordered as ordered
use Rattle.wyckoff_rows.proofs.laws.one_row_list.Goals as goal

pub returns : goal.returns
returns c = λ members a b p q. ordered.one_row_list UNIT members a b p q
