use Rattle.sg_cli.proofs.SameGroup.{one_wyckoff, one_fit, one_table}
use Rattle.sg_cli.proofs.laws.rows_of_one_group.Goals as goal

pub returns-clause-wyckoff : goal.returns-clause-wyckoff
returns-clause-wyckoff c = one_wyckoff

pub returns-clause-fit : goal.returns-clause-fit
returns-clause-fit c = one_fit

pub returns-clause-table : goal.returns-clause-table
returns-clause-table c = one_table
