use Rattle.phase_rules.specs.Rows.{row_of}
use Rattle.refl_merge.proofs.Greatest.{opposite_computed}
use Rattle.refl_merge.proofs.class_keys.opposite.Goals as goal

pub returns : goal.returns
returns c = opposite_computed (row_of c.args.row.now) c.requires
