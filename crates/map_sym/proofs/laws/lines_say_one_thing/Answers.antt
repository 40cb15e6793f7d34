use Rattle.data_lines.proofs.DataLaws.{one_bad_line}
use Rattle.map_sym.specs.ValueLines.{IsValueLine}
use Rattle.map_sym.proofs.ValueLaws.{one_grid_values, one_count}
use Rattle.map_sym.proofs.laws.lines_say_one_thing.Goals as goal

pub returns-clause-values : goal.returns-clause-values
returns-clause-values c = λ lines grid a b p q. one_grid_values lines grid a b p q

pub returns-clause-bad : goal.returns-clause-bad
returns-clause-bad c = λ first lines j k p q. one_bad_line IsValueLine first lines j k p q

pub returns-clause-count : goal.returns-clause-count
returns-clause-count c = λ lines grid m n p q. one_count lines grid m n p q
