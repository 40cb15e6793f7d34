use Rattle.data_lines.proofs.Numbers.{number_fits, number_kept}
use Rattle.data_lines.proofs.number.read_number.Goals as goal

pub overflow_cast-result : goal.overflow_cast-result
overflow_cast-result c = number_fits c.args.text.now c.in_ok-read_integer.field-0 c.in_ok-read_integer.ensures.some

pub returns-clause-some : goal.returns-clause-some
returns-clause-some c = number_kept c.args.text.now c.in_ok-read_integer.field-0 c.in_ok-read_integer.ensures.some
