use Rattle.map_sym.proofs.ValueLaws.{values_or_not, values_or_bad, values_or_count, bad_or_count}
use Rattle.map_sym.proofs.laws.lines_are_values_or_refused.Goals as goal

pub returns-clause-some : goal.returns-clause-some
returns-clause-some c = λ first lines grid. values_or_not lines grid first

pub returns-clause-values_or_bad : goal.returns-clause-values_or_bad
returns-clause-values_or_bad c = λ first lines grid given k v b. values_or_bad lines grid first given k v b

pub returns-clause-values_or_count : goal.returns-clause-values_or_count
returns-clause-values_or_count c = λ lines grid given n v o. values_or_count lines grid given n v o

pub returns-clause-bad_or_count : goal.returns-clause-bad_or_count
returns-clause-bad_or_count c = λ first lines grid k n b o. bad_or_count lines grid first k n b o
