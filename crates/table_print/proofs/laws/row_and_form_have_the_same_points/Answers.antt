use Rattle.std.proofs.Common.{length}
use Rattle.std.proofs.lemmas.Option.{slice_get_within}
use Rattle.lattice_algebra.specs.Operator.{identity_operator}
use Rattle.exact_ops.specs.declared.TheConstants.{UNIT}
use Rattle.exact_ops.proofs.Narrow.{some_parts}
use Rattle.table_print.proofs.laws.row_and_form_have_the_same_points.Goals as goal

pub returns : goal.returns
returns c = λ members form g gives row y. c.form_has_the_points.ensures UNIT (length members) row.key (form row.key) some_parts (slice_get_within members 0 identity_operator g.first) (gives row.key) y
