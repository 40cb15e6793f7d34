use Rattle.std.proofs.Common.{sym, subst, to_z-of_z}
use Rattle.triplet_text.specs.Integers.{IsInteger}
use Rattle.data_lines.specs.declared.number.TheConstants.{NUMBER_DIGITS}
use Rattle.data_lines.proofs.Numbers.{narrow}
use Rattle.map_sym.proofs.reading.read_value.Goals as goal

pub returns-clause-some : goal.returns-clause-some
returns-clause-some c =
    let field = c.in_ok-field.field.now in
    let value = c.in_ok-value.value in
    let is = c.in_ok-value.ensures.some in
    record { field = field; is_field = c.in_ok-field.ensures.some; is_value = subst (IsInteger NUMBER_DIGITS field) (sym (to_z-of_z (narrow field value is))) is }
