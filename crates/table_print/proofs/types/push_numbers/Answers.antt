use Rattle.std.proofs.Common.{rules, ◌∙◌, ap, pos, slice_index_or, to_z-of_z, w32, FitsSigned}
use Rattle.std.specs.Fmt.{signed_decimal}
use Rattle.table_print.proofs.TypeLines.{three_pushed}
use Rattle.table_print.proofs.types.push_numbers.Goals as goal

pub returns-clause-text : goal.returns-clause-text
returns-clause-text c =
    let a = c.args.numbers.now in
    let f : (FitsSigned w32 (slice_index_or a 0 (pos 0))) × (FitsSigned w32 (slice_index_or a 1 (pos 0))) × (FitsSigned w32 (slice_index_or a 2 (pos 0))) = search rules in
    three_pushed _ _ _ _ _ _ _ _ _ _ _ _ c.push.ensures c.push-2.ensures c.push-3.ensures c.push-4.ensures c.push-5.ensures
    (c.as_bytes.ensures.value ∙ c.format.ensures.text ∙ ap signed_decimal (to_z-of_z f.0))
    (c.as_bytes-2.ensures.value ∙ c.format-2.ensures.text ∙ ap signed_decimal (to_z-of_z f.1))
    (c.as_bytes-3.ensures.value ∙ c.format-3.ensures.text ∙ ap signed_decimal (to_z-of_z f.2))
