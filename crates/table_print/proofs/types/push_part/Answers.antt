use Rattle.std.proofs.Common.{rules, ◌≡◌, ◌∙◌, ℤ, ap₂, pos, arith, slice_index_or, to_z, of_z, w32, FitsSigned}
use Rattle.std.specs.Int.{w128}
use Rattle.std.proofs.lemmas.Int.{ints}
use Rattle.triplet_text.specs.Fractions.{frac_text}
use Rattle.table_print.proofs.TypeLines.{three_pushed}
use Rattle.table_print.proofs.types.push_part.Goals as goal

-- a number of 32 bits as one of 128
widened : (x y : ℤ) → FitsSigned w32 x → y ≡ to_z w32 (of_z w32 x) → to_z w128 (of_z w128 y) ≡ x
widened x y f e = omega (arith, ints, e, f)

pub returns-clause-text : goal.returns-clause-text
returns-clause-text c =
    let a = c.args.part.now.n in
    let d = c.args.part.now.d in
    let f : (FitsSigned w32 (slice_index_or a 0 (pos 0))) × (FitsSigned w32 (slice_index_or a 1 (pos 0))) × (FitsSigned w32 (slice_index_or a 2 (pos 0))) = search rules in
    let g : FitsSigned w32 d = search rules in
    let below = widened d c.from-d.result g c.from-d.ensures in
    three_pushed _ _ _ _ _ _ _ _ _ _ _ _ c.push.ensures c.push-2.ensures c.push-3.ensures c.push-4.ensures c.push-5.ensures
    (c.bytes.ensures.text ∙ c.print_frac.ensures ∙ ap₂ frac_text (widened (slice_index_or a 0 (pos 0)) c.from.result f.0 c.from.ensures) below)
    (c.bytes-2.ensures.text ∙ c.print_frac-2.ensures ∙ ap₂ frac_text (widened (slice_index_or a 1 (pos 0)) c.from-2.result f.1 c.from-2.ensures) below)
    (c.bytes-3.ensures.text ∙ c.print_frac-3.ensures ∙ ap₂ frac_text (widened (slice_index_or a 2 (pos 0)) c.from-3.result f.2 c.from-3.ensures) below)
