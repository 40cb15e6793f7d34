use Rattle.std.proofs.Common.{◌∙◌, sym}
use Rattle.std.proofs.lemmas.Bool.Decides.{Decides-eqb}
use Rattle.std.proofs.lemmas.Slice.Eq.{slice_eq-Decides}
use Rattle.triplet_text.proofs.Dividers.{divider_to, divider_from}
use Rattle.triplet_text.proofs.divider.is_divider.Goals as goal

pub returns : goal.returns
returns c =
    let same = slice_eq-Decides Decides-eqb c.without_blanks.result.now c.as_slice.result.now c.eq.result c.eq.ensures in
    let is = sym c.without_blanks.ensures.text in (
      (λ t. divider_from c.args.line.now (is ∙ same.0 t ∙ c.as_slice.ensures)),
      (λ d. same.1 (sym is ∙ divider_to d ∙ sym c.as_slice.ensures)),
    )
