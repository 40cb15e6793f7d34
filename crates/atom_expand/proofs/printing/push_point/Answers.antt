use Rattle.std.proofs.Common.{rules, codes, [], ◌∷◌, ◌++◌, ◌∙◌, ap₂, decimal, pos, slice_index_or, to_z-of_z, FitsSigned}
use Rattle.std.specs.Int.{w128}
use Rattle.triplet_text.specs.Bytes.{space, line_feed}
use Rattle.triplet_text.specs.Fractions.{frac_text}
use Rattle.atom_expand.proofs.SiteTexts.{point_pushed}
use Rattle.atom_expand.proofs.printing.push_point.Goals as goal

pub returns : goal.returns
returns c =
    let n = c.args.point.now.n in
    let d = c.args.point.now.d in
    let fx : FitsSigned w128 (slice_index_or n 0 (pos 0)) = search rules in
    let fy : FitsSigned w128 (slice_index_or n 1 (pos 0)) = search rules in
    let fz : FitsSigned w128 (slice_index_or n 2 (pos 0)) = search rules in
    let fd : FitsSigned w128 d = search rules in
    let below = to_z-of_z fd in
    let k = c.as_bytes.ensures.value ∙ c.format.ensures.text in
    let x = ap₂ frac_text (to_z-of_z fx) below in
    let y = ap₂ frac_text (to_z-of_z fy) below in
    let z = ap₂ frac_text (to_z-of_z fz) below in (
      _,
      λ _. codes "at " ++ decimal c.args.number ++ space ∷ frac_text (slice_index_or n 0 (pos 0)) d ++ space ∷ frac_text (slice_index_or n 1 (pos 0)) d ++ space ∷ frac_text (slice_index_or n 2 (pos 0)) d ++ line_feed ∷ [],
      point_pushed _ _ _ _ _ _ _ _ _ _ (codes "at ") _ _ _ _ _ _ _ _ c.push.ensures c.push-2.ensures c.push-3.ensures c.push-4.ensures.text c.push-5.ensures c.push-6.ensures.text c.push-7.ensures c.push-8.ensures.text c.push-9.ensures k x y z,
    )
