use Rattle.std.proofs.Common.{ap, sym, to_z-of_z, ◌∙◌}
use Rattle.std.proofs.lemmas.Bool.{false≢true}
use Rattle.lattice_algebra.specs.Matrix.{Column, times}
use Rattle.affine_sets.proofs.keys.are_whole.Goals as goal

pub returns-then-not-is_whole : goal.returns-then-not-is_whole
unfolding times
returns-then-not-is_whole c = (
  (λ t. absurd (false≢true t)),
  (λ h. absurd (false≢true (sym c.if-not-is_whole.true ∙ c.is_whole.ensures.1 (h.0.x, to_z-of_z c.ranges.x ∙ ap (λ (v : Column). v.x) h.1)))),
)

pub returns-then-not-is_whole-2 : goal.returns-then-not-is_whole-2
unfolding times
returns-then-not-is_whole-2 c = (
  (λ t. absurd (false≢true t)),
  (λ h. absurd (false≢true (sym c.if-not-is_whole-2.true ∙ c.is_whole-2.ensures.1 (h.0.y, to_z-of_z c.ranges.y ∙ ap (λ (v : Column). v.y) h.1)))),
)

pub returns : goal.returns
unfolding times
returns c =
    let r = c.ranges in (
      (λ t.
          let x = c.is_whole.ensures.0 c.if-not-is_whole.false in
          let y = c.is_whole-2.ensures.0 c.if-not-is_whole-2.false in
          let z = c.is_whole-3.ensures.0 t in
          (record { x = x.0; y = y.0; z = z.0 }, λ i. record { x = (sym (to_z-of_z r.x) ∙ x.1) i; y = (sym (to_z-of_z r.y) ∙ y.1) i; z = (sym (to_z-of_z r.z) ∙ z.1) i })),
      (λ h. c.is_whole-3.ensures.1 (h.0.z, to_z-of_z r.z ∙ ap (λ (v : Column). v.z) h.1)),
    )
