use Rattle.std.proofs.Common.{rules, ◌≡◌, ◌*◌, ap, sym, ◌∙◌, subst}
use Rattle.lattice_algebra.specs.Matrix.{matrix_of}
use Rattle.lattice_algebra.specs.Operator.{AreWithin}
use Rattle.phase_rules.specs.declared.TheConstants.{MAX_INDEX}
use Rattle.phase_rules.specs.declared.pairs.Pairs.TheVariants.{Friedel}
use Rattle.phase_rules.specs.Rows.{Row, row_of, ◌·ʳ◌}
use Rattle.refl_merge.specs.Steps.{IsGreatestImage}
use Rattle.refl_merge.proofs.Greatest.{image_size, image_alone, image_with_opposite, greater_row}
use Rattle.refl_merge.proofs.class_keys.greatest_image.Goals as goal

pub opposite-requires : goal.opposite-requires
opposite-requires c =
    let image : row_of c.times-image.result ≡ c.args.index.now ·ʳ c.args.op.now.w = c.times-image.ensures ∙ ap (λ w. c.args.index.now ·ʳ matrix_of w) c.w.ensures.value in
    subst (λ (r : Row). AreWithin (6 * MAX_INDEX) r.h r.k r.l) (sym image) (image_size c.args.index.now c.args.op.now.w (subst (λ (r : Row). AreWithin MAX_INDEX r.h r.k r.l) c.index.view_is c.index.invariant) c.w.ensures.narrow.within_two)

pub returns-in-Friedel : goal.returns-in-Friedel
returns-in-Friedel c =
    let image : row_of c.times-image.result ≡ c.args.index.now ·ʳ c.args.op.now.w = c.times-image.ensures ∙ ap (λ w. c.args.index.now ·ʳ matrix_of w) c.w.ensures.value in
    subst (λ p. IsGreatestImage p (c.args.index.now ·ʳ c.args.op.now.w) (row_of c.greater.result)) (sym c.in-Friedel.is)
    (subst (λ e. IsGreatestImage Friedel e (row_of c.greater.result)) image
    (image_with_opposite (row_of c.times-image.result) (row_of c.opposite.result) (row_of c.greater.result) c.opposite.ensures (greater_row c.times-image.result c.opposite.result c.greater.result (search rules) (search rules) c.greater.ensures)))

pub returns-in-Apart : goal.returns-in-Apart
returns-in-Apart c =
    let image : row_of c.times-image.result ≡ c.args.index.now ·ʳ c.args.op.now.w = c.times-image.ensures ∙ ap (λ w. c.args.index.now ·ʳ matrix_of w) c.w.ensures.value in
    subst (λ p. IsGreatestImage p (c.args.index.now ·ʳ c.args.op.now.w) (row_of c.times-image.result)) (sym c.in-Apart.is) (image_alone _ _ image)
