use Rattle.std.proofs.Common.{rules, ◌≡◌, ap, ◌∙◌, subst, pos, ◌<ℤ◌, unsigned_abs}
use Rattle.lattice_algebra.specs.Matrix.{matrix_of}
use Rattle.lattice_algebra.specs.Operator.{AreWithin}
use Rattle.phase_rules.specs.declared.TheConstants.{MAX_INDEX}
use Rattle.phase_rules.specs.Rows.{Row, row_of, ◌·ʳ◌}
use Rattle.refl_merge.proofs.Greatest.{greater_row, image_size, first_back, first_fits, key_kept, key_with_image, less_read}
use Rattle.refl_merge.proofs.class_keys.key_with.Goals as goal

pub abs-requires : goal.abs-requires
abs-requires c =
    let image : c.first_times-first.result ≡ (c.args.index.now ·ʳ c.args.op.now.w).h = c.first_times-first.ensures ∙ ap (λ w. (c.args.index.now ·ʳ matrix_of w).h) c.w.ensures.value in
    let size = image_size c.args.index.now c.args.op.now.w (subst (λ (r : Row). AreWithin MAX_INDEX r.h r.k r.l) c.index.view_is c.index.invariant) c.w.ensures.narrow.within_two in
    first_fits c.first_times-first.result _ image size.first

pub returns-then-abs-key : goal.returns-then-abs-key
returns-then-abs-key c =
    let image : c.first_times-first.result ≡ (c.args.index.now ·ʳ c.args.op.now.w).h = c.first_times-first.ensures ∙ ap (λ w. (c.args.index.now ·ʳ matrix_of w).h) c.w.ensures.value in
    let size = image_size c.args.index.now c.args.op.now.w (subst (λ (r : Row). AreWithin MAX_INDEX r.h r.k r.l) c.index.view_is c.index.invariant) c.w.ensures.narrow.within_two in
    let key = row_of c.args.key.now in
    key_kept c.args.pairs (c.args.index.now ·ʳ c.args.op.now.w) key
    (subst (λ n. pos (unsigned_abs n) <ℤ key.h) (first_back c.first_times-first.result _ image size.first) (subst (λ z. z <ℤ key.h) c.abs.ensures.value (less_read c.abs.result key.h (search rules) (search rules) c.if-abs-key.true)))

pub returns : goal.returns
returns c = key_with_image c.args.pairs (c.args.index.now ·ʳ c.args.op.now.w) (row_of c.args.key.now) (row_of c.greatest_image.result) (row_of c.greater.result) c.greatest_image.ensures
    (greater_row c.args.key.now c.greatest_image.result c.greater.result (search rules) (search rules) c.greater.ensures)
