use Rattle.std.proofs.Common.{◌∙◌, ap, sym, subst}
use Rattle.lattice_algebra.specs.Matrix.{matrix_of, ◌·◌}
use Rattle.lattice_algebra.specs.Operator.{HasEntriesWithin}
use Rattle.lattice_algebra.proofs.Powers.{within-opposite}
use Rattle.exact_ops.specs.Fields.{matrix_in}
use Rattle.affine_sets.proofs.KeyNumbers.{half_within}
use Rattle.wyckoff_rows.proofs.RangeSizes.{differences_made, differences_size}
use Rattle.wyckoff_rows.proofs.ranges.differences.Goals as goal

pub multiple-requires-clause-matrix : goal.multiple-requires-clause-matrix
multiple-requires-clause-matrix c =
    let r = matrix_in c.args.r.now in
    let is = c.of-w.ensures ∙ ap matrix_of c.w.ensures.value in
    let within = subst (HasEntriesWithin 2304) (sym (c.product.ensures ∙ ap (λ w. w · r) is)) (half_within c.args.f.now.w r c.w.ensures.narrow.within_two c.requires) in
    within

pub sum-requires-clause-right : goal.sum-requires-clause-right
sum-requires-clause-right c =
    let r = matrix_in c.args.r.now in
    let is = c.of-w.ensures ∙ ap matrix_of c.w.ensures.value in
    let within = subst (HasEntriesWithin 2304) (sym (c.product.ensures ∙ ap (λ w. w · r) is)) (half_within c.args.f.now.w r c.w.ensures.narrow.within_two c.requires) in
    subst (HasEntriesWithin 2304) (sym c.multiple.ensures) (within-opposite 2304 (matrix_in c.product.result) within)

pub returns-clause-value : goal.returns-clause-value
returns-clause-value c =
    let r = matrix_in c.args.r.now in
    let is = c.of-w.ensures ∙ ap matrix_of c.w.ensures.value in
    let made = differences_made c.args.f.now.w (matrix_in c.of-w.result) r (matrix_in c.product.result) (matrix_in c.multiple.result) (matrix_in c.sum.result) is c.product.ensures c.multiple.ensures c.sum.ensures in
    made

pub returns-clause-size : goal.returns-clause-size
returns-clause-size c =
    let r = matrix_in c.args.r.now in
    let is = c.of-w.ensures ∙ ap matrix_of c.w.ensures.value in
    let made = differences_made c.args.f.now.w (matrix_in c.of-w.result) r (matrix_in c.product.result) (matrix_in c.multiple.result) (matrix_in c.sum.result) is c.product.ensures c.multiple.ensures c.sum.ensures in
    subst (HasEntriesWithin 2688) (sym made) (differences_size c.args.f.now.w r c.w.ensures.narrow.within_two c.requires)
