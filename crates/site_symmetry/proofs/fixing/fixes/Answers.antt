use Rattle.std.proofs.Common.{refl, subst}
use Rattle.std.specs.Option.{IsSome}
use Rattle.std.proofs.lemmas.Bool.{false≢true}
use Rattle.lattice_algebra.specs.Matrix.{column_of}
use Rattle.exact_ops.specs.Numbers.{point_in}
use Rattle.site_symmetry.proofs.Shifts.{in_x, in_y, in_z, fits_difference, difference_within, shift_at, shifts_stored, some_fixes, in_site}
use Rattle.site_symmetry.proofs.fixing.fixes.Goals as goal

pub overflow_sub-point : goal.overflow_sub-point
overflow_sub-point c = fits_difference in_x (point_in c.args.point.now) (column_of c.image_of.result) c.args.point.now.in_range c.image_of.ensures.within

pub whole_cells-requires-clause-near : goal.whole_cells-requires-clause-near
whole_cells-requires-clause-near c = difference_within in_x (point_in c.args.point.now) (column_of c.image_of.result) c.args.point.now.in_range c.image_of.ensures.within

pub returns-in_err-x-clause-some : goal.returns-in_err-x-clause-some
returns-in_err-x-clause-some c =
    λ f q. (
      (λ t. absurd (false≢true (subst IsSome c.from_residual.ensures t))),
      (λ s. absurd (false≢true (c.in_err-x.ensures.some.1 (shift_at in_x c.args.group.now c.op-op.result f c.args.i (point_in c.args.point.now) (column_of c.image_of.result) c.op-op.ensures.value c.args.point.now.in_range c.image_of.ensures.value c.image_of.ensures.within q s)))),
    )

pub overflow_sub-point-2 : goal.overflow_sub-point-2
overflow_sub-point-2 c = fits_difference in_y (point_in c.args.point.now) (column_of c.image_of.result) c.args.point.now.in_range c.image_of.ensures.within

pub whole_cells-requires-2-clause-near : goal.whole_cells-requires-2-clause-near
whole_cells-requires-2-clause-near c = difference_within in_y (point_in c.args.point.now) (column_of c.image_of.result) c.args.point.now.in_range c.image_of.ensures.within

pub returns-in_err-y-clause-some : goal.returns-in_err-y-clause-some
returns-in_err-y-clause-some c =
    λ f q. (
      (λ t. absurd (false≢true (subst IsSome c.from_residual-in_err-y.ensures t))),
      (λ s. absurd (false≢true (c.in_err-y.ensures.some.1 (shift_at in_y c.args.group.now c.op-op.result f c.args.i (point_in c.args.point.now) (column_of c.image_of.result) c.op-op.ensures.value c.args.point.now.in_range c.image_of.ensures.value c.image_of.ensures.within q s)))),
    )

pub overflow_sub-point-3 : goal.overflow_sub-point-3
overflow_sub-point-3 c = fits_difference in_z (point_in c.args.point.now) (column_of c.image_of.result) c.args.point.now.in_range c.image_of.ensures.within

pub whole_cells-requires-3-clause-near : goal.whole_cells-requires-3-clause-near
whole_cells-requires-3-clause-near c = difference_within in_z (point_in c.args.point.now) (column_of c.image_of.result) c.args.point.now.in_range c.image_of.ensures.within

pub returns-in_err-z-clause-some : goal.returns-in_err-z-clause-some
returns-in_err-z-clause-some c =
    λ f q. (
      (λ t. absurd (false≢true (subst IsSome c.from_residual-in_err-z.ensures t))),
      (λ s. absurd (false≢true (c.in_err-z.ensures.some.1 (shift_at in_z c.args.group.now c.op-op.result f c.args.i (point_in c.args.point.now) (column_of c.image_of.result) c.op-op.ensures.value c.args.point.now.in_range c.image_of.ensures.value c.image_of.ensures.within q s)))),
    )

pub returns-clause-some : goal.returns-clause-some
returns-clause-some c =
    let p = point_in c.args.point.now in
    let r = column_of c.image_of.result in
    let a = shifts_stored p r c.in_ok-x.x c.in_ok-y.y c.in_ok-z.z c.args.point.now.in_range c.image_of.ensures.within c.in_ok-x.ensures.value c.in_ok-y.ensures.value c.in_ok-z.ensures.value in
    λ f q. ((λ t. some_fixes c.args.group.now c.op-op.result f c.args.i p r _ c.op-op.ensures.group c.op-op.ensures.value c.args.point.now.in_range.positive c.image_of.ensures.value a q), (λ s. refl))

pub returns-clause-value : goal.returns-clause-value
returns-clause-value c =
    let p = point_in c.args.point.now in
    let r = column_of c.image_of.result in
    let a = shifts_stored p r c.in_ok-x.x c.in_ok-y.y c.in_ok-z.z c.args.point.now.in_range c.image_of.ensures.within c.in_ok-x.ensures.value c.in_ok-y.ensures.value c.in_ok-z.ensures.value in
    in_site c.args.group.now c.op-op.result c.args.i p r _ c.op-op.ensures.group c.op-op.ensures.value c.args.point.now.in_range.positive c.image_of.ensures.value a
