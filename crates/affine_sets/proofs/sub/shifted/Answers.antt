use Rattle.std.proofs.Common.{◌≡◌, ◌∙◌, ap, sym}
use Rattle.lattice_algebra.specs.Matrix.{matrix_of, column_of}
use Rattle.lattice_algebra.proofs.Maps.{shifted}
use Rattle.exact_ops.specs.declared.TheConstants.{UNIT}
use Rattle.exact_ops.specs.Fields.{matrix_in}
use Rattle.affine_sets.specs.Fields.{offset_in}
use Rattle.affine_sets.proofs.ShiftedSets.{conjugate_is, cells_within, image_made, image_sized, given_within, total_sized, shift_made, stored_near, stored_in_range}
use Rattle.affine_sets.proofs.sub.shifted.Goals as goal

pub image-requires-clause-right : goal.image-requires-clause-right
image-requires-clause-right c = cells_within (offset_in c.args.f.now) c.requires.cells

pub offset_sum-requires-clause-left : goal.offset_sum-requires-clause-left
offset_sum-requires-clause-left c = given_within (column_of c.args.s.now.shift) c.args.s.now.in_range

pub offset_sum-requires-clause-right : goal.offset_sum-requires-clause-right
offset_sum-requires-clause-right c =
    let is : matrix_in c.of-w.result ≡ c.args.s.now.op.w = c.of-w.ensures ∙ ap matrix_of c.w.ensures.value in
    image_sized (offset_in c.image.result) (image_made c.args.s.now.op (matrix_in c.of-w.result) (offset_in c.args.f.now) (offset_in c.image.result) c.w.ensures.narrow.within_two is c.image.ensures c.requires.cells)

pub offset_difference-k-requires-clause-left : goal.offset_difference-k-requires-clause-left
offset_difference-k-requires-clause-left c =
    let is : matrix_in c.of-w.result ≡ c.args.s.now.op.w = c.of-w.ensures ∙ ap matrix_of c.w.ensures.value in
    total_sized (column_of c.args.s.now.shift) (offset_in c.image.result) (offset_in c.offset_sum.result) c.args.s.now.in_range
    (image_made c.args.s.now.op (matrix_in c.of-w.result) (offset_in c.args.f.now) (offset_in c.image.result) c.w.ensures.narrow.within_two is c.image.ensures c.requires.cells) c.offset_sum.ensures

pub invariant_of-result : goal.invariant_of-result
invariant_of-result c =
    let is : matrix_in c.of-w.result ≡ c.args.s.now.op.w = c.of-w.ensures ∙ ap matrix_of c.w.ensures.value in
    let made = shift_made c.args.s.now.op (matrix_in c.of-w.result) (column_of c.args.s.now.shift) (offset_in c.args.f.now) (offset_in c.image.result) (offset_in c.offset_sum.result) (offset_in c.offset_difference-k.result) is c.image.ensures c.args.s.now.in_range c.offset_sum.ensures c.offset_difference-k.ensures in
    record { in_range = stored_in_range (offset_in c.offset_difference-k.result) _ made (c.requires.near c.w.ensures.narrow).within }

pub returns : goal.returns
returns c =
    let is : matrix_in c.of-w.result ≡ c.args.s.now.op.w = c.of-w.ensures ∙ ap matrix_of c.w.ensures.value in
    let made = shift_made c.args.s.now.op (matrix_in c.of-w.result) (column_of c.args.s.now.shift) (offset_in c.args.f.now) (offset_in c.image.result) (offset_in c.offset_sum.result) (offset_in c.offset_difference-k.result) is c.image.ensures c.args.s.now.in_range c.offset_sum.ensures c.offset_difference-k.ensures in
    ap (shifted UNIT c.args.s.now.op) (stored_near (offset_in c.offset_difference-k.result) _ made (c.requires.near c.w.ensures.narrow).within) ∙ sym (conjugate_is c.args.s.now.op (column_of c.args.s.now.shift) (offset_in c.args.f.now))
