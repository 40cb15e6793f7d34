use Rattle.std.proofs.Common.{◌+◌, ◌*◌, refl, subst, arith}
use Rattle.std.proofs.lemmas.List.Elements.{All-contains}
use Rattle.lattice_algebra.specs.Matrix.{column_of, ◌+ᶜ◌}
use Rattle.lattice_algebra.specs.Operator.{product}
use Rattle.lattice_algebra.specs.Map.{◌∘◌, map_of, IsShift}
use Rattle.lattice_algebra.proofs.Maps.{shifted}
use Rattle.exact_ops.specs.declared.TheConstants.{UNIT}
use Rattle.exact_ops.specs.Narrow.{IsNarrow}
use Rattle.group_closure.proofs.Places.{contains_at}
use Rattle.affine_sets.specs.Fields.{offset_in}
use Rattle.affine_sets.proofs.KeySizes.{sum_of_within, equal_within}
use Rattle.affine_sets.proofs.Placing.{added_shift, product_placed, passed_offset, shift_size}
use Rattle.affine_sets.proofs.growth.after.Goals as goal

pub returns-clause-value : goal.returns-clause-value
returns-clause-value c =
    let a = c.args.a.now in
    let r = column_of c.shift_after.result in
    product_placed c.args.g.now a c.args.b.now c.op.result c.op-2.result (product UNIT c.op.result c.op-2.result) _ r c.op.ensures.value c.op-2.ensures.value (c.product-place.ensures.value c.op.result c.op-2.result c.op.ensures.value c.op-2.ensures.value) refl
    (added_shift r a.shift c.shift_after.ensures.within c.requires.left_size) (subst (λ v. IsShift UNIT (map_of c.op.result ∘ shifted UNIT c.op-2.result v) r) (passed_offset c.args.b.now.shift c.requires.right_size) c.shift_after.ensures.value)

pub returns-clause-size : goal.returns-clause-size
returns-clause-size c = λ m n p q.
    let g = c.args.g.now in
    let a = c.args.a.now in
    let r = column_of c.shift_after.result in
    let narrow = c.op.ensures.group.narrow in
    let f = All-contains IsNarrow g c.op.result narrow (contains_at g c.op.result a.place c.op.ensures.value) in
    let h = All-contains IsNarrow g c.op-2.result narrow (contains_at g c.op-2.result c.args.b.now.place c.op-2.ensures.value) in
    let s = shift_size c.op.result c.op-2.result (offset_in c.args.b.now.shift) r n f.within_two f.is_operator.in_cell h.is_operator.in_cell q (subst (λ v. IsShift UNIT (map_of c.op.result ∘ shifted UNIT c.op-2.result v) r) (passed_offset c.args.b.now.shift c.requires.right_size) c.shift_after.ensures.value) in
    equal_within (6 * n + 8 + m) (m + 6 * n + 8) _ (r +ᶜ offset_in a.shift) (added_shift r a.shift c.shift_after.ensures.within c.requires.left_size) (omega arith) (sum_of_within (6 * n + 8) m r (offset_in a.shift) s p)
