use Rattle.std.proofs.Common.{◌∙◌, ◌*◌, ◌^◌, map, length, ap, sym, subst, arith, Contains}
use Rattle.lattice_algebra.specs.Matrix.{Column, column_of, neg_column}
use Rattle.lattice_algebra.specs.Operator.{AreWithin}
use Rattle.lattice_algebra.specs.Map.{identity_map}
use Rattle.std.proofs.lemmas.Option.{slice_get_within}
use Rattle.exact_ops.specs.declared.TheConstants.{UNIT}
use Rattle.exact_ops.specs.Elements.{map_in}
use Rattle.space_groups.specs.Regions.{shift_by}
use Rattle.affine_sets.specs.declared.TheConstants.{MAX_NEAR_SHIFT}
use Rattle.affine_sets.specs.Averages.{whole_part}
use Rattle.affine_sets.specs.Fields.{offset_in}
use Rattle.affine_sets.specs.Subs.{IsSubList, AreElements, AreShiftsWithin, IsNearShift, conjugate_by}
use Rattle.affine_sets.proofs.MovedLists.{moved_list, moved_elements}
use Rattle.affine_sets.proofs.NearSets.{made_next, made_all, one_mean, whole_small, near_shift, near_all, item_in}
use Rattle.affine_sets.proofs.sub.Sub.near.Goals as goal

pub loop-element-init : goal.loop-element-init
loop-element-init c = record {
  made = ap (map map_in) c.in-Ok.ensures.items;
  within = omega (arith, c.in-Ok.ensures.len);
  room = omega (arith, c.in-Ok.ensures.capacity, c.len.ensures, c.deref-element-items.ensures.len);
}

pub shifted-requires-clause-cells : goal.shifted-requires-clause-cells
shifted-requires-clause-cells c = subst (λ (v : Column). AreWithin (4 * 10 ^ 12) v.x v.y v.z) (sym c.whole_cells-f.ensures.value) (whole_small c.mean.result c.whole_cells-f.ensures.special)

pub shifted-requires-clause-near : goal.shifted-requires-clause-near
shifted-requires-clause-near c = λ n.
    let e = c.element-item.result in
    let s = subst IsSubList c.self.view_is c.self.invariant in
    let m : Contains c.args.self.now (map_in e) = item_in c.deref-element-items.result.now c.self.inside.moves.items c.args.self.now c.loop-element.element-index e c.deref-element-items.ensures.value c.self.view_is c.loop-element-test.true c.element-item.is in
    subst (IsNearShift e.op.w (column_of e.shift)) (sym c.whole_cells-f.ensures.value)
    (near_shift c.args.g.now c.mean.ensures.group c.args.self.now s c.requires c.mean.result c.mean.ensures.mean c.whole_cells-f.ensures.special c.mean.ensures.over e.op (column_of e.shift) m n)

pub loop-element-preserved : goal.loop-element-preserved
loop-element-preserved c = record {
  made = made_next (conjugate_by (shift_by UNIT (neg_column (offset_in c.whole_cells-f.result)))) c.deref-element-items.result.now c.loop-element.moves.items c.push_reserved.new.self.items c.loop-element.element-index c.element-item.result c.element-item.result _ c.loop-element-test.true c.element-item.is
      c.push_reserved.ensures.items c.shifted.ensures c.loop-element.invariant.made;
  within = omega (arith, c.push_reserved.ensures.len, c.loop-element.invariant.within);
  room = omega (arith, c.push_reserved.ensures.capacity, c.loop-element.invariant.room);
}

pub invariant_of-result : goal.invariant_of-result
invariant_of-result c =
    let s = subst IsSubList c.self.view_is c.self.invariant in
    subst IsSubList (sym (made_all (conjugate_by (shift_by UNIT (neg_column (offset_in c.whole_cells-f.result)))) c.deref-element-items.result.now c.self.inside.moves.items c.loop-element.moves.items c.args.self.now c.loop-element.element-index
    c.deref-element-items.ensures.value c.self.view_is c.loop-element-test.false c.loop-element.invariant.made))
    (moved_list c.args.g.now c.mean.ensures.group (offset_in c.whole_cells-f.result) c.args.self.now s c.requires)

pub returns-clause-shifted : goal.returns-clause-shifted
returns-clause-shifted c = λ a h.
    let s = subst IsSubList c.self.view_is c.self.invariant in
    made_all (conjugate_by (shift_by UNIT (neg_column (offset_in c.whole_cells-f.result)))) c.deref-element-items.result.now c.self.inside.moves.items c.loop-element.moves.items c.args.self.now c.loop-element.element-index
    c.deref-element-items.ensures.value c.self.view_is c.loop-element-test.false c.loop-element.invariant.made
    ∙ ap (λ f. map (conjugate_by (shift_by UNIT (neg_column f))) c.args.self.now) (c.whole_cells-f.ensures.value ∙ ap whole_part (one_mean (length c.args.g.now) c.args.self.now c.mean.result a (slice_get_within c.args.self.now 0 identity_map s.first) c.mean.ensures.mean h))

pub returns-clause-near : goal.returns-clause-near
returns-clause-near c =
    let s = subst IsSubList c.self.view_is c.self.invariant in
    subst (AreShiftsWithin MAX_NEAR_SHIFT)
    (sym (made_all (conjugate_by (shift_by UNIT (neg_column (offset_in c.whole_cells-f.result)))) c.deref-element-items.result.now c.self.inside.moves.items c.loop-element.moves.items c.args.self.now c.loop-element.element-index
    c.deref-element-items.ensures.value c.self.view_is c.loop-element-test.false c.loop-element.invariant.made
    ∙ ap (λ f. map (conjugate_by (shift_by UNIT (neg_column f))) c.args.self.now) c.whole_cells-f.ensures.value))
    (near_all c.args.g.now c.mean.ensures.group c.args.self.now s c.requires c.mean.result c.mean.ensures.mean c.whole_cells-f.ensures.special c.mean.ensures.over)

pub returns-clause-elements : goal.returns-clause-elements
returns-clause-elements c =
    subst (AreElements c.args.g.now) (sym (made_all (conjugate_by (shift_by UNIT (neg_column (offset_in c.whole_cells-f.result)))) c.deref-element-items.result.now c.self.inside.moves.items c.loop-element.moves.items c.args.self.now c.loop-element.element-index
    c.deref-element-items.ensures.value c.self.view_is c.loop-element-test.false c.loop-element.invariant.made))
    (moved_elements c.args.g.now c.mean.ensures.group (offset_in c.whole_cells-f.result) c.args.self.now c.requires)
