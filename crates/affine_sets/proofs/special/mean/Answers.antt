use Rattle.std.proofs.Common.{◌∙◌, ap, sym, subst, length, map}
use Rattle.exact_ops.specs.Elements.{map_in}
use Rattle.affine_sets.specs.declared.TheConstants.{MAX_GROWN_SHIFT}
use Rattle.affine_sets.specs.Subs.{IsSubList}
use Rattle.affine_sets.proofs.Groups.{sub_of_list, mean_image, sum_next, sum_small, mean_from_sum, whole_sum, shifts_wider}
use Rattle.affine_sets.proofs.special.mean.Goals as goal

pub loop-element-init : goal.loop-element-init
loop-element-init c = c.none-sum.ensures

pub add-requires : goal.add-requires
add-requires c =
    sum_small c.deref-element-items.result.now c.args.s.now c.loop-element.element-index c.loop-element.sum (ap (map map_in) c.deref-element-items.ensures.value ∙ c.s.view_is) (subst IsSubList c.s.view_is c.s.invariant).within c.loop-element-test.true c.loop-element.invariant

pub loop-element-preserved : goal.loop-element-preserved
loop-element-preserved c =
    sum_next c.deref-element-items.result.now c.loop-element.element-index c.element-item.result c.element-item.result c.loop-element.sum c.add.new.self c.loop-element-test.true c.element-item.is c.loop-element.invariant c.add.ensures

pub average-requires : goal.average-requires
average-requires c = record {
  group = c.args.s.now;
  is_group = sub_of_list c.args.g.now c.args.s.now (subst IsSubList c.s.view_is c.s.invariant) c.requires;
  sum = sym (whole_sum c.deref-element-items.result.now c.s.inside.moves.items c.args.s.now c.loop-element.element-index c.loop-element.sum c.deref-element-items.ensures.value c.s.view_is c.loop-element-test.false c.loop-element.invariant);
}

pub returns-clause-mean : goal.returns-clause-mean
returns-clause-mean c = mean_from_sum (length c.args.g.now) c.args.s.now c.loop-element.sum c.average.result (whole_sum c.deref-element-items.result.now c.s.inside.moves.items c.args.s.now c.loop-element.element-index c.loop-element.sum c.deref-element-items.ensures.value c.s.view_is c.loop-element-test.false c.loop-element.invariant) c.average.ensures.value

pub returns-clause-image : goal.returns-clause-image
returns-clause-image c =
    mean_image c.args.g.now c.average.ensures.group c.args.s.now (sub_of_list c.args.g.now c.args.s.now (subst IsSubList c.s.view_is c.s.invariant) c.requires) c.average.result
    (mean_from_sum (length c.args.g.now) c.args.s.now c.loop-element.sum c.average.result (whole_sum c.deref-element-items.result.now c.s.inside.moves.items c.args.s.now c.loop-element.element-index c.loop-element.sum c.deref-element-items.ensures.value c.s.view_is c.loop-element-test.false c.loop-element.invariant) c.average.ensures.value)

pub returns-clause-group : goal.returns-clause-group
returns-clause-group c = c.average.ensures.group

pub returns-clause-average : goal.returns-clause-average
returns-clause-average c = λ size l h. record {
  group = c.args.s.now;
  is_group = sub_of_list c.args.g.now c.args.s.now (subst IsSubList c.s.view_is c.s.invariant) c.requires;
  mean = mean_from_sum (length c.args.g.now) c.args.s.now c.loop-element.sum c.average.result (whole_sum c.deref-element-items.result.now c.s.inside.moves.items c.args.s.now c.loop-element.element-index c.loop-element.sum c.deref-element-items.ensures.value c.s.view_is c.loop-element-test.false c.loop-element.invariant) c.average.ensures.value;
  shifts = shifts_wider size MAX_GROWN_SHIFT c.args.s.now l h;
}
