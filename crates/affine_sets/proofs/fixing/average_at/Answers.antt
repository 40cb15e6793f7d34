use Rattle.std.proofs.Common.{◌≡◌, ◌∙◌, Some, get_or, slice_get, length, sym, arith, []}
use Rattle.std.proofs.lemmas.Bool.{false≢true}
use Rattle.std.proofs.lemmas.Option.{slice_get-get_or}
use Rattle.lattice_algebra.specs.Matrix.{column_of}
use Rattle.lattice_algebra.specs.Operator.{Operator, identity_operator}
use Rattle.exact_ops.specs.Numbers.{point_in}
use Rattle.exact_ops.specs.Elements.{map_in}
use Rattle.site_symmetry.proofs.Shifts.{operator_of_member}
use Rattle.site_symmetry.proofs.FixingLists.{none_fixing, one_more, no_more, all_fixing}
use Rattle.affine_sets.proofs.Groups.{mean_from_sum}
use Rattle.affine_sets.proofs.SitesOfPoints.{site_sub, summed_small, summed_more}
use Rattle.affine_sets.proofs.CellAverages.{cell_average}
use Rattle.affine_sets.proofs.fixing.average_at.Goals as goal
use Rattle.affine_sets.proofs.fixing.average_at.Goals.{in-Some, in_default}

pub loop-i-init : goal.loop-i-init
loop-i-init c = record { list = []; fixing = none_fixing c.args.g.now (point_in c.args.p.now); sum = c.none-sum.ensures; short = omega arith }

pub add-requires : goal.add-requires
add-requires c = summed_small c.args.g.now (point_in c.args.p.now) c.loop-i.i c.loop-i.sum c.loop-i.invariant (omega arith) c.len-i-end.ensures.group.within

pub loop-i-preserved : goal.loop-i-preserved
loop-i-preserved c =
    let g = c.args.g.now in
    let p = point_in c.args.p.now in
    let i = c.loop-i.i in
    let was = c.loop-i.invariant in
    let group = c.len-i-end.ensures.group in
    elim c.match-fixes.branch [
      | in-Some w ↦
          let m = w.in-Some.element in
          let h = w.in-Some.ensures in
          summed_more g p i c.loop-i.sum c.match-fixes.sum (map_in m) was (w.sum-is ∙ w.add.ensures)
          (one_more g p i was.list m.op (map_in m) group c.args.p.now.in_range.positive was.fixing h.operator (operator_of_member g m.op i (column_of m.shift) group h.operator) h.value.fixes)
      | in_default w ↦
          let f : Operator = get_or g i identity_operator in
          let q : slice_get g i ≡ Some f = slice_get-get_or g i identity_operator (omega arith) in
          record {
            list = was.list;
            fixing = no_more g p i was.list f was.fixing q (λ s. false≢true ((w.in_default.ensures.some f q).1 s));
            sum = w.sum-is ∙ was.sum;
            short = omega (arith, was.short);
          }
    ]

pub average-requires : goal.average-requires
average-requires c =
    let s = all_fixing c.args.g.now (point_in c.args.p.now) c.loop-i.i c.loop-i.invariant.list (omega arith) c.loop-i.invariant.fixing in
    record { group = c.loop-i.invariant.list; is_group = site_sub c.args.g.now c.len-i-end.ensures.group (point_in c.args.p.now) c.args.p.now.in_range.positive c.loop-i.invariant.list s.site; sum = sym c.loop-i.invariant.sum }

pub returns-clause-special : goal.returns-clause-special
returns-clause-special c =
    let s = all_fixing c.args.g.now (point_in c.args.p.now) c.loop-i.i c.loop-i.invariant.list (omega arith) c.loop-i.invariant.fixing in
    record { site = c.loop-i.invariant.list; is_site = s.site; mean = mean_from_sum (length c.args.g.now) c.loop-i.invariant.list c.loop-i.sum c.average.result c.loop-i.invariant.sum c.average.ensures.value }

pub returns-clause-average : goal.returns-clause-average
returns-clause-average c =
    let list = c.loop-i.invariant.list in
    let site = (all_fixing c.args.g.now (point_in c.args.p.now) c.loop-i.i list (omega arith) c.loop-i.invariant.fixing).site in
    let mean = mean_from_sum (length c.args.g.now) list c.loop-i.sum c.average.result c.loop-i.invariant.sum c.average.ensures.value in
    λ inside. cell_average c.args.g.now c.len-i-end.ensures.group (point_in c.args.p.now) c.average.result c.args.p.now.in_range.positive inside (record { site = list; is_site = site; mean = mean })

pub returns-clause-group : goal.returns-clause-group
returns-clause-group c = c.len-i-end.ensures.group
