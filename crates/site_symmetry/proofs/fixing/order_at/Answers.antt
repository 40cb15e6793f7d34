use Rattle.std.proofs.Common.{◌≡◌, ◌+◌, Some, get_or, slice_get, sym, subst, arith, ◌∙◌}
use Rattle.std.proofs.lemmas.Bool.{false≢true}
use Rattle.std.proofs.lemmas.Option.{slice_get-get_or}
use Rattle.lattice_algebra.specs.Operator.{Operator, identity_operator}
use Rattle.exact_ops.specs.Numbers.{point_in}
use Rattle.site_symmetry.proofs.FixingLists.{AreSoMany, one_more_counted, no_more_counted, all_counted}
use Rattle.site_symmetry.proofs.fixing.order_at.Goals as goal
use Rattle.site_symmetry.proofs.fixing.order_at.Goals.{then-is_some, else-is_some}

pub loop-i-preserved : goal.loop-i-preserved
loop-i-preserved c =
    let g = c.args.group.now in
    let p = point_in c.args.point.now in
    let i = c.loop-i.i in
    let f : Operator = get_or g i identity_operator in
    let q : slice_get g i ≡ Some f = slice_get-get_or g i identity_operator (omega arith) in
    let h = c.fixes.ensures.some f q in
    let was = c.loop-i.invariant.counted in
    elim c.if-is_some.branch [
      | then-is_some w ↦ record {
        counted = subst (AreSoMany g p (i + 1)) (sym w.order-is) (one_more_counted g p i c.loop-i.order f c.len-i-end.ensures.group c.args.point.now.in_range.positive was q (h.0 (sym c.is_some.ensures ∙ w.if-is_some.true)));
        within = omega arith;
      }
      | else-is_some w ↦ record {
        counted = subst (AreSoMany g p (i + 1)) (sym w.order-is) (no_more_counted g p i c.loop-i.order f was q (λ s. false≢true (sym w.if-is_some.false ∙ c.is_some.ensures ∙ h.1 s)));
        within = omega arith;
      }
    ]

pub returns : goal.returns
returns c = λ site s. all_counted c.args.group.now (point_in c.args.point.now) c.loop-i.i c.loop-i.order (omega arith) c.loop-i.invariant.counted site s
