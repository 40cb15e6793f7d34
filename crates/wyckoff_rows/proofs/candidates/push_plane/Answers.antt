use Rattle.std.proofs.Common.{◌≡◌, ◌+ℤ◌, ◌≤ℤ◌, ◌<ℤ◌, pos, map, sym, subst, rules, to_z, of_z, w64}
use Rattle.std.proofs.Math.Facts.{to_z-of_z}
use Rattle.lattice_algebra.specs.Operator.{AreWithin}
use Rattle.exact_ops.specs.declared.TheConstants.{MAX_SHIFT}
use Rattle.exact_ops.specs.Elements.{map_in}
use Rattle.wyckoff_rows.specs.Steps.{IsIn, IsPushed}
use Rattle.wyckoff_rows.proofs.Pushing.{Plane, IsUpTo, plane_step, plane_done, next_up_to, up_one}
use Rattle.wyckoff_rows.proofs.candidates.push_plane.Goals as goal

pub push_line-requires : goal.push_line-requires
push_line-requires c =
    let z = to_z w64 c.loop-y.y-bits in
    let l : z <ℤ c.args.ys.end = search rules in
    λ k h. subst (λ x. AreWithin MAX_SHIFT x z k) (sym (to_z-of_z c.ranges.x)) (c.requires z k (c.loop-y.invariant.from, l) h)

pub loop-y-preserved : goal.loop-y-preserved
loop-y-preserved c =
    let z = to_z w64 c.loop-y.y-bits in
    let l : z <ℤ c.args.ys.end = search rules in
    let n : to_z w64 (of_z w64 (z +ℤ pos 1)) ≡ z +ℤ pos 1 = search rules in
    let f = c.args.op.now in
    let old = map map_in c.args.list.now.items in
    let new = map map_in c.push_line.new.list.items in
    record {
      pushed = subst (λ v. IsPushed (Plane (to_z w64 (of_z w64 c.args.x)) c.args.ys c.args.zs v) f old new) (sym n)
          (plane_step f (to_z w64 (of_z w64 c.args.x)) z c.args.ys c.args.zs old (map map_in c.loop-y.list.items) new c.loop-y.invariant.from c.loop-y.invariant.pushed c.in_ok-push_line.ensures);
      from = subst (λ v. c.args.ys.low ≤ℤ v) (sym n) (up_one c.args.ys.low z c.loop-y.invariant.from);
      within = subst (λ v. IsUpTo c.args.ys v) (sym n) (next_up_to c.args.ys z l);
    }

pub returns : goal.returns
returns c =
    let z = to_z w64 c.loop-y.y-bits in
    let e : c.args.ys.end ≤ℤ z = search rules in
    let old = map map_in c.args.list.now.items in
    let new = map map_in c.loop-y.list.items in
    subst (λ x. IsPushed (λ k. (k.x ≡ x) × IsIn c.args.ys k.y × IsIn c.args.zs k.z) c.args.op.now old new) (to_z-of_z c.ranges.x)
    (plane_done c.args.op.now (to_z w64 (of_z w64 c.args.x)) z c.args.ys c.args.zs old new c.loop-y.invariant.within e c.loop-y.invariant.pushed)
