use Rattle.std.proofs.Common.{◌≡◌, ◌+ℤ◌, ◌≤ℤ◌, ◌<ℤ◌, pos, map, sym, subst, rules, to_z, of_z, w64}
use Rattle.exact_ops.specs.Elements.{map_in}
use Rattle.wyckoff_rows.specs.Steps.{IsPushed}
use Rattle.wyckoff_rows.proofs.Pushing.{Box, IsUpTo, box_step, box_done, next_up_to, up_one}
use Rattle.wyckoff_rows.proofs.candidates.push_box.Goals as goal

pub push_plane-requires : goal.push_plane-requires
push_plane-requires c =
    let z = to_z w64 c.loop-x.x-bits in
    let l : z <ℤ c.args.xs.end = search rules in
    λ j k g h. c.requires z j k (c.loop-x.invariant.from, l) g h

pub loop-x-preserved : goal.loop-x-preserved
loop-x-preserved c =
    let z = to_z w64 c.loop-x.x-bits in
    let l : z <ℤ c.args.xs.end = search rules in
    let n : to_z w64 (of_z w64 (z +ℤ pos 1)) ≡ z +ℤ pos 1 = search rules in
    let f = c.args.op.now in
    let old = map map_in c.args.list.now.items in
    let new = map map_in c.push_plane.new.list.items in
    record {
      pushed = subst (λ v. IsPushed (Box c.args.xs c.args.ys c.args.zs v) f old new) (sym n)
          (box_step f z c.args.xs c.args.ys c.args.zs old (map map_in c.loop-x.list.items) new c.loop-x.invariant.from c.loop-x.invariant.pushed c.in_ok-push_plane.ensures);
      from = subst (λ v. c.args.xs.low ≤ℤ v) (sym n) (up_one c.args.xs.low z c.loop-x.invariant.from);
      within = subst (λ v. IsUpTo c.args.xs v) (sym n) (next_up_to c.args.xs z l);
    }

pub returns : goal.returns
returns c =
    let z = to_z w64 c.loop-x.x-bits in
    let e : c.args.xs.end ≤ℤ z = search rules in
    box_done c.args.op.now z c.args.xs c.args.ys c.args.zs (map map_in c.args.list.now.items) (map map_in c.loop-x.list.items) c.loop-x.invariant.within e c.loop-x.invariant.pushed
