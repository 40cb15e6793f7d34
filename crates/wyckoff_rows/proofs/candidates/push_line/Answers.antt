use Rattle.std.proofs.Common.{◌≡◌, ◌≤◌, ◌+ℤ◌, ◌≤ℤ◌, ◌<ℤ◌, pos, map, sym, subst, refl, rules, to_z, of_z, w64, unsigned_abs}
use Rattle.std.proofs.Math.Facts.{to_z-of_z}
use Rattle.exact_ops.specs.declared.TheConstants.{MAX_SHIFT}
use Rattle.exact_ops.specs.Elements.{map_in}
use Rattle.wyckoff_rows.specs.Steps.{IsIn, IsPushed}
use Rattle.wyckoff_rows.proofs.Pushing.{Line, IsUpTo, line_step, line_done, move_pushed, next_up_to, up_one}
use Rattle.wyckoff_rows.proofs.candidates.push_line.Goals as goal

pub invariant_of-push : goal.invariant_of-push
invariant_of-push c =
    let l : to_z w64 c.loop-z.z-bits <ℤ c.args.zs.end = search rules in
    let w = c.requires (to_z w64 c.loop-z.z-bits) (c.loop-z.invariant.from, l) in
    record { in_range = record { first = subst (λ v. unsigned_abs v ≤ MAX_SHIFT) (sym (to_z-of_z c.ranges.x)) w.first; second = subst (λ v. unsigned_abs v ≤ MAX_SHIFT) (sym (to_z-of_z c.ranges.y)) w.second; third = w.third } }

pub loop-z-preserved : goal.loop-z-preserved
loop-z-preserved c =
    let z = to_z w64 c.loop-z.z-bits in
    let l : z <ℤ c.args.zs.end = search rules in
    let n : to_z w64 (of_z w64 (z +ℤ pos 1)) ≡ z +ℤ pos 1 = search rules in
    let f = c.args.op.now in
    let old = map map_in c.args.list.now.items in
    let new = map map_in c.push.new.self.items in
    let x = to_z w64 (of_z w64 c.args.x) in
    let y = to_z w64 (of_z w64 c.args.y) in
    record {
      pushed = subst (λ v. IsPushed (Line x y c.args.zs v) f old new) (sym n)
          (line_step f x y z c.args.zs old (map map_in c.loop-z.list.items) new c.loop-z.invariant.from c.loop-z.invariant.pushed
          (move_pushed f (record { x = x; y = y; z = z }) _ c.loop-z.list.items c.push.new.self.items refl (c.in-Ok.ensures).items));
      from = subst (λ v. c.args.zs.low ≤ℤ v) (sym n) (up_one c.args.zs.low z c.loop-z.invariant.from);
      within = subst (λ v. IsUpTo c.args.zs v) (sym n) (next_up_to c.args.zs z l);
    }

pub returns : goal.returns
returns c =
    let z = to_z w64 c.loop-z.z-bits in
    let e : c.args.zs.end ≤ℤ z = search rules in
    let old = map map_in c.args.list.now.items in
    let new = map map_in c.loop-z.list.items in
    subst (λ x. IsPushed (λ k. (k.x ≡ x) × (k.y ≡ c.args.y) × IsIn c.args.zs k.z) c.args.op.now old new) (to_z-of_z c.ranges.x)
    (subst (λ y. IsPushed (λ k. (k.x ≡ to_z w64 (of_z w64 c.args.x)) × (k.y ≡ y) × IsIn c.args.zs k.z) c.args.op.now old new) (to_z-of_z c.ranges.y)
    (line_done c.args.op.now (to_z w64 (of_z w64 c.args.x)) (to_z w64 (of_z w64 c.args.y)) z c.args.zs old new c.loop-z.invariant.within e c.loop-z.invariant.pushed))
