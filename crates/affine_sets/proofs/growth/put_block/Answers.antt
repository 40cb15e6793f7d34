use Rattle.std.proofs.Common.{◌+◌, ◌*◌, get_or, length, inl, inr, refl, sym, subst, arith}
use Rattle.std.proofs.lemmas.Option.{slice_get-get_or}
use Rattle.std.proofs.lemmas.Result.{err_from_is_err_and}
use Rattle.std.proofs.lemmas.List.Elements.{Contains-get_or}
use Rattle.lattice_algebra.specs.Operator.{AreWithin}
use Rattle.affine_sets.specs.declared.TheConstants.{MAX_GROWN_SHIFT}
use Rattle.affine_sets.specs.Growth.{HoldsMap, IsGrowing, Extends}
use Rattle.affine_sets.proofs.PlacedMaps.{identity_place}
use Rattle.affine_sets.proofs.Putting.{held_more, in_own_block, putting_none, putting_more, holds_only, put_whole, extends_one, room_for_first, torn_by, first_size, old_size, block_size}
use Rattle.affine_sets.proofs.growth.put_block.Goals as goal

pub put-requires-clause-place : goal.put-requires-clause-place
put-requires-clause-place c = c.requires.place

pub put-requires-clause-room : goal.put-requires-clause-room
put-requires-clause-room c = omega (arith, c.requires.group.within, c.requires.place)

pub put-requires-clause-zero : goal.put-requires-clause-zero
put-requires-clause-zero c = c.requires.growing.zero

pub returns-in_err-put-clause-apart : goal.returns-in_err-put-clause-apart
returns-in_err-put-clause-apart c =
    let g = c.args.g.now in
    let x = c.args.x.now in
    let p = err_from_is_err_and c.from_residual.result c.from_residual.ensures.1 in
    rw p.1 (torn_by g c.args.old.now c.args.held.now c.args.held.now x x c.requires.group c.requires.place (λ e h. inl h) (in_own_block g c.args.old.now x c.requires.group c.requires.old) c.in_err-put.ensures.apart)

pub returns-then-not-branch-clause-growing : goal.returns-then-not-branch-clause-growing
returns-then-not-branch-clause-growing c = subst (λ v. IsGrowing c.args.g.now c.args.old.now v c.args.firsts.now.items) (sym (c.in_ok-put.ensures.same c.if-not-branch.true)) c.requires.growing

pub returns-then-not-branch-clause-capacity : goal.returns-then-not-branch-clause-capacity
returns-then-not-branch-clause-capacity c = refl

pub returns-then-not-branch-clause-extends : goal.returns-then-not-branch-clause-extends
returns-then-not-branch-clause-extends c = λ j r e. e

pub returns-then-not-branch-clause-keeps : goal.returns-then-not-branch-clause-keeps
returns-then-not-branch-clause-keeps c = λ y h. subst (λ v. HoldsMap c.args.g.now v y) (sym (c.in_ok-put.ensures.same c.if-not-branch.true)) h

pub returns-then-not-branch-clause-has : goal.returns-then-not-branch-clause-has
returns-then-not-branch-clause-has c = (c.args.x.now, c.requires.place, (c.in_ok-put.ensures.puts c.args.x.now.place c.args.x.now.shift).1 (inr (refl, refl)), refl)

pub returns-then-not-branch-clause-adds : goal.returns-then-not-branch-clause-adds
returns-then-not-branch-clause-adds c = λ y h. inl (subst (λ v. HoldsMap c.args.g.now v y) (c.in_ok-put.ensures.same c.if-not-branch.true) h)

pub push_reserved-requires : goal.push_reserved-requires
push_reserved-requires c =
    let r = room_for_first c.args.g.now c.args.old.now c.args.firsts.now.items c.args.held.now c.args.x.now c.requires.growing (c.in_ok-put.ensures.fresh c.if-not-branch.false) c.requires.place in
    omega (arith, c.args.firsts.now.ok.0, r, c.requires.room)

pub loop-h-init : goal.loop-h-init
loop-h-init c =
    let g = c.args.g.now in
    let old = c.args.old.now in
    let firsts = c.args.firsts.now in
    let before = c.args.held.now in
    let x = c.args.x.now in
    let r = room_for_first g old firsts.items before x c.requires.growing (c.in_ok-put.ensures.fresh c.if-not-branch.false) c.requires.place in
    putting_none g old firsts.items before c.put.new.held x c.requires.group c.requires.old c.requires.growing c.in_ok-put.ensures.puts c.requires.place
    (first_size firsts.len (length g) x (omega (arith, firsts.ok.0, r)) c.requires.group.within c.requires.size)

pub after-requires-clause-left : goal.after-requires-clause-left
after-requires-clause-left c = c.requires.old.within c.loop-h.h-index identity_place c.loop-h-test.true

pub after-requires-clause-right : goal.after-requires-clause-right
after-requires-clause-right c = c.requires.place

pub after-requires-clause-left_size : goal.after-requires-clause-left_size
after-requires-clause-left_size c = old_size (get_or c.args.old.now c.loop-h.h-index identity_place) (c.requires.old.size c.loop-h.h-index identity_place c.loop-h-test.true)

pub after-requires-clause-right_size : goal.after-requires-clause-right_size
after-requires-clause-right_size c =
    let firsts = c.args.firsts.now in
    let r = room_for_first c.args.g.now c.args.old.now firsts.items c.args.held.now c.args.x.now c.requires.growing (c.in_ok-put.ensures.fresh c.if-not-branch.false) c.requires.place in
    first_size firsts.len (length c.args.g.now) c.args.x.now (omega (arith, firsts.ok.0, r)) c.requires.group.within c.requires.size

pub put-requires-in-loop-h-clause-place : goal.put-requires-in-loop-h-clause-place
put-requires-in-loop-h-clause-place c = c.after.ensures.within

pub put-requires-in-loop-h-clause-room : goal.put-requires-in-loop-h-clause-room
put-requires-in-loop-h-clause-room c = omega (arith, c.requires.group.within, c.after.ensures.within)

pub put-requires-in-loop-h-clause-zero : goal.put-requires-in-loop-h-clause-zero
put-requires-in-loop-h-clause-zero c = c.loop-h.invariant.keeps 0 _ c.requires.growing.zero

pub returns-in_err-put-2-clause-capacity : goal.returns-in_err-put-2-clause-capacity
returns-in_err-put-2-clause-capacity c = c.push_reserved.ensures.capacity

pub returns-in_err-put-2-clause-apart : goal.returns-in_err-put-2-clause-apart
returns-in_err-put-2-clause-apart c =
    let g = c.args.g.now in
    let old = c.args.old.now in
    let x = c.args.x.now in
    let i = c.loop-h.h-index in
    let p = err_from_is_err_and c.from_residual-in_err-put-2.result c.from_residual-in_err-put-2.ensures.1 in
    rw p.1 (torn_by g old c.args.held.now c.loop-h.held x c.after.result c.requires.group c.after.ensures.within (holds_only g old c.args.held.now c.loop-h.held x i c.loop-h.invariant)
    (get_or old i identity_place, Contains-get_or old i identity_place c.loop-h-test.true, sym c.after.ensures.value) c.in_err-put-2.ensures.apart)

pub loop-h-preserved : goal.loop-h-preserved
loop-h-preserved c =
    let g = c.args.g.now in
    let old = c.args.old.now in
    let firsts = c.args.firsts.now in
    let before = c.args.held.now in
    let x = c.args.x.now in
    let y = c.after.result in
    let i = c.loop-h.h-index in
    let h = get_or old i identity_place in
    let r = room_for_first g old firsts.items before x c.requires.growing (c.in_ok-put.ensures.fresh c.if-not-branch.false) c.requires.place in
    putting_more g old before c.loop-h.held c.put-in-loop-h.new.held x y h i c.loop-h.invariant c.in_ok-put-2.ensures.puts (slice_get-get_or old i identity_place c.loop-h-test.true) c.after.ensures.value c.after.ensures.within
    (block_size firsts.len (length g) y (omega (arith, firsts.ok.0, r)) c.requires.group.within
    (c.after.ensures.size MAX_GROWN_SHIFT ((firsts.len + 1) * 7000000) (c.requires.old.size i identity_place c.loop-h-test.true) c.requires.size))

pub returns-clause-growing : goal.returns-clause-growing
returns-clause-growing c =
    let g = c.args.g.now in
    let old = c.args.old.now in
    let firsts = c.args.firsts.now in
    let x = c.args.x.now in
    subst (IsGrowing g old c.loop-h.held) (sym c.push_reserved.ensures.items)
    (put_whole g old firsts.items c.args.held.now c.loop-h.held x c.loop-h.h-index c.requires.old c.requires.growing c.loop-h.invariant c.loop-h-test.false (c.in_ok-put.ensures.fresh c.if-not-branch.false)
    (subst (λ n. AreWithin ((n + 1) * 7000000) x.shift.x x.shift.y x.shift.z) firsts.ok.0 c.requires.size))

pub returns-clause-capacity : goal.returns-clause-capacity
returns-clause-capacity c = c.push_reserved.ensures.capacity

pub returns-clause-extends : goal.returns-clause-extends
returns-clause-extends c = subst (Extends c.args.firsts.now.items) (sym c.push_reserved.ensures.items) (extends_one c.args.firsts.now.items c.args.x.now)

pub returns-clause-keeps : goal.returns-clause-keeps
returns-clause-keeps c = λ y h. held_more c.args.g.now c.args.held.now c.loop-h.held c.loop-h.invariant.keeps y h

pub returns-clause-has : goal.returns-clause-has
returns-clause-has c = (c.args.x.now, c.requires.place, c.loop-h.invariant.has, refl)

pub returns-clause-adds : goal.returns-clause-adds
returns-clause-adds c = holds_only c.args.g.now c.args.old.now c.args.held.now c.loop-h.held c.args.x.now c.loop-h.h-index c.loop-h.invariant
