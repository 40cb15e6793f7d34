use Rattle.std.proofs.Common.{◌+◌, ◌*◌, get_or, ◌∙◌, arith}
use Rattle.std.proofs.lemmas.Option.{slice_get-get_or, slice_get_within}
use Rattle.std.proofs.lemmas.Result.{err_from_is_err_and}
use Rattle.std.proofs.lemmas.List.Elements.{Contains-get_or}
use Rattle.affine_sets.specs.declared.TheConstants.{MAX_GROWN_SHIFT}
use Rattle.affine_sets.specs.Growth.{placed_map}
use Rattle.affine_sets.proofs.PlacedMaps.{identity_place}
use Rattle.affine_sets.proofs.Putting.{contained_at, old_size}
use Rattle.affine_sets.proofs.Products.{new_given, old_given}
use Rattle.affine_sets.proofs.Leading.{first_small, leading_none, leading_more, led_by_all, torn_products, next_size}
use Rattle.affine_sets.proofs.growth.put_next.Goals as goal

pub after-requires-clause-left : goal.after-requires-clause-left
after-requires-clause-left c =
    let firsts = c.args.firsts.now.items in
    (first_small c.args.g.now c.args.old.now firsts c.args.held.now c.args.r.now c.requires.growing (contained_at firsts c.requires.first.0 c.args.r.now c.requires.first.1)).0

pub after-requires-clause-right : goal.after-requires-clause-right
after-requires-clause-right c = c.requires.element

pub after-requires-clause-left_size : goal.after-requires-clause-left_size
after-requires-clause-left_size c =
    let firsts = c.args.firsts.now.items in
    (first_small c.args.g.now c.args.old.now firsts c.args.held.now c.args.r.now c.requires.growing (contained_at firsts c.requires.first.0 c.args.r.now c.requires.first.1)).1

pub after-requires-clause-right_size : goal.after-requires-clause-right_size
after-requires-clause-right_size c = old_size c.args.e.now c.requires.size

pub put_block-requires-clause-group : goal.put_block-requires-clause-group
put_block-requires-clause-group c = c.requires.group

pub put_block-requires-clause-old : goal.put_block-requires-clause-old
put_block-requires-clause-old c = c.requires.old

pub put_block-requires-clause-growing : goal.put_block-requires-clause-growing
put_block-requires-clause-growing c = c.requires.growing

pub put_block-requires-clause-room : goal.put_block-requires-clause-room
put_block-requires-clause-room c = c.requires.room

pub put_block-requires-clause-place : goal.put_block-requires-clause-place
put_block-requires-clause-place c = c.after.ensures.within

pub put_block-requires-clause-size : goal.put_block-requires-clause-size
put_block-requires-clause-size c =
    let firsts = c.args.firsts.now in
    let j = c.requires.first.0 in
    let l = slice_get_within firsts.items j c.args.r.now c.requires.first.1 in
    next_size j firsts.len c.after.result (omega (arith, l, firsts.ok.0)) (c.after.ensures.size ((j + 1) * 7000000) MAX_GROWN_SHIFT (c.requires.growing.near j c.args.r.now c.requires.first.1) c.requires.size)

pub returns-in_err-put_block-clause-torn : goal.returns-in_err-put_block-clause-torn
returns-in_err-put_block-clause-torn c =
    let g = c.args.g.now in
    let old = c.args.old.now in
    let firsts = c.args.firsts.now.items in
    let e = c.args.e.now in
    let r = c.args.r.now in
    let p = err_from_is_err_and c.from_residual.result c.from_residual.ensures.1 in
    rw p.1 (torn_products g old firsts c.args.held.now e r c.after.result (placed_map g e) c.requires.growing c.requires.products (contained_at firsts c.requires.first.0 r c.requires.first.1) (new_given g old e) c.after.ensures.value c.in_err-put_block.ensures.apart)

pub loop-h-init : goal.loop-h-init
loop-h-init c =
    let g = c.args.g.now in
    let old = c.args.old.now in
    let firsts = c.args.firsts.now.items in
    let r = c.args.r.now in
    let put = c.in_ok-put_block.ensures in
    record {
      leading = leading_none g old firsts c.put_block.new.firsts.items c.args.held.now c.put_block.new.held c.args.e.now r c.after.result c.requires.growing c.requires.products (contained_at firsts c.requires.first.0 r c.requires.first.1) c.after.ensures.value
          (record { growing = put.growing; extends = put.extends; keeps = put.keeps; has = put.has; adds = put.adds });
      capacity = put.capacity;
    }

pub after-requires-in-loop-h-clause-left : goal.after-requires-in-loop-h-clause-left
after-requires-in-loop-h-clause-left c =
    let firsts = c.args.firsts.now.items in
    (first_small c.args.g.now c.args.old.now firsts c.args.held.now c.args.r.now c.requires.growing (contained_at firsts c.requires.first.0 c.args.r.now c.requires.first.1)).0

pub after-requires-in-loop-h-clause-right : goal.after-requires-in-loop-h-clause-right
after-requires-in-loop-h-clause-right c = c.requires.old.within c.loop-h.h-index identity_place c.loop-h-test.true

pub after-requires-in-loop-h-clause-left_size : goal.after-requires-in-loop-h-clause-left_size
after-requires-in-loop-h-clause-left_size c =
    let firsts = c.args.firsts.now.items in
    (first_small c.args.g.now c.args.old.now firsts c.args.held.now c.args.r.now c.requires.growing (contained_at firsts c.requires.first.0 c.args.r.now c.requires.first.1)).1

pub after-requires-in-loop-h-clause-right_size : goal.after-requires-in-loop-h-clause-right_size
after-requires-in-loop-h-clause-right_size c = old_size (get_or c.args.old.now c.loop-h.h-index identity_place) (c.requires.old.size c.loop-h.h-index identity_place c.loop-h-test.true)

pub put_block-requires-in-loop-h-clause-group : goal.put_block-requires-in-loop-h-clause-group
put_block-requires-in-loop-h-clause-group c = c.requires.group

pub put_block-requires-in-loop-h-clause-old : goal.put_block-requires-in-loop-h-clause-old
put_block-requires-in-loop-h-clause-old c = c.requires.old

pub put_block-requires-in-loop-h-clause-growing : goal.put_block-requires-in-loop-h-clause-growing
put_block-requires-in-loop-h-clause-growing c = c.loop-h.invariant.leading.growing

pub put_block-requires-in-loop-h-clause-room : goal.put_block-requires-in-loop-h-clause-room
put_block-requires-in-loop-h-clause-room c = omega (arith, c.loop-h.invariant.capacity, c.requires.room)

pub put_block-requires-in-loop-h-clause-place : goal.put_block-requires-in-loop-h-clause-place
put_block-requires-in-loop-h-clause-place c = c.after-in-loop-h.ensures.within

pub put_block-requires-in-loop-h-clause-size : goal.put_block-requires-in-loop-h-clause-size
put_block-requires-in-loop-h-clause-size c =
    let firsts = c.loop-h.firsts in
    let j = c.requires.first.0 in
    let r = c.args.r.now in
    let leading = c.loop-h.invariant.leading in
    let at = leading.extends j r c.requires.first.1 in
    let l = slice_get_within firsts.items j r at in
    next_size j firsts.len c.after-in-loop-h.result (omega (arith, l, firsts.ok.0))
    (c.after-in-loop-h.ensures.size ((j + 1) * 7000000) MAX_GROWN_SHIFT (leading.growing.near j r at) (c.requires.old.size c.loop-h.h-index identity_place c.loop-h-test.true))

pub returns-in_err-put_block-2-clause-torn : goal.returns-in_err-put_block-2-clause-torn
returns-in_err-put_block-2-clause-torn c =
    let g = c.args.g.now in
    let old = c.args.old.now in
    let firsts = c.loop-h.firsts.items in
    let e = c.args.e.now in
    let r = c.args.r.now in
    let h = get_or old c.loop-h.h-index identity_place in
    let leading = c.loop-h.invariant.leading in
    let at = leading.extends c.requires.first.0 r c.requires.first.1 in
    let p = err_from_is_err_and c.from_residual-in_err-put_block-2.result c.from_residual-in_err-put_block-2.ensures.1 in
    rw p.1 (torn_products g old firsts c.loop-h.held e r c.after-in-loop-h.result (placed_map g h) leading.growing leading.products (contained_at firsts c.requires.first.0 r at) (old_given g old e h (Contains-get_or old c.loop-h.h-index identity_place c.loop-h-test.true))
    c.after-in-loop-h.ensures.value c.in_err-put_block-2.ensures.apart)

pub loop-h-preserved : goal.loop-h-preserved
loop-h-preserved c =
    let g = c.args.g.now in
    let old = c.args.old.now in
    let r = c.args.r.now in
    let i = c.loop-h.h-index in
    let leading = c.loop-h.invariant.leading in
    let at = leading.extends c.requires.first.0 r c.requires.first.1 in
    let put = c.in_ok-put_block-2.ensures in
    record {
      leading = leading_more g old c.args.firsts.now.items c.loop-h.firsts.items c.put_block-in-loop-h.new.firsts.items c.args.held.now c.loop-h.held c.put_block-in-loop-h.new.held c.args.e.now r c.after-in-loop-h.result (get_or old i identity_place) i leading
          (contained_at c.loop-h.firsts.items c.requires.first.0 r at) (slice_get-get_or old i identity_place c.loop-h-test.true) c.after-in-loop-h.ensures.value (record { growing = put.growing; extends = put.extends; keeps = put.keeps; has = put.has; adds = put.adds });
      capacity = put.capacity ∙ c.loop-h.invariant.capacity;
    }

pub returns-in_err-put_block-2-clause-capacity : goal.returns-in_err-put_block-2-clause-capacity
returns-in_err-put_block-2-clause-capacity c = c.in_err-put_block-2.ensures.capacity ∙ c.loop-h.invariant.capacity

pub returns-clause-growing : goal.returns-clause-growing
returns-clause-growing c = c.loop-h.invariant.leading.growing

pub returns-clause-products : goal.returns-clause-products
returns-clause-products c = c.loop-h.invariant.leading.products

pub returns-clause-capacity : goal.returns-clause-capacity
returns-clause-capacity c = c.loop-h.invariant.capacity

pub returns-clause-extends : goal.returns-clause-extends
returns-clause-extends c = c.loop-h.invariant.leading.extends

pub returns-clause-keeps : goal.returns-clause-keeps
returns-clause-keeps c = c.loop-h.invariant.leading.keeps

pub returns-clause-times : goal.returns-clause-times
returns-clause-times c =
    led_by_all c.args.g.now c.args.old.now c.args.firsts.now.items c.loop-h.firsts.items c.args.held.now c.loop-h.held c.args.e.now c.args.r.now c.loop-h.h-index c.loop-h.invariant.leading c.loop-h-test.false
