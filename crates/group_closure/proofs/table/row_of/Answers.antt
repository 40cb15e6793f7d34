use Rattle.std.proofs.Common.{◌≡◌, ◌<◌, Some, length, slice_get, get_or, sym, refl, arith, ap, subst, ◌∙◌}
use Rattle.std.proofs.Math.ListN.{length-set}
use Rattle.std.proofs.lemmas.List.Sorted.{length_permutation}
use Rattle.std.proofs.lemmas.Option.{slice_get_read, slice_get_within}
use Rattle.lattice_algebra.specs.Operator.{identity_operator, product}
use Rattle.exact_ops.specs.declared.TheConstants.{UNIT}
use Rattle.group_closure.proofs.Tables.{first_found, earlier_found, next_found, read_row, begun_first, begun_next, begun_all}
use Rattle.group_closure.proofs.Places.{some_at}
use Rattle.group_closure.proofs.table.row_of.Goals as goal

pub loop-c-init : goal.loop-c-init
loop-c-init c =
    let made = c.requires.made in
    record {
      size = c.beginning_with-row.ensures.size;
      size_found = c.beginning_with-found.ensures.size;
      begun = λ f at.
          begun_first c.args.making.now.members.items c.args.members.now c.args.ranks.now c.requires.ranks made.generated.distinct c.beginning_with-found.result c.beginning_with-row.result c.args.place f c.requires.group made.generated.first (first_found c.args.making.now made f c.args.place at identity_operator made.generated.first) c.beginning_with-found.ensures.first (c.beginning_with-row.ensures.first ∙ ap (λ j. get_or c.args.ranks.now j 0) c.from.ensures);
    }

pub index-origin-requires : goal.index-origin-requires
index-origin-requires c = omega (arith, c.loop-c-test.true, c.requires.made.origins.count, length_permutation c.args.making.now.members.items c.args.members.now c.requires.same)

pub bounds-found-from : goal.bounds-found-from
bounds-found-from c =
    let made = c.requires.made in
    let n = length_permutation c.args.making.now.members.items c.args.members.now c.requires.same in
    let l : c.loop-c.c < length c.args.making.now.members.items = omega (arith, c.loop-c-test.true, n) in
    let p : 0 < c.loop-c.c = omega (arith, c.loop-c.auto.c) in
    let o : slice_get c.args.making.now.origins.items c.loop-c.c ≡ Some c.index-origin.result.now = slice_get_read c.args.making.now.origins.items (length c.args.making.now.origins.items) c.loop-c.c c.index-origin.result.now refl (omega (arith, l, made.origins.count)) c.index-origin.ensures in
    omega (arith, c.from-in-loop-c.ensures, (made.origins.each c.loop-c.c c.index-origin.result.now p o).before, c.loop-c-test.true, c.requires.group.within)

pub index-requires : goal.index-requires
index-requires c =
    let made = c.requires.made in
    let n = length_permutation c.args.making.now.members.items c.args.members.now c.requires.same in
    let l : c.loop-c.c < length c.args.making.now.members.items = omega (arith, c.loop-c-test.true, n) in
    let p : 0 < c.loop-c.c = omega (arith, c.loop-c.auto.c) in
    let o : slice_get c.args.making.now.origins.items c.loop-c.c ≡ Some c.index-origin.result.now = slice_get_read c.args.making.now.origins.items (length c.args.making.now.origins.items) c.loop-c.c c.index-origin.result.now refl (omega (arith, l, made.origins.count)) c.index-origin.ensures in
    let f = some_at c.args.making.now.members.items c.args.place (omega (arith, c.requires.within, n)) in
    let w = c.loop-c.invariant.begun f.0 f.1 in
    let e = earlier_found c.args.making.now made f.0 c.args.place f.1 c.args.ranks.now c.loop-c.found c.loop-c.row c.loop-c.c c.index-origin.result.now w p l o in
    let i : c.from-earlier.result ≡ get_or c.loop-c.found c.index-origin.result.now.earlier 0 = c.from-earlier.ensures ∙ ap (λ j. get_or c.loop-c.found j 0) c.from-in-loop-c.ensures in
    omega (arith, i, e, made.all)

pub bounds-index-from : goal.bounds-index-from
bounds-index-from c =
    let made = c.requires.made in
    let n = length_permutation c.args.making.now.members.items c.args.members.now c.requires.same in
    let l : c.loop-c.c < length c.args.making.now.members.items = omega (arith, c.loop-c-test.true, n) in
    let p : 0 < c.loop-c.c = omega (arith, c.loop-c.auto.c) in
    let o : slice_get c.args.making.now.origins.items c.loop-c.c ≡ Some c.index-origin.result.now = slice_get_read c.args.making.now.origins.items (length c.args.making.now.origins.items) c.loop-c.c c.index-origin.result.now refl (omega (arith, l, made.origins.count)) c.index-origin.ensures in
    omega (arith, c.from-in-loop-c-2.ensures, (made.origins.each c.loop-c.c c.index-origin.result.now p o).known, made.few, made.generated.within)

pub bounds-ranks-from-in-loop-c : goal.bounds-ranks-from-in-loop-c
bounds-ranks-from-in-loop-c c =
    let made = c.requires.made in
    let n = length_permutation c.args.making.now.members.items c.args.members.now c.requires.same in
    let l : c.loop-c.c < length c.args.making.now.members.items = omega (arith, c.loop-c-test.true, n) in
    let p : 0 < c.loop-c.c = omega (arith, c.loop-c.auto.c) in
    let o : slice_get c.args.making.now.origins.items c.loop-c.c ≡ Some c.index-origin.result.now = slice_get_read c.args.making.now.origins.items (length c.args.making.now.origins.items) c.loop-c.c c.index-origin.result.now refl (omega (arith, l, made.origins.count)) c.index-origin.ensures in
    let f = some_at c.args.making.now.members.items c.args.place (omega (arith, c.requires.within, n)) in
    let w = c.loop-c.invariant.begun f.0 f.1 in
    let q = read_row c.args.making.now made f.0 c.args.place f.1 c.args.ranks.now c.loop-c.found c.loop-c.row c.loop-c.c c.index-origin.result.now w p l o c.from-in-loop-c.result c.from-earlier.result c.index.result.now c.from-in-loop-c.ensures c.from-earlier.ensures c.index.ensures in
    let g = some_at c.args.making.now.members.items c.loop-c.c l in
    let there = slice_get_within c.args.making.now.members.items (get_or c.index.result.now c.index-origin.result.now.generator 0) (product UNIT f.0 g.0) (next_found c.args.making.now made f.0 c.args.place f.1 c.args.ranks.now c.loop-c.found c.loop-c.row c.loop-c.c c.index-origin.result.now c.index.result.now w p l o q g.0 g.1) in
    let i : c.from-in-loop-c-3.result ≡ get_or c.index.result.now c.index-origin.result.now.generator 0 = c.from-in-loop-c-3.ensures ∙ ap (λ j. get_or c.index.result.now j 0) c.from-in-loop-c-2.ensures in
    omega (arith, i, there, n, c.requires.group.within)

pub bounds-row-from : goal.bounds-row-from
bounds-row-from c =
    let n = length_permutation c.args.making.now.members.items c.args.members.now c.requires.same in
    let g = some_at c.args.making.now.members.items c.loop-c.c (omega (arith, c.loop-c-test.true, n)) in
    omega (arith, c.from-in-loop-c-4.ensures, slice_get_within c.args.members.now (get_or c.args.ranks.now c.loop-c.c 0) g.0 (c.requires.ranks c.loop-c.c g.0 g.1), c.requires.group.within)

pub loop-c-preserved : goal.loop-c-preserved
loop-c-preserved c =
    let made = c.requires.made in
    let n = length_permutation c.args.making.now.members.items c.args.members.now c.requires.same in
    let l : c.loop-c.c < length c.args.making.now.members.items = omega (arith, c.loop-c-test.true, n) in
    let p : 0 < c.loop-c.c = omega (arith, c.loop-c.auto.c) in
    let o : slice_get c.args.making.now.origins.items c.loop-c.c ≡ Some c.index-origin.result.now = slice_get_read c.args.making.now.origins.items (length c.args.making.now.origins.items) c.loop-c.c c.index-origin.result.now refl (omega (arith, l, made.origins.count)) c.index-origin.ensures in
    let x = c.index.result.now in
    let k : c.from-in-loop-c-2.result ≡ c.index-origin.result.now.generator = c.from-in-loop-c-2.ensures in
    let b = some_at c.args.making.now.members.items c.loop-c.c l in
    let rank : c.from-in-loop-c-4.result < length c.loop-c.row = omega (arith, c.from-in-loop-c-4.ensures, c.loop-c.invariant.size, slice_get_within c.args.members.now (get_or c.args.ranks.now c.loop-c.c 0) b.0 (c.requires.ranks c.loop-c.c b.0 b.1), c.requires.group.within) in
    record {
      size = length-set _ _ _ ∙ c.loop-c.invariant.size;
      size_found = length-set _ _ _ ∙ c.loop-c.invariant.size_found;
      begun = λ f at.
          let w = c.loop-c.invariant.begun f at in
          let q = read_row c.args.making.now made f c.args.place at c.args.ranks.now c.loop-c.found c.loop-c.row c.loop-c.c c.index-origin.result.now w p l o c.from-in-loop-c.result c.from-earlier.result x c.from-in-loop-c.ensures c.from-earlier.ensures c.index.ensures in
          begun_next c.args.making.now.members.items c.args.members.now c.args.ranks.now c.requires.ranks made.generated.distinct c.loop-c.found c.loop-c.row c.loop-c.c (get_or x c.from-in-loop-c-2.result 0) c.from-in-loop-c-3.result c.from-in-loop-c-4.result f w l (omega (arith, l, n, c.requires.group.within, c.loop-c.invariant.size_found)) rank c.from-in-loop-c-3.ensures c.from-in-loop-c-4.ensures
          (λ g e. subst (λ j. slice_get c.args.making.now.members.items (get_or x j 0) ≡ Some (product UNIT f g)) (sym k) (next_found c.args.making.now made f c.args.place at c.args.ranks.now c.loop-c.found c.loop-c.row c.loop-c.c c.index-origin.result.now x w p l o q g e));
    }

pub returns : goal.returns
returns c = λ f at.
    begun_all c.args.making.now.members.items c.args.members.now c.args.ranks.now c.requires.ranks c.requires.made.generated.distinct c.loop-c.found c.loop-c.row c.loop-c.c f c.requires.group c.requires.same (omega (arith, c.loop-c-test.false, length_permutation c.args.making.now.members.items c.args.members.now c.requires.same)) (c.loop-c.invariant.begun f at)
