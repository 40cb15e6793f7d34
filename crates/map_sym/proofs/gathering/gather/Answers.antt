use Rattle.std.proofs.Common.{◌≡◌, ◌<◌, ◌≤◌, ◌+◌, pos, ◌+ℤ◌, unsigned_abs, w32, FitsSigned, length, get_or, ap, sym, ◌∙◌, subst, refl, arith}
use Rattle.grid_tags.specs.declared.TheConstants.{MAX_POINTS}
use Rattle.map_sym.specs.Steps.{sum_below, AreGathered}
use Rattle.map_sym.proofs.Sums.{most, added, added_on, added_small, below_more, below_all, gathered_more, small_more}
use Rattle.map_sym.proofs.gathering.gather.Goals as goal

pub loop-place-init : goal.loop-place-init
loop-place-init c = record {
  gathered = λ k l. c.requires.none k;
  small = λ k. subst (λ z. unsigned_abs z ≤ 0) (sym (c.requires.none k)) (omega arith);
  summed = refl;
  total_small = omega arith;
}

pub loop-place-preserved : goal.loop-place-preserved
loop-place-preserved c =
    let firsts = c.args.firsts.now in
    let values = c.args.values.now in
    let sums = c.loop-place.sums in
    let n = c.loop-place.place in
    let was = c.loop-place.invariant in
    let v = get_or values n (pos 0) in
    let s = get_or sums (get_or firsts n 0) (pos 0) in
    let fits : FitsSigned w32 v = assumption c in
    let few : n < MAX_POINTS = omega (arith, c.loop-place-test.true, c.requires.few) in
    let small = was.small (get_or firsts n 0) in
    let within : get_or firsts n 0 < length sums = let w = c.requires.within n (omega (arith, c.loop-place-test.true, c.requires.len)) in omega (arith, w, c.loop-place.auto.sums) in
    let is = added n s v c.from-value.result few small fits c.from-value.ensures in
    let total_is = added_on n _ v c.from-value.result few was.total_small fits c.from-value.ensures in
    record {
      gathered = gathered_more firsts values sums n _ was.gathered within is;
      small = small_more firsts values sums n _ was.small within (subst (λ z. unsigned_abs z ≤ most (n + 1)) (sym is) (added_small n s v c.from-value.result few small fits c.from-value.ensures));
      summed = total_is ∙ ap (λ z. z +ℤ v) was.summed ∙ sym (below_more (λ k. get_or values k (pos 0)) n);
      total_small = subst (λ z. unsigned_abs z ≤ most (n + 1)) (sym total_is) (added_small n _ v c.from-value.result few was.total_small fits c.from-value.ensures);
    }

pub returns-clause-sums : goal.returns-clause-sums
returns-clause-sums c =
    let end : c.loop-place.place ≡ length c.args.values.now = omega (arith, c.loop-place-test.false, c.loop-place.auto.place-end) in
    subst (AreGathered c.args.firsts.now c.args.values.now c.loop-place.sums) end c.loop-place.invariant.gathered

pub returns-clause-total : goal.returns-clause-total
returns-clause-total c =
    let end : c.loop-place.place ≡ length c.args.values.now = omega (arith, c.loop-place-test.false, c.loop-place.auto.place-end) in
    c.loop-place.invariant.summed ∙ ap (sum_below (λ k. get_or c.args.values.now k (pos 0))) end ∙ below_all c.args.values.now
