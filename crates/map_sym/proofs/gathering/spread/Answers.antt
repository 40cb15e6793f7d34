use Rattle.std.proofs.Common.{◌≡◌, ◌<◌, pos, w64, FitsSigned, length, get_or, refl, subst, rules, arith}
use Rattle.std.proofs.lemmas.Int.{to_z-of_z}
use Rattle.map_sym.specs.Steps.{AreSpread}
use Rattle.map_sym.proofs.Sums.{spread_more, kept_more}
use Rattle.map_sym.proofs.gathering.spread.Goals as goal

pub loop-place-init : goal.loop-place-init
loop-place-init c = record { spread = λ k l. absurd (omega (arith, l)); kept = λ k l. refl }

pub loop-place-preserved : goal.loop-place-preserved
loop-place-preserved c =
    let firsts = c.args.firsts.now in
    let old = c.args.sums.now in
    let sums = c.loop-place.sums in
    let n = c.loop-place.place in
    let was = c.loop-place.invariant in
    let fits : FitsSigned w64 (get_or sums (get_or firsts n 0) (pos 0)) = search rules in
    let within : n < length sums = omega (arith, c.loop-place-test.true, c.requires.len, c.loop-place.auto.sums) in
    record {
      spread = spread_more firsts old sums n _ c.requires.own c.loop-place-test.true within was.spread was.kept (to_z-of_z w64 _ fits);
      kept = kept_more firsts old sums n _ was.kept;
    }

pub returns : goal.returns
returns c =
    let end : c.loop-place.place ≡ length c.args.sums.now = omega (arith, c.loop-place-test.false, c.loop-place.auto.place-end, c.requires.len) in
    subst (AreSpread c.args.firsts.now c.args.sums.now c.loop-place.sums) end c.loop-place.invariant.spread
