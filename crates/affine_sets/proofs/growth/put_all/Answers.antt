use Rattle.std.proofs.Common.{◌≡◌, Some, slice_get, arith}
use Rattle.std.proofs.lemmas.Option.{slice_get_read}
use Rattle.affine_sets.specs.Growth.{given_maps}
use Rattle.affine_sets.proofs.GrowingBlocks.{few_blocks, one_done, all_done}
use Rattle.affine_sets.proofs.growth.put_all.Goals as goal

pub loop-done-smaller : goal.loop-done-smaller
loop-done-smaller c =
    omega (arith, few_blocks c.args.g.now c.args.old.now c.loop-done.held c.loop-done.firsts.items c.loop-done.invariant.growing, c.loop-done.firsts.ok.0, c.len.ensures, c.loop-done-test.true)

pub loop-done-preserved : goal.loop-done-preserved
loop-done-preserved c =
    let put = c.in_ok-put_next.ensures in
    let was = c.loop-done.invariant in
    let firsts = c.loop-done.firsts.items in
    let r = c.index.result.now in
    let at : slice_get firsts c.loop-done.done ≡ Some r = slice_get_read firsts c.len.result c.loop-done.done r (omega (arith, c.len.ensures, c.loop-done.firsts.ok.0)) c.loop-done-test.true c.index.ensures in
    record {
      growing = put.growing;
      products = put.products;
      room = omega (arith, put.capacity, was.room);
      done = one_done c.args.g.now c.args.old.now (given_maps c.args.g.now c.args.old.now c.args.e.now) c.loop-done.held c.put_next.new.held firsts c.put_next.new.firsts.items c.loop-done.done r was.done
          (omega (arith, c.len.ensures, c.loop-done.firsts.ok.0, c.loop-done-test.true)) at put.extends put.keeps put.times;
    }

pub returns-clause-closed : goal.returns-clause-closed
returns-clause-closed c =
    all_done c.args.g.now c.args.old.now (given_maps c.args.g.now c.args.old.now c.args.e.now) c.loop-done.held c.loop-done.firsts.items c.loop-done.done c.loop-done.invariant.growing c.loop-done.invariant.done
    (omega (arith, c.len.ensures, c.loop-done.firsts.ok.0, c.loop-done-test.false))
