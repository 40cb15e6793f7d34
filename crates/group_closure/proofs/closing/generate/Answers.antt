use Rattle.std.proofs.Common.{◌≡◌, ◌<◌, arith, length, slice_get, Some, refl}
use Rattle.group_closure.proofs.Growing.{extends_trans}
use Rattle.group_closure.proofs.Origins.{products_more}
use Rattle.group_closure.proofs.Places.{read_at}
use Rattle.group_closure.proofs.UnderWay.{all_generated}
use Rattle.group_closure.proofs.closing.generate.Goals as goal

pub multiply-requires-clause-member : goal.multiply-requires-clause-member
multiply-requires-clause-member c = read_at c.loop-done.members.items c.loop-done.members.items _ _ _ refl refl (omega arith) c.index.ensures

pub loop-done-preserved : goal.loop-done-preserved
loop-done-preserved c =
    let w = c.loop-done.invariant in
    let l : c.loop-done.done < length c.loop-done.members.items = omega arith in
    let r = c.in_ok-row.ensures in
    let at : slice_get c.loop-done.members.items c.loop-done.done ≡ Some c.index.result.now = read_at c.loop-done.members.items c.loop-done.members.items _ _ _ refl refl l c.index.ensures in
    record {
      state = r.state;
      extends = extends_trans c.args.members.now.items c.loop-done.members.items c.multiply.new.members.items w.extends r.extends;
      products = rw c.push_reserved.ensures.items (products_more c.args.generators.now c.loop-done.members.items c.multiply.new.members.items c.index.result.now c.loop-done.products.items c.in_ok-row.row c.loop-done.done r.extends w.products (omega (arith, w.count)) at r.products);
      count = omega (arith, c.push_reserved.ensures.len, w.count);
      capacity = omega (arith, c.multiply.ensures.capacity);
      capacity_origins = omega (arith, c.multiply.ensures.capacity_origins);
      capacity_products = omega (arith, c.push_reserved.ensures.capacity);
    }

pub returns-clause-ok : goal.returns-clause-ok
returns-clause-ok c =
    let w = c.loop-done.invariant in
    all_generated c.args.generators.now c.loop-done.members.items c.loop-done.origins.items c.loop-done.buckets w.state c.loop-done.products.items w.products (omega (arith, w.count, c.loop-done-test.false))

pub returns-clause-all : goal.returns-clause-all
returns-clause-all c = omega (arith, c.loop-done.invariant.count, c.loop-done.invariant.products.within, c.loop-done-test.false)
