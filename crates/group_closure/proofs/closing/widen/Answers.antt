use Rattle.std.proofs.Common.{◌≡◌, arith, [], ◌∷◌, ◌++◌, length, slice_get, Some, refl}
use Rattle.std.proofs.lemmas.Option.{slice_get_read}
use Rattle.std.proofs.lemmas.Result.{err_from_is_err_and}
use Rattle.lattice_algebra.specs.Operator.{product}
use Rattle.exact_ops.specs.declared.TheConstants.{UNIT}
use Rattle.group_closure.proofs.Growing.{extends_refl, extends_trans, extends_added}
use Rattle.group_closure.proofs.Origins.{get_last, adds_made, widened_none, widened_more, widened_all}
use Rattle.group_closure.proofs.Places.{read_at}
use Rattle.group_closure.proofs.UnderWay.{under_way_more, under_way_refused, under_way_added}
use Rattle.group_closure.proofs.closing.widen.Goals as goal

pub loop-k-init : goal.loop-k-init
loop-k-init c = record {
  state = under_way_more c.args.generators.now c.args.members.now.items c.args.origins.now.items c.args.buckets.now c.requires.state c.args.op.now c.requires.narrow c.requires.few;
  extends = extends_refl c.args.members.now.items;
  products = widened_none c.args.generators.now c.args.members.now.items c.args.op.now c.args.products.now.items c.requires.products;
  count = refl;
  capacity = refl;
  capacity_origins = refl;
  capacity_products = refl;
}

pub returns-in_err-place-clause-unclosed : goal.returns-in_err-place-clause-unclosed
returns-in_err-place-clause-unclosed c =
    let w = c.loop-k.invariant in
    let p = err_from_is_err_and c.from_residual.result c.from_residual.ensures.1 in
    let at : slice_get c.loop-k.members.items c.loop-k.k ≡ Some c.index.result.now = read_at c.loop-k.members.items c.loop-k.members.items _ _ _ refl refl (omega (arith, w.products.known.within, w.count, c.loop-k-test.true)) c.index.ensures in
    rw p.1 (under_way_refused (c.args.generators.now ++ c.args.op.now ∷ []) c.loop-k.members.items c.loop-k.origins.items c.loop-k.buckets w.state c.index.result.now c.args.op.now c.loop-k.k (length c.args.generators.now) at (get_last c.args.generators.now c.args.op.now) c.in_err-place.ensures.refused)

pub loop-k-preserved : goal.loop-k-preserved
loop-k-preserved c =
    let w = c.loop-k.invariant in
    let r = c.in_ok-place.ensures in
    let all = c.args.generators.now ++ c.args.op.now ∷ [] in
    let at : slice_get c.loop-k.members.items c.loop-k.k ≡ Some c.index.result.now = read_at c.loop-k.members.items c.loop-k.members.items _ _ _ refl refl (omega (arith, w.products.known.within, w.count, c.loop-k-test.true)) c.index.ensures in
    let op = product UNIT c.index.result.now c.args.op.now in
    let x = extends_added c.loop-k.members.items op c.add_product.new.members.items (adds_made _ _ _ _ _ _ r.adds) in
    let there : slice_get c.loop-k.products.items c.loop-k.k ≡ Some c.index_mut.result.now = slice_get_read c.loop-k.products.items (length c.loop-k.products.items) c.loop-k.k c.index_mut.result.now refl (omega (arith, w.count, c.loop-k-test.true)) c.index_mut.ensures.value in
    record {
      state = under_way_added all c.loop-k.members.items c.loop-k.origins.items c.loop-k.buckets w.state c.index.result.now c.args.op.now _ c.add_product.new.members.items c.add_product.new.origins.items c.add_product.new.buckets at (get_last c.args.generators.now c.args.op.now) r.adds r.narrow (omega (arith, r.within)) r.filed;
      extends = extends_trans c.args.members.now.items c.loop-k.members.items c.add_product.new.members.items w.extends x;
      products = rw c.write.ensures.value (widened_more c.args.generators.now c.loop-k.members.items c.add_product.new.members.items c.args.op.now c.index.result.now c.loop-k.products.items c.index_mut.result.now c.loop-k.k c.in_ok-place.place x w.products at there (omega (arith, c.write.ensures.size, c.requires.few)) r.place);
      count = w.count;
      capacity = omega (arith, c.add_product.ensures.capacity);
      capacity_origins = omega (arith, c.add_product.ensures.capacity_origins);
      capacity_products = w.capacity_products;
    }

pub returns-clause-products : goal.returns-clause-products
returns-clause-products c = widened_all c.args.generators.now c.loop-k.members.items c.args.op.now c.loop-k.products.items c.loop-k.k c.loop-k.invariant.products (omega (arith, c.loop-k.invariant.count, c.loop-k-test.false))
