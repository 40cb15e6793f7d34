use Rattle.std.proofs.Common.{◌≡◌, arith, refl, ◌∙◌, Some, slice_get}
use Rattle.std.proofs.Math.ListN.{length-set}
use Rattle.std.proofs.lemmas.Result.{err_from_is_err_and}
use Rattle.lattice_algebra.specs.Operator.{product}
use Rattle.exact_ops.specs.declared.TheConstants.{UNIT}
use Rattle.group_closure.proofs.Growing.{extends_trans, extends_added}
use Rattle.group_closure.proofs.Origins.{adds_made, get_extended, row_more, row_all}
use Rattle.group_closure.proofs.Places.{read_at}
use Rattle.group_closure.proofs.UnderWay.{under_way_refused, under_way_added}
use Rattle.group_closure.proofs.closing.multiply.Goals as goal

pub returns-in_err-row-clause-unclosed : goal.returns-in_err-row-clause-unclosed
returns-in_err-row-clause-unclosed c =
    let w = c.loop-k.invariant in
    let p = err_from_is_err_and c.from_residual.result c.from_residual.ensures.1 in
    let at = get_extended c.args.members.now.items c.loop-k.members.items w.extends c.args.place c.args.member.now c.requires.member in
    let by : slice_get c.args.generators.now c.loop-k.k ≡ Some c.index-generators-k.result = read_at c.args.generators.now c.args.generators.now _ _ _ refl refl c.loop-k-test.true c.index-generators-k.is in
    rw p.1 (under_way_refused c.args.generators.now c.loop-k.members.items c.loop-k.origins.items c.loop-k.buckets w.state c.args.member.now c.index-generators-k.result c.args.place c.loop-k.k at by c.in_err-row.ensures.refused)

pub loop-k-preserved : goal.loop-k-preserved
loop-k-preserved c =
    let w = c.loop-k.invariant in
    let r = c.in_ok-row.ensures in
    let at = get_extended c.args.members.now.items c.loop-k.members.items w.extends c.args.place c.args.member.now c.requires.member in
    let by : slice_get c.args.generators.now c.loop-k.k ≡ Some c.index-generators-k.result = read_at c.args.generators.now c.args.generators.now _ _ _ refl refl c.loop-k-test.true c.index-generators-k.is in
    let op = product UNIT c.args.member.now c.index-generators-k.result in
    let x = extends_added c.loop-k.members.items op c.add_product.new.members.items (adds_made _ _ _ _ _ _ r.adds) in
    record {
      state = under_way_added c.args.generators.now c.loop-k.members.items c.loop-k.origins.items c.loop-k.buckets w.state c.args.member.now c.index-generators-k.result _ c.add_product.new.members.items c.add_product.new.origins.items c.add_product.new.buckets at by r.adds r.narrow (omega (arith, r.within)) r.filed;
      extends = extends_trans c.args.members.now.items c.loop-k.members.items c.add_product.new.members.items w.extends x;
      capacity = omega (arith, c.add_product.ensures.capacity);
      capacity_origins = omega (arith, c.add_product.ensures.capacity_origins);
      size = length-set _ _ _ ∙ w.size;
      row = row_more c.args.generators.now c.args.member.now c.index-generators-k.result op c.loop-k.members.items c.add_product.new.members.items c.loop-k.row c.loop-k.k c.in_ok-row.field-0 x w.row (omega (arith, w.size, w.state.few, c.loop-k-test.true)) by (λ _. op) r.place;
    }

pub returns-clause-products : goal.returns-clause-products
returns-clause-products c = row_all c.args.generators.now c.args.member.now c.loop-k.members.items c.loop-k.row c.loop-k.k c.loop-k.invariant.row (omega (arith, c.loop-k-test.false))
