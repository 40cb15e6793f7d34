use Rattle.std.proofs.Common.{get_or}
use Rattle.wyckoff_rows.proofs.Covering.{marked_coset}
use Rattle.wyckoff_rows.proofs.candidates.mark.Goals as goal

pub product-requires-clause-right : goal.product-requires-clause-right
product-requires-clause-right c = c.requires.places c.loop-place.place-index 0 c.loop-place-test.true

pub loop-place-preserved : goal.loop-place-preserved
loop-place-preserved c =
    let k = c.loop-place.place-index in
    record {
      marked = λ set all. marked_coset c.args.g.now set c.args.tried.now c.loop-place.tried c.mark_coset.new.tried c.args.i (get_or c.args.places.now k 0) c.product.result (all k 0 c.loop-place-test.true) c.product.ensures.value (c.mark_coset.ensures set all) (c.loop-place.invariant.marked set all);
    }
