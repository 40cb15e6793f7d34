use Rattle.std.proofs.Common.{get_or}
use Rattle.wyckoff_rows.proofs.Covering.{marked_more}
use Rattle.wyckoff_rows.proofs.candidates.mark_coset.Goals as goal

pub product-n-requires-clause-left : goal.product-n-requires-clause-left
product-n-requires-clause-left c = c.requires.places c.loop-place.place-index 0 c.loop-place-test.true

pub loop-place-preserved : goal.loop-place-preserved
loop-place-preserved c =
    let k = c.loop-place.place-index in
    record {
      marked = λ set all. marked_more c.args.g.now set c.args.tried.now c.loop-place.tried c.args.j (get_or c.args.places.now k 0) c.product-n.result c.inverse_of.result c.from.result c.from-in-loop-place.result (all k 0 c.loop-place-test.true)
          c.from.ensures c.from-in-loop-place.ensures c.product-n.ensures.value c.inverse_of.ensures.value (c.loop-place.invariant.marked set all);
    }
