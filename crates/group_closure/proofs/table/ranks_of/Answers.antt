use Rattle.std.proofs.Common.{◌≡◌, Contains, Some, slice_get, sym, refl, arith, ◌∙◌}
use Rattle.std.proofs.Math.ListN.{length-set}
use Rattle.std.proofs.lemmas.List.Elements.{All-contains}
use Rattle.std.proofs.lemmas.Option.{slice_get_within}
use Rattle.group_closure.proofs.Places.{read_at}
use Rattle.group_closure.proofs.Tables.{ranks_more}
use Rattle.group_closure.proofs.table.ranks_of.Goals as goal

pub unwrap-requires : goal.unwrap-requires
unwrap-requires c = c.place_in_order.ensures.some.1 (All-contains (Contains c.args.members.now) c.args.made.now c.index-made-c.result c.requires.all (c.loop-c.c, c.loop-c-test.true, sym c.index-made-c.is))

pub loop-c-preserved : goal.loop-c-preserved
loop-c-preserved c =
    let at : slice_get c.args.made.now c.loop-c.c ≡ Some c.index-made-c.result = read_at c.args.made.now c.args.made.now _ _ _ refl refl c.loop-c-test.true c.index-made-c.is in
    record {
      size = length-set _ _ _ ∙ c.loop-c.invariant.size;
      ranks = ranks_more c.args.made.now c.args.members.now c.loop-c.ranks c.loop-c.c c.unwrap.result c.index-made-c.result c.loop-c.invariant.ranks (omega arith) at (rw c.unwrap.ensures at c.place_in_order.ensures.place);
    }

pub returns : goal.returns
returns c = λ k f e. c.loop-c.invariant.ranks k f (omega (arith, c.loop-c-test.false, slice_get_within c.args.made.now k f e)) e
