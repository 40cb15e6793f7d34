use Rattle.std.proofs.Common.{sym, subst, arith}
use Rattle.std.specs.List.{All}
use Rattle.std.proofs.lemmas.List.Elements.{All-contains, All-push}
use Rattle.exact_ops.specs.declared.TheConstants.{UNIT}
use Rattle.exact_ops.specs.Elements.{map_in}
use Rattle.space_groups.specs.Space.{IsElement}
use Rattle.wyckoff_rows.specs.Steps.{IsPlaceIn}
use Rattle.wyckoff_rows.proofs.Lists.{contains_at}
use Rattle.wyckoff_rows.proofs.candidates.places_of.Goals as goal

pub place_of-requires : goal.place_of-requires
place_of-requires c = All-contains (IsElement UNIT c.args.g.now) c.args.set.now (map_in c.get.result) c.requires (contains_at c.args.set.now c.loop-k.k (map_in c.get.result) c.get.ensures)

pub loop-k-init : goal.loop-k-init
loop-k-init c = record { each = subst (All (IsPlaceIn c.args.g.now c.args.set.now)) (sym c.new-places.ensures.items) (λ k d l. absurd (omega (arith, l))) }

pub loop-k-preserved : goal.loop-k-preserved
loop-k-preserved c =
    let P = IsPlaceIn c.args.g.now c.args.set.now in
    let s = map_in c.get.result in
    record { each = subst (All P) (sym c.in-Ok.ensures.items) (All-push P c.loop-k.places.items c.place_of.result c.loop-k.invariant.each (s, contains_at c.args.set.now c.loop-k.k s c.get.ensures, c.place_of.ensures.value)) }
