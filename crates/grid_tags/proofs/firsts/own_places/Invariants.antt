use Rattle.std.proofs.Common.{◌≡◌, length}
use Rattle.grid_tags.specs.Grids.{points}
use Rattle.grid_tags.specs.Steps.{AreOwnPlaces}
use Rattle.grid_tags.proofs.firsts.own_places.Given as goal

abbrev pub invariant-loop-place : goal.invariant-loop-place
invariant-loop-place l = record {
  len : length l.places.items ≡ points l.size;
  own : AreOwnPlaces l.places.items l.place;
}
