use Rattle.std.proofs.Common.{◌≡◌, ◌<◌, ◌≤◌, ◌-◌, length}
use Rattle.grid_tags.specs.Grids.{triple_of}
use Rattle.grid_tags.specs.Steps.{fixing_count, AreTagged}
use Rattle.grid_tags.proofs.tagging.tag_orbit.Given as goal

abbrev pub invariant-loop-i : goal.invariant-loop-i
invariant-loop-i g l = record {
  after_first : 0 < l.i;
  within : l.i ≤ length l.group;
  some : 0 < l.fixing;
  count : l.fixing ≡ fixing_count l.group l.size (triple_of l.at) l.i;
  tagged : AreTagged l.group l.size (triple_of l.at) l.tag l.fn.tags l.tags l.i;
}

abbrev pub decreases-loop-i : goal.decreases-loop-i
decreases-loop-i g l = l.order - l.i
