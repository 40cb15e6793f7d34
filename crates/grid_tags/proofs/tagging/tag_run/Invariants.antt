use Rattle.std.proofs.Common.{◌≡◌, ◌+◌}
use Rattle.grid_tags.specs.Grids.{triple_of}
use Rattle.grid_tags.specs.Steps.{fixing_count, AreTagged}
use Rattle.grid_tags.proofs.tagging.tag_run.Given as goal

abbrev pub invariant-loop-i : goal.invariant-loop-i
invariant-loop-i g l = record {
  count : fixing_count l.group l.size (triple_of l.at) l.start + l.fixing ≡ fixing_count l.group l.size (triple_of l.at) l.i;
  tagged : (old : _) → AreTagged l.group l.size (triple_of l.at) l.tag old l.fn.tags l.start → AreTagged l.group l.size (triple_of l.at) l.tag old l.tags l.i;
}
