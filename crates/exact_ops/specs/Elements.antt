-- Moves as contracts see them.
use Rattle.lattice_algebra.specs.Map.{Map}
use Rattle.exact_ops.specs.declared.moves.Move.{Move}
use Rattle.exact_ops.specs.Moves.{map_with}

-- the map of a Move
abbrev pub map_in : Move → Map
map_in m = map_with m.op m.shift
