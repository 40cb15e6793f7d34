-- The orbit of a point as a list, in order.
use Rattle.std.specs.Prelude.{◌≡◌, List}
use Rattle.std.specs.List.{All, AllPairs}
use Rattle.lattice_algebra.specs.Matrix.{coordinates}
use Rattle.lattice_algebra.specs.Operator.{Operator}
use Rattle.lattice_algebra.specs.Point.{Point}
use Rattle.exact_ops.specs.declared.TheConstants.{UNIT}
use Rattle.space_groups.specs.Space.{ScaledPoint, point_of}
use Rattle.space_groups.specs.Keys.{IsBelow}
use Rattle.space_groups.specs.Lists.{IsOrbitList}

-- the denominator of x is a positive multiple of UNIT
abbrev pub IsScaled : Point → Type 0
IsScaled x = (y : ScaledPoint) × (x ≡ point_of UNIT y)

-- the list has each point of the orbit of x in the cell once, over the denominator of x and ascending by coordinates
pub record IsOrderedOrbit (members : List Operator) (x : Point) (list : List Point) : Type 0 where
  pub orbit : IsOrbitList UNIT members x list
  pub denominators : All (λ (p : Point). p.d ≡ x.d) list
  pub ascending : AllPairs (λ (p q : Point). IsBelow (coordinates p.n) (coordinates q.n)) list
