-- An image that is moved into the cell.
use Rattle.std.specs.Prelude.{◌≡◌}
use Rattle.lattice_algebra.specs.Operator.{Operator}
use Rattle.lattice_algebra.specs.Map.{Map, operator_of}
use Rattle.lattice_algebra.specs.Point.{Point, ◌≈◌, image}
use Rattle.exact_ops.specs.declared.TheConstants.{UNIT}
use Rattle.space_groups.specs.Space.{IsInCell}

-- p is the image of x under a map of the operator, in the cell and over the denominator of x
pub record IsPlaced (f : Operator) (x p : Point) : Type 0 where
  pub denominator : p.d ≡ x.d
  pub in_cell : IsInCell p
  pub by : Map
  pub operator : operator_of UNIT by ≡ f
  pub is_image : image UNIT by x ≈ p
