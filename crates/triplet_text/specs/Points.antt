-- Three coordinates as texts, and the point that has them.
use Rattle.std.specs.Prelude.{ℕ, ℤ, List, [], ◌∷◌}
use Rattle.lattice_algebra.specs.Point.{Point}
use Rattle.exact_ops.specs.Points.{HasCoordinates}
use Rattle.triplet_text.specs.Coordinates.{IsCoordinate}

-- the texts are three coordinates, and p is the point that has them
pub record ArePointTexts (x y z : List ℕ) (p : Point) : Type 0 where
  pub first : ℤ × ℤ
  pub second : ℤ × ℤ
  pub third : ℤ × ℤ
  pub is_first : IsCoordinate x first.0 first.1
  pub is_second : IsCoordinate y second.0 second.1
  pub is_third : IsCoordinate z third.0 third.1
  pub point : HasCoordinates (first ∷ second ∷ third ∷ []) p
