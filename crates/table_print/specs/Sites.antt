-- The lines of the command `site`: the order and the multiplicity of a point, the elements that fix it, and its orbit.
use Rattle.std.specs.Prelude.{◌≡◌, ℕ, List, [], ◌∷◌, ◌++◌, length, decimal, codes}
use Rattle.lattice_algebra.specs.Map.{Map}
use Rattle.lattice_algebra.specs.Point.{Point}
use Rattle.triplet_text.specs.Bytes.{line_feed, space}
use Rattle.triplet_text.specs.Fractions.{frac_text}
use Rattle.triplet_text.specs.Printing.{map_text}
use Rattle.page_print.specs.Lines.{AreLines}

-- how many elements fix the point, and how many points its orbit has in the cell
abbrev pub counts_text : ℕ → ℕ → List ℕ
counts_text order multiplicity = codes "order " ++ decimal order ++ codes "\nmultiplicity " ++ decimal multiplicity ++ line_feed ∷ []

-- the line of an element that fixes the point
abbrev pub IsElementLine : Map → List ℕ → Type 0
IsElementLine g text = text ≡ codes "fix " ++ map_text g ++ line_feed ∷ []

-- the line of a point of the orbit: its coordinates as fractions
abbrev pub IsPointLine : Point → List ℕ → Type 0
IsPointLine p text = text ≡ codes "at " ++ frac_text p.n.x p.d ++ space ∷ frac_text p.n.y p.d ++ space ∷ frac_text p.n.z p.d ++ line_feed ∷ []

-- the counts, a line for each element, and a line for each point
pub record IsSiteText (site : List Map) (orbit : List Point) (text : List ℕ) : Type 0 where
  pub elements : List ℕ
  pub are_elements : AreLines IsElementLine site elements
  pub points : List ℕ
  pub are_points : AreLines IsPointLine orbit points
  pub whole : text ≡ counts_text (length site) (length orbit) ++ elements ++ points
