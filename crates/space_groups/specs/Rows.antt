-- The table of Wyckoff positions. International Tables A: points belong to one Wyckoff position where their site-symmetry groups are
-- conjugate. How a row shows a position, by a number of points and a key, and the order of the rows are this project's own.
use Rattle.std.specs.Prelude.{◌≡◌, ℕ, ◌<◌, ◌⊎◌, pos, ◌*ℤ◌, ◌↔◌, List, length, slice_index_or, AllPairs, Contains}
use Rattle.lattice_algebra.specs.Matrix.{Column, ◌·ᶜ◌, ◌+ᶜ◌, times}
use Rattle.lattice_algebra.specs.Operator.{Operator}
use Rattle.lattice_algebra.specs.Point.{Point, IsPoint, ◌≈◌, image}
use Rattle.lattice_algebra.specs.Map.{Map}
use Rattle.space_groups.specs.Space.{IsElement, AreConjugate}
use Rattle.space_groups.specs.Lists.{IsSiteList, IsOrbitList}
use Rattle.space_groups.specs.Keys.{Key, key_of, ComesBefore}
use Rattle.space_groups.specs.Averages.{Block, IsMean}

-- the point M z + t + k, where the key p is M over n and t over unit n
unfoldable pub row_point : ℕ → ℕ → Key → Point → Column → Point
row_point unit n p z k = record {
  n = times (pos unit) (p.m ·ᶜ z.n) +ᶜ times z.d p.t +ᶜ times (pos unit *ℤ pos n *ℤ z.d) k;
  d = pos unit *ℤ pos n *ℤ z.d;
}

-- y lies on the row of the key p: it is M z + t + k for some rational point z and some whole k
pub record Lies (unit n : ℕ) (p : Key) (y : Point) : Type 0 where
  pub at : Point
  pub is_point : IsPoint at
  pub whole : Column
  pub equal : y ≈ row_point unit n p at whole

-- what a row shows: the number of points in the cell, and the key
pub record Row : Type 0 where
  pub mult : ℕ
  pub key : Key

-- x fits the row: some image of x lies on it, and the orbit of x has as many points in the cell as the row says
pub record Fits (unit : ℕ) (members : List Operator) (row : Row) (x : Point) : Type 0 where
  pub by : Map
  pub element : IsElement unit members by
  pub lies : Lies unit (length members) row.key (image unit by x)
  pub orbit : List Point
  pub is_orbit : IsOrbitList unit members x orbit
  pub as_many : length orbit ≡ row.mult

-- the order of rows: more points first, then the key that comes before
abbrev pub IsRowBefore : Row → Row → Type 0
IsRowBefore a b = (b.mult < a.mult) ⊎ ((a.mult ≡ b.mult) × ComesBefore a.key b.key)

-- the row stands at place k
pub record IsAt (rows : List Row) (k : ℕ) (row : Row) : Type 0 where
  pub within : k < length rows
  pub is : (d : Row) → slice_index_or rows k d ≡ row

-- the rows are a Wyckoff table of the space group
pub record IsTable (unit : ℕ) (members : List Operator) (rows : List Row) : Type 0 where
  -- every rational point fits the row at one place, and at no other
  pub every : (x : Point) → IsPoint x → (k : ℕ) × (row : Row) × IsAt rows k row × Fits unit members row x
  pub one : (x : Point) (j k : ℕ) (a b : Row) → IsPoint x → IsAt rows j a → IsAt rows k b → Fits unit members a x → Fits unit members b x → j ≡ k
  -- every row fits some rational point
  pub each : (k : ℕ) (row : Row) → IsAt rows k row → (x : Point) × IsPoint x × Fits unit members row x
  -- two rational points fit one row exactly when their site-symmetry groups are conjugate
  pub same : (x y : Point) → IsPoint x → IsPoint y → ((k : ℕ) × (row : Row) × IsAt rows k row × Fits unit members row x × Fits unit members row y) ↔ AreConjugate unit members x y
  -- each row comes before the later ones
  pub ordered : AllPairs IsRowBefore rows

-- ---- the key of a point, and the list of rows

-- a is the special-position operator of x: the average over its site-symmetry group, over the number of members
pub record IsSpecial (unit : ℕ) (members : List Operator) (x : Point) (a : Block) : Type 0 where
  pub site : List Map
  pub is_site : IsSiteList unit members x site
  pub mean : IsMean (length members) site a

-- p is the key of x: the special-position operator of some image of x gives p, translations modulo 1, and that of no image an earlier one
pub record IsPointKey (unit : ℕ) (members : List Operator) (x : Point) (p : Key) : Type 0 where
  pub by : Map
  pub element : IsElement unit members by
  pub special : Block
  pub is_special : IsSpecial unit members (image unit by x) special
  pub gives : key_of unit (length members) special ≡ p
  pub first : (g : Map) (a : Block) → IsElement unit members g → IsSpecial unit members (image unit g x) a → ComesBefore (key_of unit (length members) a) p → ⊥

-- the row of x: the number of points of its orbit in the cell, and its key
pub record IsRowOf (unit : ℕ) (members : List Operator) (x : Point) (row : Row) : Type 0 where
  pub key : IsPointKey unit members x row.key
  pub orbit : List Point
  pub is_orbit : IsOrbitList unit members x orbit
  pub as_many : length orbit ≡ row.mult

-- the rows are those of all rational points, each once and in order
pub record IsRowList (unit : ℕ) (members : List Operator) (rows : List Row) : Type 0 where
  pub each : (row : Row) → Contains rows row ↔ ((x : Point) × IsPoint x × IsRowOf unit members x row)
  pub ordered : AllPairs IsRowBefore rows
