-- What a search for the rows of a group keeps, and when it is done. This project's own.
use Rattle.std.specs.Prelude.{◌≡◌, ℕ, ◌*◌, ◌≢◌, ◌↔◌, List, [], ◌∷◌, length, All, AllPairs, Contains}
use Rattle.lattice_algebra.specs.Operator.{Operator}
use Rattle.lattice_algebra.specs.Map.{Map, ◌∘◌, identity_map}
use Rattle.space_groups.specs.Space.{IsElement, ScaledPoint, moved}
use Rattle.space_groups.specs.Averages.{Block, IsMean, IsInImage}
use Rattle.space_groups.specs.Keys.{Key, IsKey}
use Rattle.space_groups.specs.Rows.{Row, IsRowBefore}

-- a finite group of elements of the space group: each once, with the identity and the product of each two
pub record IsSub (unit : ℕ) (members : List Operator) (list : List Map) : Type 0 where
  pub elements : All (IsElement unit members) list
  pub once : AllPairs (λ e f. e ≢ f) list
  pub identity : Contains list identity_map
  pub products : (e f : Map) → Contains list e → Contains list f → Contains list (e ∘ f)

-- all maps of the list fix z
abbrev pub FixAll : List Map → ScaledPoint → Type 0
FixAll list z = (e : Map) → Contains list e → moved e z ≡ z

-- the list has exactly the elements that fix every point of the image of a, each once
pub record IsFull (unit : ℕ) (members : List Operator) (a : Block) (list : List Map) : Type 0 where
  pub exactly : (e : Map) → Contains list e ↔ (IsElement unit members e × ((y : ScaledPoint) → IsInImage a y → moved e y ≡ y))
  pub once : AllPairs (λ e f. e ≢ f) list

-- a kept set, its average, its key and its number of points
pub record Kept : Type 0 where
  pub set : List Map
  pub average : Block
  pub key : Key
  pub mult : ℕ

-- the set is a group with this average and this key; mult times the number of elements that fix the whole image is the number of
-- members
pub record IsKept (unit : ℕ) (members : List Operator) (k : Kept) : Type 0 where
  pub sub : IsSub unit members k.set
  pub mean : IsMean (length members) k.set k.average
  pub key : IsKey unit members (length members) k.average k.key
  pub mult : (list : List Map) → IsFull unit members k.average list → length list * k.mult ≡ length members

-- k and e generate a group with the key p: it fixes exactly what the set of k and e fix
pub record IsGrown (unit : ℕ) (members : List Operator) (k : Kept) (e : Map) (p : Key) : Type 0 where
  pub list : List Map
  pub sub : IsSub unit members list
  pub fixes : (z : ScaledPoint) → FixAll list z ↔ (FixAll k.set z × (moved e z ≡ z))
  pub average : Block
  pub mean : IsMean (length members) list average
  pub key : IsKey unit members (length members) average p

-- what k and e generate has its key among the kept ones
abbrev pub HasKeptKey : ℕ → List Operator → List Kept → Kept → Map → Type 0
HasKeptKey unit members kept k e = (t : Kept) × Contains kept t × IsGrown unit members k e t.key

-- so it is for k and each element e that fixes some point with it
abbrev pub IsDone : ℕ → List Operator → List Kept → Kept → Type 0
IsDone unit members kept k = (e : Map) → IsElement unit members e → (y : ScaledPoint) → FixAll k.set y → moved e y ≡ y → HasKeptKey unit members kept k e

-- what the row of a kept set shows
abbrev pub row_of : Kept → Row
row_of k = record { mult = k.mult; key = k.key }

-- the search is finished: it has the group of the identity alone, and nothing to grow; the rows are those of the kept sets, in order
pub record IsSearch (unit : ℕ) (members : List Operator) (kept : List Kept) (rows : List Row) : Type 0 where
  pub all : All (IsKept unit members) kept
  pub trivial : (k : Kept) × Contains kept k × (k.set ≡ identity_map ∷ [])
  pub done : All (IsDone unit members kept) kept
  pub rows_are : (row : Row) → Contains rows row ↔ ((k : Kept) × Contains kept k × (row_of k ≡ row))
  pub ordered : AllPairs IsRowBefore rows
