-- A finite region of elements in order, an equivalence on it, and the list of the elements that have no earlier equivalent.
use Rattle.std.specs.Prelude.{◌≡◌, ◌≢◌, ◌<◌, ◌≤◌, ◌↔◌, ℕ, Bool, true, false, List, length, map, slice_index, slice_index_or}
use Rattle.std.specs.List.{All, AllPairs, Contains}

pub record Region : Type 1 where
  pub X : Type 0
  pub In : X → Type 0
  pub Before : X → X → Type 0
  pub Equivalent : X → X → Type 0
  -- the place of an element of the region among all of them
  pub place : X → ℕ
  pub count : ℕ

-- each element has its place in the order, and the equivalence is one
pub record IsRegion (R : Region) : Type 0 where
  pub within : (x : R.X) → R.In x → R.place x < R.count
  pub one : (x y : R.X) → R.In x → R.In y → R.place x ≡ R.place y → x ≡ y
  pub order : (x y : R.X) → R.In x → R.In y → R.Before x y ↔ (R.place x < R.place y)
  pub itself : (x : R.X) → R.In x → R.Equivalent x x
  pub back : (x y : R.X) → R.In x → R.In y → R.Equivalent x y → R.Equivalent y x
  pub on : (x y z : R.X) → R.In x → R.In y → R.In z → R.Equivalent x y → R.Equivalent y z → R.Equivalent x z

-- x is the element at the place p
pub record IsAt (R : Region) (p : ℕ) (x : R.X) : Type 0 where
  pub in_region : R.In x
  pub at_place : R.place x ≡ p

-- each place is that of an element
abbrev pub IsFull : Region → Type 0
IsFull R = (p : ℕ) → p < R.count → (x : R.X) × IsAt R p x

-- the list has the elements of the region that are equivalent to x
abbrev pub AreEquivalents : (R : Region) → R.X → List R.X → Type 0
AreEquivalents R x list = (y : R.X) → Contains list y ↔ (R.In y × R.Equivalent x y)

-- each element has such a list
abbrev pub HasEquivalents : Region → Type 0
HasEquivalents R = (x : R.X) → R.In x → (list : List R.X) × AreEquivalents R x list

-- the list has each of them once
pub record IsClassOf (R : Region) (x : R.X) (list : List R.X) : Type 0 where
  pub exactly : AreEquivalents R x list
  pub once : AllPairs (λ (a b : R.X). a ≢ b) list

-- x has no earlier equivalent in the region
pub record IsListed (R : Region) (x : R.X) : Type 0 where
  pub in_region : R.In x
  pub first : (y : R.X) → R.In y → R.Equivalent x y → ¬ R.Before y x

-- y is the first equivalent of x
pub record IsFirstOf (R : Region) (x y : R.X) : Type 0 where
  pub listed : IsListed R y
  pub equivalent : R.Equivalent y x

-- the numbers are, for each element by its place, the place of its first equivalent
pub record AreFirstPlaces (R : Region) (firsts : List ℕ) : Type 0 where
  pub len : length firsts ≡ R.count
  pub first : (x : R.X) → R.In x → (y : R.X) × IsFirstOf R x y × (slice_index firsts (R.place x) ≡ R.place y)

-- lines of type L: the element of each, and what makes it right
pub record Lines (R : Region) : Type 1 where
  pub L : Type 0
  pub at : L → R.X
  pub IsLine : L → Type 0

-- the lines of the listed elements, each once, in order
pub record IsFirstList (R : Region) (M : Lines R) (list : List M.L) : Type 0 where
  pub exactly : (x : R.X) → Contains (map M.at list) x ↔ IsListed R x
  pub lines : All M.IsLine list
  pub ordered : AllPairs (λ (a b : M.L). R.Before (M.at a) (M.at b)) list

-- of the lines this one alone has an element that is equivalent to x
pub record IsOnlyLine (R : Region) (M : Lines R) (list : List M.L) (x : R.X) (line : M.L) : Type 0 where
  pub listed : Contains list line
  pub equivalent : R.Equivalent (M.at line) x
  pub only : (other : M.L) → Contains list other → R.Equivalent (M.at other) x → other ≡ line

-- ---- walks

-- p is the first place from `from` on that has no tag
pub record IsFirstFree (tags : List Bool) (from p : ℕ) : Type 0 where
  pub later : from ≤ p
  pub within : p < length tags
  pub free : slice_index_or tags p false ≡ false
  pub tagged_before : (k : ℕ) → from ≤ k → k < p → slice_index_or tags k false ≡ true

-- the place of x has a tag
abbrev pub IsTagged : (R : Region) → List Bool → R.X → Type 0
IsTagged R tags x = slice_index_or tags (R.place x) false ≡ true

-- x is equivalent to the element of a line that was taken
pub record IsTaken (R : Region) (M : Lines R) (taken : List M.L) (x : R.X) : Type 0 where
  pub line : M.L
  pub member : Contains taken line
  pub equivalent : R.Equivalent (M.at line) x

-- these lines were taken from a walk that has come to this place: those of all listed elements before it, in order. The tagged
-- elements are those that are equivalent to one of them
pub record IsTagWalk (R : Region) (M : Lines R) (place : ℕ) (tags : List Bool) (taken : List M.L) : Type 0 where
  pub tagged : (x : R.X) → R.In x → IsTagged R tags x ↔ IsTaken R M taken x
  pub passed : (x : R.X) → R.In x → R.place x < place → IsTagged R tags x
  pub listed : All (λ (line : M.L). IsListed R (M.at line)) taken
  pub before : All (λ (line : M.L). R.place (M.at line) < place) taken
  pub lines : All M.IsLine taken
  pub ordered : AllPairs (λ (a b : M.L). R.Before (M.at a) (M.at b)) taken
