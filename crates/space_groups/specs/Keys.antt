-- The key of an average: the first of all its conjugates under the space group, translations modulo 1. This project's own: it says
-- which of the conjugate averages a row of the table shows.
use Rattle.std.specs.Prelude.{◌≡◌, ℕ, ◌*◌, ℤ, ◌<ℤ◌, ◌⊎◌, List, [], ◌∷◌}
use Rattle.lattice_algebra.specs.Matrix.{Matrix, Column, entries, coordinates}
use Rattle.lattice_algebra.specs.Operator.{Operator, modulo}
use Rattle.lattice_algebra.specs.Map.{Map, undo}
use Rattle.space_groups.specs.Space.{IsElement}
use Rattle.space_groups.specs.Averages.{Block, block_of, block_times}

-- the conjugate g a g^-1 of an average
unfoldable pub carried : Map → Block → Block
carried g a = block_times (block_times (block_of g) a) (block_of (undo g))

-- a matrix over n and a translation over unit n, which is below 1
pub record Key : Type 0 where
  pub m : Matrix
  pub t : Column

-- what is left of an average over n, its translation taken modulo 1
unfoldable pub key_of : ℕ → ℕ → Block → Key
key_of unit n a = record { m = a.m; t = modulo (unit * n) a.t }

-- the one list comes before the other lexicographically
abbrev pub IsBelow : List ℤ → List ℤ → Type 0
IsBelow [] [] = ⊥
IsBelow [] (y ∷ ys) = Unit {0}
IsBelow (x ∷ xs) [] = ⊥
IsBelow (x ∷ xs) (y ∷ ys) = (x <ℤ y) ⊎ ((x ≡ y) × IsBelow xs ys)

-- one key comes before another where its matrix is greater row by row, or the same and its translation less
abbrev pub ComesBefore : Key → Key → Type 0
ComesBefore p q = IsBelow (entries q.m) (entries p.m) ⊎ ((p.m ≡ q.m) × IsBelow (coordinates p.t) (coordinates q.t))

-- some conjugate of a has the key p, and none has an earlier one
pub record IsKey (unit : ℕ) (members : List Operator) (n : ℕ) (a : Block) (p : Key) : Type 0 where
  pub by : Map
  pub element : IsElement unit members by
  pub gives : key_of unit n (carried by a) ≡ p
  pub first : (g : Map) → IsElement unit members g → ComesBefore (key_of unit n (carried g a)) p → ⊥
