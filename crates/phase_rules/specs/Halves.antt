-- The members of a group with the matrix -1 by halves: those whose matrix has its first entry that is not 0 above 0, and those that
-- have the opposite matrix of one of these.
use Rattle.std.specs.Prelude.{◌≡◌, ◌≤◌, ℕ, ℤ, pos, negsuc, Some, List, map, take, slice_get}
use Rattle.std.specs.Cmp.Lexicographic.{slice_cmp}
use Rattle.std.specs.Ordering.{int_cmp}
use Rattle.std.specs.declared.cmp.Ordering.TheVariants.{Less}
use Rattle.lattice_algebra.specs.Matrix.{entries, scaled}
use Rattle.lattice_algebra.specs.Operator.{Operator}
use Rattle.group_closure.specs.Runs.{HasMatrix}

-- the first of these numbers that is not 0 is below 0
abbrev pub IsBelow : List ℤ → Type 0
IsBelow xs = slice_cmp int_cmp xs (map (λ (x : ℤ). pos 0) xs) ≡ Less

-- the matrix of each member from place i on is such
abbrev pub AreBelow : List Operator → ℕ → Type 0
AreBelow members i = (k : ℕ) (g : Operator) → i ≤ k → slice_get members k ≡ Some g → IsBelow (entries g.w)

-- no member before place i has the opposite of the matrix there
abbrev pub HasNoEarlierOpposite : List Operator → ℕ → Type 0
HasNoEarlierOpposite members i = (f : Operator) → slice_get members i ≡ Some f → ¬ HasMatrix (take i members) (scaled (negsuc 0) f.w)

-- each member from place i on has the opposite matrix of one before it
abbrev pub HaveOpposites : List Operator → ℕ → Type 0
HaveOpposites members i = (k : ℕ) (g : Operator) → i ≤ k → slice_get members k ≡ Some g → HasMatrix (take i members) (scaled (negsuc 0) g.w)
