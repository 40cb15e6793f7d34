-- The greatest index of a class of equivalent reflections. The order is this project's own.
use Rattle.std.specs.Prelude.{◌≡◌, ℤ, List, [], ◌∷◌}
use Rattle.std.specs.Ordering.{on, int_cmp}
use Rattle.std.specs.Cmp.Lexicographic.{slice_cmp}
use Rattle.std.specs.declared.cmp.Ordering.{Ordering}
use Rattle.std.specs.declared.cmp.Ordering.TheVariants.{Less}
use Rattle.lattice_algebra.specs.Operator.{Operator}
use Rattle.phase_rules.specs.declared.pairs.Pairs.{Pairs}
use Rattle.phase_rules.specs.Rows.{Row}
use Rattle.phase_rules.specs.Equivalent.{AreEquivalent}

-- the numbers of a row, the other way round than `row_of`
abbrev pub numbers_of : Row → List ℤ
numbers_of r = r.h ∷ r.k ∷ r.l ∷ []

-- rows by their numbers, lexicographically
abbrev pub row_cmp : Row → Row → Ordering
row_cmp = on numbers_of (slice_cmp int_cmp)

-- g is greater than h
abbrev pub IsAbove : Row → Row → Type 0
IsAbove g h = row_cmp h g ≡ Less

-- the key of the class of h: the greatest row that is equivalent to h
pub record IsClassKey (pairs : Pairs) (members : List Operator) (h key : Row) : Type 0 where
  pub equivalent : AreEquivalent pairs members h key
  pub greatest : (g : Row) → AreEquivalent pairs members h g → ¬ IsAbove g key
