-- Measured reflections, merged by classes of equivalent indices. International Tables B; the order is this project's own.
use Rattle.std.specs.Prelude.{◌≡◌, ◌≢◌, ◌<◌, ◌↔◌, IsTrue, ℤ, pos, ◌+ℤ◌, Bool, ◌||◌, List, [], ◌∷◌, length}
use Rattle.std.specs.List.{All, AllPairs, Contains, filter, list_any}
use Rattle.lattice_algebra.specs.Operator.{Operator}
use Rattle.phase_rules.specs.declared.pairs.Pairs.{Pairs}
use Rattle.phase_rules.specs.declared.pairs.Pairs.TheVariants.{Friedel, Apart}
use Rattle.phase_rules.specs.Rows.{Row, row_of, ◌·ʳ◌, neg_row, row_eq}
use Rattle.phase_rules.specs.Equivalent.{AreEquivalent}
use Rattle.phase_rules.specs.Marks.{IsAbsent}
use Rattle.refl_merge.specs.declared.measured.Measured.{Measured}
use Rattle.refl_merge.specs.declared.merged.MergedLine.{MergedLine}
use Rattle.refl_merge.specs.Keys.{IsAbove, IsClassKey}

-- whether g is e, or with Friedel's law the opposite of e
abbrev pub same_reflection : Pairs → Row → Row → Bool
same_reflection Apart e g = row_eq g e
same_reflection Friedel e g = row_eq g e || row_eq g (neg_row e)

-- whether h and g are equivalent: `AreEquivalent` as a test
unfoldable pub are_equivalent : Pairs → List Operator → Row → Row → Bool
are_equivalent pairs members h g = list_any (λ (f : Operator). same_reflection pairs (h ·ʳ f.w) g) members

-- the lines whose index is equivalent to h
abbrev pub lines_of_class : Pairs → List Operator → Row → List Measured → List Measured
lines_of_class pairs members h lines = filter (λ (m : Measured). are_equivalent pairs members h m.index) lines

abbrev pub sum_of_values : List Measured → ℤ
sum_of_values [] = pos 0
sum_of_values (m ∷ rest) = m.value +ℤ sum_of_values rest

-- some line has a value other than 0
abbrev pub HasValue : List Measured → Type 0
HasValue lines = (m : Measured) × Contains lines m × (m.value ≢ pos 0)

-- what a merged line says of the lines of its class
pub record IsMergeOf (members : List Operator) (class : List Measured) (line : MergedLine) : Type 0 where
  pub count : line.count ≡ length class
  pub sum : line.sum ≡ sum_of_values class
  pub absent : IsTrue line.absent ↔ IsAbsent members (row_of line.key)
  pub observed : IsTrue line.observed ↔ (IsAbsent members (row_of line.key) × HasValue class)

-- a merged line: some of the lines are of its class, and its key is the greatest index of the class
pub record IsMergedLine (pairs : Pairs) (members : List Operator) (lines : List Measured) (line : MergedLine) : Type 0 where
  pub three : length line.key ≡ 3
  pub key : IsClassKey pairs members (row_of line.key) (row_of line.key)
  pub some : 0 < line.count
  pub merges : IsMergeOf members (lines_of_class pairs members (row_of line.key) lines) line

-- the merged list: each class with a line in it once, by its greatest index, in descending order
pub record IsMergedList (pairs : Pairs) (members : List Operator) (lines : List Measured) (merged : List MergedLine) : Type 0 where
  pub each : All (IsMergedLine pairs members lines) merged
  pub all : (m : Measured) → Contains lines m → (line : MergedLine) × Contains merged line × AreEquivalent pairs members m.index (row_of line.key)
  pub descending : AllPairs (λ (a b : MergedLine). IsAbove (row_of a.key) (row_of b.key)) merged

-- of the merged lines this one alone is of the class of h
pub record IsOnlyLineOf (pairs : Pairs) (members : List Operator) (merged : List MergedLine) (h : Row) (line : MergedLine) : Type 0 where
  pub listed : Contains merged line
  pub equivalent : AreEquivalent pairs members h (row_of line.key)
  pub only : (other : MergedLine) → Contains merged other → AreEquivalent pairs members h (row_of other.key) → other ≡ line
