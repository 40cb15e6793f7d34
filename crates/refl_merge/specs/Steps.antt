-- What merging keeps on its way: lines with the keys of their classes, in order, and the merged lines of some of them.
use Rattle.std.specs.Prelude.{◌≡◌, ◌≢◌, ◌<◌, ◌≤◌, ◌↔◌, ◌⊎◌, IsTrue, ℕ, ℤ, Bool, Some, List, length, map, slice_get, IsPermutation}
use Rattle.std.specs.List.{All, AllPairs, Contains, filter}
use Rattle.std.specs.Ordering.{on, flip_args, int_cmp, eq_by_cmp}
use Rattle.std.specs.Cmp.Lexicographic.{slice_cmp}
use Rattle.std.specs.declared.cmp.Ordering.{Ordering}
use Rattle.std.specs.declared.cmp.Ordering.TheVariants.{Less}
use Rattle.lattice_algebra.specs.Operator.{Operator}
use Rattle.phase_rules.specs.declared.pairs.Pairs.{Pairs}
use Rattle.phase_rules.specs.Rows.{Row, row_of}
use Rattle.phase_rules.specs.Equivalent.{IsSameReflection}
use Rattle.phase_rules.specs.Marks.{IsAbsent}
use Rattle.refl_merge.specs.declared.measured.Measured.{Measured}
use Rattle.refl_merge.specs.declared.merged.MergedLine.{MergedLine}
use Rattle.refl_merge.specs.declared.entries.Keyed.{Keyed}
use Rattle.refl_merge.specs.Keys.{IsAbove, IsClassKey}
use Rattle.refl_merge.specs.Merged.{sum_of_values, HasValue, IsMergeOf}

-- r is e, or with Friedel's law the greater of e and its opposite
pub record IsGreatestImage (pairs : Pairs) (e r : Row) : Type 0 where
  pub same : IsSameReflection pairs e r
  pub greatest : (g : Row) → IsSameReflection pairs e g → ¬ IsAbove g r

-- r is the greater of the key and the greatest image of e
pub record IsKeyWith (pairs : Pairs) (e key r : Row) : Type 0 where
  pub one : (r ≡ key) ⊎ IsSameReflection pairs e r
  pub not_key : ¬ IsAbove key r
  pub greatest : (g : Row) → IsSameReflection pairs e g → ¬ IsAbove g r

-- the key is that of the line's class
pub record IsKeyed (pairs : Pairs) (members : List Operator) (entry : Keyed) : Type 0 where
  pub three : length entry.key ≡ 3
  pub key : IsClassKey pairs members entry.line.index (row_of entry.key)

abbrev pub measured_lines : List Keyed → List Measured
measured_lines entries = map (λ (e : Keyed). e.line) entries

-- each line with its key, in some order
pub record AreKeyed (pairs : Pairs) (members : List Operator) (lines : List Measured) (entries : List Keyed) : Type 0 where
  pub each : All (IsKeyed pairs members) entries
  pub permutation : IsPermutation lines (measured_lines entries)

-- by the keys, descending
abbrev pub entry_cmp : Keyed → Keyed → Ordering
entry_cmp = flip_args (on (λ (e : Keyed). e.key) (slice_cmp int_cmp))

abbrev pub has_key : List ℤ → Keyed → Bool
has_key key e = eq_by_cmp (slice_cmp int_cmp) key e.key

-- the entries from start to before end have one key, and that at end, if there is one, has another
pub record IsKeyRun (entries : List Keyed) (start end : ℕ) : Type 0 where
  pub within : end ≤ length entries
  pub beyond : start < end
  pub same : (k : ℕ) (e f : Keyed) → start ≤ k → k < end → slice_get entries start ≡ Some e → slice_get entries k ≡ Some f → f.key ≡ e.key
  pub other : (e f : Keyed) → slice_get entries start ≡ Some e → slice_get entries end ≡ Some f → f.key ≢ e.key

-- a is greater than b
abbrev pub IsGreaterKey : List ℤ → List ℤ → Type 0
IsGreaterKey a b = slice_cmp int_cmp b a ≡ Less

-- each entry before place i has a greater key than each from there on
abbrev pub AreBehind : List Keyed → ℕ → Type 0
AreBehind entries i = (k j : ℕ) (e f : Keyed) → k < i → i ≤ j → slice_get entries k ≡ Some e → slice_get entries j ≡ Some f → IsGreaterKey e.key f.key

-- the merged line of entries with one key
pub record IsLineOfRun (members : List Operator) (run : List Keyed) (line : MergedLine) : Type 0 where
  pub key : (e : Keyed) → slice_get run 0 ≡ Some e → line.key ≡ e.key
  pub count : line.count ≡ length run
  pub sum : line.sum ≡ sum_of_values (measured_lines run)
  pub absent : (e : Keyed) → slice_get run 0 ≡ Some e → IsTrue line.absent ↔ IsAbsent members e.line.index
  pub observed : IsTrue line.observed ↔ (IsTrue line.absent × HasValue (measured_lines run))

-- the merged line of all entries with its key
pub record IsGathered (members : List Operator) (entries : List Keyed) (line : MergedLine) : Type 0 where
  pub some : (e : Keyed) × Contains entries e × (line.key ≡ e.key)
  pub merges : IsMergeOf members (measured_lines (filter (has_key line.key) entries)) line

-- the merged lines of the entries, each key once, in descending order
pub record AreGathered (members : List Operator) (entries : List Keyed) (merged : List MergedLine) : Type 0 where
  pub each : All (IsGathered members entries) merged
  pub all : (e : Keyed) → Contains entries e → (line : MergedLine) × Contains merged line × (line.key ≡ e.key)
  pub descending : AllPairs (λ (a b : MergedLine). IsGreaterKey a.key b.key) merged
