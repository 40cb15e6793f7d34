-- What is counted of the members of a group at one index.
use Rattle.std.specs.Prelude.{◌≡◌, ◌<◌, ◌≤◌, ◌↔◌, IsTrue, pos, ℕ, Some, List, count_by, slice_get}
use Rattle.std.specs.List.{Contains}
use Rattle.lattice_algebra.specs.Operator.{Operator}
use Rattle.phase_rules.specs.declared.tallies.Turn.{Turn}
use Rattle.phase_rules.specs.declared.tallies.Tally.{Tally}
use Rattle.phase_rules.specs.Rows.{Row, ◌·ʳ◌, neg_row}
use Rattle.phase_rules.specs.Equivalent.{fixes, reverses}
use Rattle.phase_rules.specs.Marks.{phase_shift, IsAbsent}

-- whether the image e of h is h, and whether it is -h
pub record IsTurn (h e : Row) (turn : Turn) : Type 0 where
  pub fixes : IsTrue turn.fixes ↔ (e ≡ h)
  pub reverses : IsTrue turn.reverses ↔ (e ≡ neg_row h)

-- each member from place i to before end does the same to h
abbrev pub AreTurned : List Operator → Row → ℕ → ℕ → Turn → Type 0
AreTurned members h i end turn = (k : ℕ) (f : Operator) → i ≤ k → k < end → slice_get members k ≡ Some f → IsTurn h (h ·ʳ f.w) turn

-- a member that reverses h, and whose phase shift is s
pub record HasReverser (members : List Operator) (h : Row) (s : ℕ) : Type 0 where
  pub by : Operator
  pub member : Contains members by
  pub reverses : h ·ʳ by.w ≡ neg_row h
  pub phase : phase_shift h by ≡ pos s

-- the tally of these members at h
pub record IsTally (members : List Operator) (h : Row) (t : Tally) : Type 0 where
  pub fixers : t.fixers ≡ count_by (fixes h) members
  pub reversers : t.reversers ≡ count_by (reverses h) members
  pub shifted : IsTrue t.shifted ↔ IsAbsent members h
  pub phase : 0 < t.reversers → HasReverser members h t.phase
