-- Systematic absences and phase restrictions. International Tables B.
use Rattle.std.specs.Prelude.{◌≡◌, ◌≢◌, ℕ, ℤ, pos, neg_ℤ, ◌-ℤ◌, ◌*ℤ◌, unsigned_abs, List}
use Rattle.std.specs.Int.{int_rem_euclid}
use Rattle.std.specs.List.{Contains}
use Rattle.lattice_algebra.specs.Operator.{Operator}
use Rattle.exact_ops.specs.declared.TheConstants.{UNIT}
use Rattle.phase_rules.specs.declared.pairs.Pairs.{Pairs}
use Rattle.phase_rules.specs.declared.pairs.Pairs.TheVariants.{Friedel}
use Rattle.phase_rules.specs.declared.parts.Mark.{Mark}
use Rattle.phase_rules.specs.declared.parts.Mark.TheVariants.{Absent, Free, Phase}
use Rattle.phase_rules.specs.Rows.{Row, ◌·ʳ◌, ◌·ʳᶜ◌, neg_row}

-- how far the phase of h W is behind that of h, for the operator (W, t): h.t modulo a cell, counted in parts of a cell
abbrev pub phase_shift : Row → Operator → ℤ
phase_shift h f = int_rem_euclid (h ·ʳᶜ f.t) (pos UNIT)

-- h is systematically absent: some member has h W = h and shifts the phase
pub record IsAbsent (members : List Operator) (h : Row) : Type 0 where
  pub by : Operator
  pub member : Contains members by
  pub fixes : h ·ʳ by.w ≡ h
  pub shifts : phase_shift h by ≢ pos 0

-- the phase of h is restricted to s: with Friedel's law, h is not absent, some member has h W = -h, and h.t is s modulo a cell. So
-- the phase is s times 180 / UNIT degrees, or 180 degrees further
pub record IsRestrictedTo (pairs : Pairs) (members : List Operator) (h : Row) (s : ℕ) : Type 0 where
  pub friedel : pairs ≡ Friedel
  pub present : ¬ IsAbsent members h
  pub by : Operator
  pub member : Contains members by
  pub reverses : h ·ʳ by.w ≡ neg_row h
  pub phase : phase_shift h by ≡ pos s

-- h is neither absent nor restricted
pub record IsFree (pairs : Pairs) (members : List Operator) (h : Row) : Type 0 where
  pub present : ¬ IsAbsent members h
  pub unrestricted : (s : ℕ) → ¬ IsRestrictedTo pairs members h s

-- what a mark of h says
abbrev pub IsMark : Pairs → List Operator → Row → Mark → Type 0
IsMark pairs members h Absent = IsAbsent members h
IsMark pairs members h Free = IsFree pairs members h
IsMark pairs members h (Phase s) = IsRestrictedTo pairs members h s

-- a number of parts, modulo a cell
abbrev pub phase_of : ℤ → ℕ
phase_of z = unsigned_abs (int_rem_euclid z (pos UNIT))

-- the mark of h W, for the operator (W, t), from that of h: a phase s becomes s - 2 h.t
abbrev pub carried_mark : Row → Operator → Mark → Mark
carried_mark h f Absent = Absent
carried_mark h f Free = Free
carried_mark h f (Phase s) = Phase (phase_of (pos s -ℤ pos 2 *ℤ (h ·ʳᶜ f.t)))

-- the mark of -h from that of h: a phase becomes its opposite
abbrev pub opposite_mark : Mark → Mark
opposite_mark Absent = Absent
opposite_mark Free = Free
opposite_mark (Phase s) = Phase (phase_of (neg_ℤ (pos s)))
