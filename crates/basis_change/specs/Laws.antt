-- What is promised of a space group in other coordinates.
use Rattle.std.specs.Prelude.{◌≡◌, ◌↔◌, pos, ◌+ℤ◌, ◌*ℤ◌, List, length}
use Rattle.lattice_algebra.specs.Matrix.{inverse_matrix}
use Rattle.lattice_algebra.specs.Operator.{Operator}
use Rattle.lattice_algebra.specs.Map.{Map}
use Rattle.lattice_algebra.specs.Point.{Point, IsPoint}
use Rattle.exact_ops.specs.declared.TheConstants.{UNIT}
use Rattle.space_groups.specs.Space.{IsInSite, AreConjugate}
use Rattle.space_groups.specs.Lists.{IsOrbitList}
use Rattle.space_groups.specs.Bases.{CoordinateChange, IsChanged, changed_point}
use Rattle.phase_rules.specs.declared.pairs.Pairs.{Pairs}
use Rattle.phase_rules.specs.declared.parts.Mark.{Mark}
use Rattle.phase_rules.specs.declared.parts.Mark.TheVariants.{Absent, Free, Phase}
use Rattle.phase_rules.specs.Rows.{Row, ◌·ʳ◌, ◌·ʳᶜ◌}
use Rattle.phase_rules.specs.Equivalent.{IsClass}
use Rattle.phase_rules.specs.Marks.{phase_of, IsAbsent}

-- the row h P, where P is the inverse of the matrix of the change
abbrev pub changed_row : CoordinateChange → Row → Row
changed_row c h = h ·ʳ inverse_matrix c.w

-- the site-symmetry group of c x is the set of all c s c^-1, s in that of x
abbrev pub MovesSites : List Operator → CoordinateChange → List Operator → Type 0
MovesSites members c changed =
    (x : Point) (h : Map) → IsPoint x → IsInSite UNIT changed (changed_point UNIT c x) h ↔ ((g : Map) × IsInSite UNIT members x g × IsChanged c g h)

-- x and y are conjugate exactly where c x and c y are
abbrev pub KeepsConjugates : List Operator → CoordinateChange → List Operator → Type 0
KeepsConjugates members c changed =
    (x y : Point) → IsPoint x → IsPoint y → AreConjugate UNIT members x y ↔ AreConjugate UNIT changed (changed_point UNIT c x) (changed_point UNIT c y)

-- the orbits of x and c x have as many points in a cell
abbrev pub KeepsOrbitSizes : List Operator → CoordinateChange → List Operator → Type 0
KeepsOrbitSizes members c changed =
    (x : Point) (orbit there : List Point) → IsPoint x → IsOrbitList UNIT members x orbit → IsOrbitList UNIT changed (changed_point UNIT c x) there → length orbit ≡ length there

-- h P is absent exactly where h is
abbrev pub KeepsAbsences : List Operator → CoordinateChange → List Operator → Type 0
KeepsAbsences members c changed = (h : Row) → IsAbsent members h ↔ IsAbsent changed (changed_row c h)

-- the class of h P has as many rows as that of h, with Friedel's law and without it
abbrev pub KeepsClassSizes : List Operator → CoordinateChange → List Operator → Type 0
KeepsClassSizes members c changed =
    (pairs : Pairs) (h : Row) (class there : List Row) → IsClass pairs members h class → IsClass pairs changed (changed_row c h) there → length class ≡ length there

-- the mark of h P from that of h: a phase s becomes s + 2 (h P).t, where t is the translation of the change
abbrev pub changed_mark : CoordinateChange → Row → Mark → Mark
changed_mark c h Absent = Absent
changed_mark c h Free = Free
changed_mark c h (Phase s) = Phase (phase_of (pos s +ℤ pos 2 *ℤ (changed_row c h ·ʳᶜ c.t)))
