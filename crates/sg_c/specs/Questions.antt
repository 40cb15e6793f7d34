-- What is answered about a group, as C has it.
use Rattle.std.specs.Prelude.{◌≡◌, ℕ, ℤ, Bool, true, false, List, [], ◌∷◌, length, count_by}
use Rattle.lattice_algebra.specs.Operator.{AreWithin}
use Rattle.lattice_algebra.specs.Operator as lattice
use Rattle.lattice_algebra.specs.Map.{Map}
use Rattle.lattice_algebra.specs.Point.{Point}
use Rattle.exact_ops.specs.declared.TheConstants.{UNIT}
use Rattle.exact_ops.specs.Points.{AreCoordinatesInRange, HasCoordinates}
use Rattle.space_groups.specs.Lists.{IsSiteList, IsOrbitList}
use Rattle.phase_rules.specs.declared.TheConstants.{MAX_INDEX}
use Rattle.phase_rules.specs.declared.pairs.Pairs.{Pairs}
use Rattle.phase_rules.specs.declared.pairs.Pairs.TheVariants.{Friedel, Apart}
use Rattle.phase_rules.specs.declared.parts.Mark.{Mark}
use Rattle.phase_rules.specs.declared.parts.Mark.TheVariants.{Absent, Free, Phase}
use Rattle.phase_rules.specs.Equivalent.{IsClass, fixes}
use Rattle.phase_rules.specs.Marks.{IsMark}
use Rattle.phase_rules.specs.Rows.{Row}
use Rattle.refl_merge.specs.Keys.{IsClassKey}
use Rattle.sg_c.specs.declared.questions.Coordinates.{Coordinates}
use Rattle.sg_c.specs.declared.questions.IndexNumbers.{IndexNumbers}
use Rattle.sg_c.specs.declared.questions.Reflection.{Reflection}
use Rattle.sg_c.specs.declared.questions.Site.{Site}
use Rattle.sg_c.specs.declared.questions.TheConstants.{FREE, RESTRICTED, ABSENT}

-- whether Friedel's law is asked for
abbrev pub pairs_of : Bool → Pairs
pairs_of true = Friedel
pairs_of false = Apart

-- a mark as C has it: its code, and the phase where it restricts it, otherwise 0
abbrev pub IsMarkedAs : Mark → ℕ → ℕ → Type 0
IsMarkedAs Free code phase = (code ≡ FREE) × (phase ≡ 0)
IsMarkedAs (Phase s) code phase = (code ≡ RESTRICTED) × (phase ≡ s)
IsMarkedAs Absent code phase = (code ≡ ABSENT) × (phase ≡ 0)

-- what symmetry says of the reflection h
pub record IsReflection (pairs : Pairs) (members : List lattice.Operator) (h : Row) (r : Reflection) : Type 0 where
  pub mark : Mark
  pub is : IsMark pairs members h mark
  pub marked : IsMarkedAs mark r.mark r.phase
  pub fixers : r.fixers ≡ count_by (fixes h) members
  pub size : (class : List Row) → IsClass pairs members h class → r.class_size ≡ length class

abbrev pub IsIndexInRange : IndexNumbers → Type 0
IsIndexInRange i = AreWithin MAX_INDEX i.h i.k i.l

-- what symmetry says of the reflection with these numbers
abbrev pub IsReflectionAt : Pairs → List lattice.Operator → IndexNumbers → Reflection → Type 0
IsReflectionAt pairs members i r = IsReflection pairs members (record { h = i.h; k = i.k; l = i.l }) r

-- the greatest index that is equivalent to that with these numbers
abbrev pub IsKeyAt : Pairs → List lattice.Operator → IndexNumbers → IndexNumbers → Type 0
IsKeyAt pairs members i key = IsClassKey pairs members (record { h = i.h; k = i.k; l = i.l }) (record { h = key.h; k = key.k; l = key.l })

-- the coordinates, each as its numerator and its denominator
abbrev pub pairs_in : Coordinates → List (ℤ × ℤ)
pairs_in c = (c.x.n, c.x.d) ∷ (c.y.n, c.y.d) ∷ (c.z.n, c.z.d) ∷ []

abbrev pub IsPointInRange : Coordinates → Type 0
IsPointInRange c = AreCoordinatesInRange (pairs_in c)

-- the order of the site-symmetry group of the point with these coordinates, and the number of the points of its orbit in a cell
pub record IsSite (members : List lattice.Operator) (c : List (ℤ × ℤ)) (site : Site) : Type 0 where
  pub point : Point
  pub has : HasCoordinates c point
  pub order : (list : List Map) → IsSiteList UNIT members point list → site.order ≡ length list
  pub multiplicity : (list : List Point) → IsOrbitList UNIT members point list → site.multiplicity ≡ length list

abbrev pub IsSiteAt : List lattice.Operator → Coordinates → Site → Type 0
IsSiteAt members c site = IsSite members (pairs_in c) site
