-- Symmetry-equivalent reflections, with Friedel's law and without it. International Tables B.
use Rattle.std.specs.Prelude.{◌≡◌, ◌≢◌, ◌⊎◌, ◌↔◌, Bool, List}
use Rattle.std.specs.List.{AllPairs, Contains}
use Rattle.lattice_algebra.specs.Operator.{Operator}
use Rattle.phase_rules.specs.declared.pairs.Pairs.{Pairs}
use Rattle.phase_rules.specs.declared.pairs.Pairs.TheVariants.{Friedel, Apart}
use Rattle.phase_rules.specs.Rows.{Row, ◌·ʳ◌, neg_row, row_eq}

-- g is e, or with Friedel's law the opposite of e
abbrev pub IsSameReflection : Pairs → Row → Row → Type 0
IsSameReflection Apart e g = g ≡ e
IsSameReflection Friedel e g = (g ≡ e) ⊎ (g ≡ neg_row e)

-- h and g are equivalent: some member (W, t) has g = h W, or with Friedel's law g = -h W
pub record AreEquivalent (pairs : Pairs) (members : List Operator) (h g : Row) : Type 0 where
  pub by : Operator
  pub member : Contains members by
  pub same : IsSameReflection pairs (h ·ʳ by.w) g

-- the class of h: the list has each row that is equivalent to h once
pub record IsClass (pairs : Pairs) (members : List Operator) (h : Row) (list : List Row) : Type 0 where
  pub exactly : (g : Row) → Contains list g ↔ AreEquivalent pairs members h g
  pub once : AllPairs (λ (a b : Row). a ≢ b) list

-- whether h W = h, and whether h W = -h
abbrev pub fixes : Row → Operator → Bool
fixes h f = row_eq (h ·ʳ f.w) h

abbrev pub reverses : Row → Operator → Bool
reverses h f = row_eq (h ·ʳ f.w) (neg_row h)
