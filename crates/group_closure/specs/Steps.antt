-- What the steps of closing a list keep.
use Rattle.std.specs.Prelude.{◌≡◌, ◌≤◌, ◌↔◌, ◌⊎◌, Some, List, [], ◌∷◌, ◌++◌, length, slice_get}
use Rattle.std.specs.List.{All, Contains}
use Rattle.lattice_algebra.specs.Matrix.{◌·◌}
use Rattle.lattice_algebra.specs.Operator.{Operator, HasEntriesWithin, product, identity_operator}
use Rattle.exact_ops.specs.Narrow.{IsNarrow}
use Rattle.exact_ops.specs.declared.TheConstants.{UNIT}
use Rattle.group_closure.specs.declared.TheConstants.{MAX_OPERATORS}
use Rattle.group_closure.specs.Words.{Span, AreDistinct}

-- new is old, with f at its end where old lacks it
abbrev pub Adds : List Operator → Operator → List Operator → Type 0
Adds old f new = (Contains old f × (new ≡ old)) ⊎ ((¬ Contains old f) × (new ≡ old ++ f ∷ []))

-- new is old and more
abbrev pub Extends : List Operator → List Operator → Type 0
Extends old new = (more : List Operator) × (new ≡ old ++ more)

-- the identity first, and members of Span, each once
pub record IsPartial (generators members : List Operator) : Type 0 where
  pub first : slice_get members 0 ≡ Some identity_operator
  pub spanned : All (Span generators) members
  pub distinct : AreDistinct members
  pub narrow : All IsNarrow members

-- members has the products of f by the generators
abbrev pub HasProducts : List Operator → Operator → List Operator → Type 0
HasProducts generators f members = All (λ g. Contains members (product UNIT f g)) generators

-- the product of f by g has an entry beyond 2, or is no member where there are as many as there may be
abbrev pub IsRefused : List Operator → Operator → Operator → Type 0
IsRefused members f g = (¬ HasEntriesWithin 2 (f.w · g.w)) ⊎ ((¬ Contains members (product UNIT f g)) × (MAX_OPERATORS ≤ length members))

-- all members of Span, at most MAX_OPERATORS, each once and narrow, the identity first
pub record IsGenerated (generators members : List Operator) : Type 0 where
  pub first : slice_get members 0 ≡ Some identity_operator
  pub span : (f : Operator) → Contains members f ↔ Span generators f
  pub distinct : AreDistinct members
  pub narrow : All IsNarrow members
  pub within : length members ≤ MAX_OPERATORS
