-- Affine maps with whole numbers: x -> W x + s / unit, whole shifts of the cell included, so that products are exact.
use Rattle.std.specs.Prelude.{◌≡◌, ℕ, pos}
use Rattle.lattice_algebra.specs.Matrix.{Matrix, Column, ◌·◌, ◌·ᶜ◌, ◌+ᶜ◌, neg_column, times, identity, origin, inverse_matrix}
use Rattle.lattice_algebra.specs.Operator.{Operator, modulo}

-- the matrix W, and the translation s in parts of a cell
pub record Map : Type 0 where
  pub w : Matrix
  pub s : Column

-- g after f
infixl 70 ◌∘◌
unfoldable pub ◌∘◌ : Map → Map → Map
g ∘ f = record { w = g.w · f.w; s = g.w ·ᶜ f.s +ᶜ g.s }

abbrev pub identity_map : Map
identity_map = record { w = identity; s = origin }

-- h undoes g
pub record AreInverse (g h : Map) : Type 0 where
  pub left : h ∘ g ≡ identity_map
  pub right : g ∘ h ≡ identity_map

-- what undoes g, where its matrix is unimodular
unfoldable pub undo : Map → Map
undo g = let v = inverse_matrix g.w in record { w = v; s = neg_column (v ·ᶜ g.s) }

-- the operator of a map: its translation modulo the cell
unfoldable pub operator_of : ℕ → Map → Operator
operator_of unit g = record { w = g.w; t = modulo unit g.s }

-- the map of an operator, without whole shifts
abbrev pub map_of : Operator → Map
map_of f = record { w = f.w; s = f.t }

-- the whole cells by which a map shifts, beside the translation of its operator
abbrev pub IsShift : ℕ → Map → Column → Type 0
IsShift unit g k = g.s ≡ modulo unit g.s +ᶜ times (pos unit) k
