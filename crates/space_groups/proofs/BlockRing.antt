-- Equations between blocks and vectors, by `Ring`: blocks of expressions, and what they stand for.
use Rattle.std.proofs.Common.{◌≡◌, ◌++◌, ◌∷◌, [], ℕ, ◌+◌, Bool, ◌&&◌, List, ℤ, pos, T}
use Rattle.lattice_algebra.specs.Matrix.{entries, coordinates, ◌·◌, ◌·ᶜ◌, ◌+ᶜ◌, ◌+ᵐ◌, times, scaled}
use Rattle.lattice_algebra.proofs.Ring.{Expr, var, con, ◌⊕◌, ◌⊗◌, value, both, ring}
use Rattle.lattice_algebra.proofs.MatrixRing.{SymMatrix, SymColumn, matrix_at, column_at, ◌·ˢ◌, ◌·ˢᶜ◌, ◌+ˢ◌, ◌+ˢᶜ◌, sym_times, sym_scaled, sym_identity, sym_nothing, sym_origin, matrix_value, column_value, agree, matrices_agree, columns_agree, matrix_ring, column_ring}
use Rattle.space_groups.specs.Averages.{Block, Vector, block_of, block_plus, block_times, block_scaled, vector_plus, block_on, vector_scaled}

pub record SymBlock : Type 0 where
  pub m : SymMatrix
  pub t : SymColumn
  pub n : Expr

pub record SymVector : Type 0 where
  pub p : SymColumn
  pub d : Expr

-- the block whose entries are the variables from n on, 13 of them, and the vector, 4 of them
abbrev pub block_at : ℕ → SymBlock
block_at n = record { m = matrix_at n; t = column_at (n + 9); n = var (n + 12) }

abbrev pub vector_at : ℕ → SymVector
vector_at n = record { p = column_at n; d = var (n + 3) }

-- the values of those variables
abbrev pub Values : Block → List ℤ
Values a = entries a.m ++ (coordinates a.t ++ (a.n ∷ []))

abbrev pub VectorValues : Vector → List ℤ
VectorValues v = coordinates v.p ++ (v.d ∷ [])

infixl 60 ◌+ˢᵇ◌ ◌+ˢᵛ◌
infixl 70 ◌·ˢᵇ◌ ◌·ˢᵛ◌
abbrev pub ◌+ˢᵇ◌ : SymBlock → SymBlock → SymBlock
a +ˢᵇ b = record { m = a.m +ˢ b.m; t = a.t +ˢᶜ b.t; n = a.n ⊕ b.n }

abbrev pub ◌·ˢᵇ◌ : SymBlock → SymBlock → SymBlock
a ·ˢᵇ b = record { m = a.m ·ˢ b.m; t = a.m ·ˢᶜ b.t +ˢᶜ sym_times b.n a.t; n = a.n ⊗ b.n }

abbrev pub sym_block_scaled : Expr → SymBlock → SymBlock
sym_block_scaled k a = record { m = sym_scaled k a.m; t = sym_times k a.t; n = k ⊗ a.n }

abbrev pub sym_no_block : SymBlock
sym_no_block = record { m = sym_nothing; t = sym_origin; n = con (pos 0) }

abbrev pub sym_one_block : SymBlock
sym_one_block = record { m = sym_identity; t = sym_origin; n = con (pos 1) }

abbrev pub ◌+ˢᵛ◌ : SymVector → SymVector → SymVector
u +ˢᵛ v = record { p = u.p +ˢᶜ v.p; d = u.d ⊕ v.d }

abbrev pub ◌·ˢᵛ◌ : SymBlock → SymVector → SymVector
a ·ˢᵛ v = record { p = a.m ·ˢᶜ v.p +ˢᶜ sym_times v.d a.t; d = a.n ⊗ v.d }

abbrev pub sym_vector_scaled : Expr → SymVector → SymVector
sym_vector_scaled k v = record { p = sym_times k v.p; d = k ⊗ v.d }

abbrev pub sym_no_vector : SymVector
sym_no_vector = record { p = sym_origin; d = con (pos 0) }

-- what they stand for: to unfold these is to unfold the operations too
unfoldable pub block_value : List ℤ → SymBlock → Block
unfolding block_of block_plus block_times block_scaled ◌·◌ ◌·ᶜ◌ ◌+ᶜ◌ ◌+ᵐ◌ times scaled
block_value r a = record { m = matrix_value r a.m; t = column_value r a.t; n = value r a.n }

unfoldable pub vector_value : List ℤ → SymVector → Vector
unfolding vector_plus vector_scaled block_on block_value
vector_value r v = record { p = column_value r v.p; d = value r v.d }

abbrev pub blocks_agree : SymBlock → SymBlock → Bool
blocks_agree a b = matrices_agree a.m b.m && (columns_agree a.t b.t && agree a.n b.n)

abbrev pub vectors_agree : SymVector → SymVector → Bool
vectors_agree u v = columns_agree u.p v.p && agree u.d v.d

-- `block_ring r a b tt`: at all values r of the variables a and b are equal
pub block_ring : (r : List ℤ) (a b : SymBlock) → T (blocks_agree a b) → block_value r a ≡ block_value r b
unfolding block_value
block_ring r a b t =
    let p = both _ _ t in
    let q = both _ _ p.1 in
    λ i. record { m = matrix_ring r a.m b.m p.0 i; t = column_ring r a.t b.t q.0 i; n = ring r a.n b.n q.1 i }

pub vector_ring : (r : List ℤ) (u v : SymVector) → T (vectors_agree u v) → vector_value r u ≡ vector_value r v
unfolding vector_value
vector_ring r u v t = let p = both _ _ t in λ i. record { p = column_ring r u.p v.p p.0 i; d = ring r u.d v.d p.1 i }
