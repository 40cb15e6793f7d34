-- Blocks are a ring, they act on vectors, and maps are blocks.
use Rattle.std.proofs.Common.{◌≡◌, ◌++◌, ◌∷◌, [], ℕ, zero, suc, ℤ, pos, ◌+ℤ◌, ◌*ℤ◌, ◌<ℤ◌, ap, sym, ◌∙◌, refl}
use lib.IntN.{*ℤ_comm}
use Rattle.lattice_algebra.specs.Matrix.{Column, entries, coordinates, ◌·◌, ◌·ᶜ◌, ◌+ᶜ◌, times, scaled, origin}
use Rattle.lattice_algebra.specs.Map.{Map, ◌∘◌, identity_map}
use Rattle.lattice_algebra.proofs.MatrixRing.{matrix_at, column_at, ◌·ˢᶜ◌, ◌+ˢᶜ◌, sym_times, sym_origin, column_ring}
use Rattle.lattice_algebra.proofs.Ring.{var, con, ◌⊕◌, ◌⊗◌, one_times}
use Rattle.lattice_algebra.proofs.Numbers.{cancel_number, one_more}
use Rattle.lattice_algebra.proofs.Columns.{cancel_column, cancel_matrix, drop_left, same_left}
use Rattle.lattice_algebra.proofs.Matrices.{x_step, y_step, z_step, same_matrix}
use Rattle.finite_groups.specs.Groups.{Addition, Ring, Vectors}
use Rattle.finite_groups.proofs.Averages.{copies}
use Rattle.space_groups.specs.Averages.{Block, Vector, block_of, block_plus, no_block, block_times, block_scaled, vector_plus, no_vector, block_on, vector_scaled}
use Rattle.space_groups.proofs.BlockRing.{SymBlock, Values, VectorValues, block_at, vector_at, ◌+ˢᵇ◌, ◌·ˢᵇ◌, sym_block_scaled, sym_no_block, sym_one_block, ◌+ˢᵛ◌, ◌·ˢᵛ◌, sym_vector_scaled, sym_no_vector, block_value, vector_value, block_ring, vector_ring}

pub block_path : (a b : Block) → a.m ≡ b.m → a.t ≡ b.t → a.n ≡ b.n → a ≡ b
block_path a b p q r = λ i. record { m = p i; t = q i; n = r i }

pub vector_path : (u v : Vector) → u.p ≡ v.p → u.d ≡ v.d → u ≡ v
vector_path u v p q = λ i. record { p = p i; d = q i }

-- each law is the same equation between expressions: over three blocks of variables, and vectors and numbers after them
abbrev A : SymBlock
A = block_at 0

abbrev B : SymBlock
B = block_at 13

abbrev C : SymBlock
C = block_at 26

pub block_plus_assoc : (a b c : Block) → block_plus (block_plus a b) c ≡ block_plus a (block_plus b c)
unfolding block_value
block_plus_assoc a b c = block_ring (Values a ++ (Values b ++ Values c)) (A +ˢᵇ B +ˢᵇ C) (A +ˢᵇ (B +ˢᵇ C)) tt

pub block_plus_comm : (a b : Block) → block_plus a b ≡ block_plus b a
unfolding block_value
block_plus_comm a b = block_ring (Values a ++ Values b) (A +ˢᵇ B) (B +ˢᵇ A) tt

pub block_plus_unit : (a : Block) → block_plus no_block a ≡ a
unfolding block_value
block_plus_unit a = block_ring (Values a) (sym_no_block +ˢᵇ A) (A) tt

pub none_times : (a : Block) → block_times no_block a ≡ no_block
unfolding block_value
none_times a = block_ring (Values a) (sym_no_block ·ˢᵇ A) (sym_no_block) tt

pub times_none : (a : Block) → block_times a no_block ≡ no_block
unfolding block_value
times_none a = block_ring (Values a) (A ·ˢᵇ sym_no_block) (sym_no_block) tt

pub times_plus : (a b c : Block) → block_times a (block_plus b c) ≡ block_plus (block_times a b) (block_times a c)
unfolding block_value
times_plus a b c = block_ring (Values a ++ (Values b ++ Values c)) (A ·ˢᵇ (B +ˢᵇ C)) (A ·ˢᵇ B +ˢᵇ A ·ˢᵇ C) tt

pub plus_times : (a b c : Block) → block_times (block_plus a b) c ≡ block_plus (block_times a c) (block_times b c)
unfolding block_value
plus_times a b c = block_ring (Values a ++ (Values b ++ Values c)) ((A +ˢᵇ B) ·ˢᵇ C) (A ·ˢᵇ C +ˢᵇ B ·ˢᵇ C) tt

pub block_times_assoc : (a b c : Block) → block_times (block_times a b) c ≡ block_times a (block_times b c)
unfolding block_value
block_times_assoc a b c = block_ring (Values a ++ (Values b ++ Values c)) (A ·ˢᵇ B ·ˢᵇ C) (A ·ˢᵇ (B ·ˢᵇ C)) tt

pub on_times : (a b : Block) (v : Vector) → block_on (block_times a b) v ≡ block_on a (block_on b v)
unfolding vector_value
on_times a b v = vector_ring (Values a ++ (Values b ++ VectorValues v)) ((A ·ˢᵇ B) ·ˢᵛ vector_at 26) (A ·ˢᵛ (B ·ˢᵛ vector_at 26)) tt

pub on_none : (v : Vector) → block_on no_block v ≡ no_vector
unfolding vector_value
on_none v = vector_ring (VectorValues v) (sym_no_block ·ˢᵛ vector_at 0) (sym_no_vector) tt

pub on_plus : (a b : Block) (v : Vector) → block_on (block_plus a b) v ≡ vector_plus (block_on a v) (block_on b v)
unfolding vector_value
on_plus a b v = vector_ring (Values a ++ (Values b ++ VectorValues v)) ((A +ˢᵇ B) ·ˢᵛ vector_at 26) (A ·ˢᵛ vector_at 26 +ˢᵛ B ·ˢᵛ vector_at 26) tt

pub to_none : (a : Block) → block_on a no_vector ≡ no_vector
unfolding vector_value
to_none a = vector_ring (Values a) (A ·ˢᵛ sym_no_vector) (sym_no_vector) tt

pub to_plus : (a : Block) (u v : Vector) → block_on a (vector_plus u v) ≡ vector_plus (block_on a u) (block_on a v)
unfolding vector_value
to_plus a u v = vector_ring (Values a ++ (VectorValues u ++ VectorValues v)) (A ·ˢᵛ (vector_at 13 +ˢᵛ vector_at 17)) (A ·ˢᵛ vector_at 13 +ˢᵛ A ·ˢᵛ vector_at 17) tt

pub vector_plus_assoc : (u v w : Vector) → vector_plus (vector_plus u v) w ≡ vector_plus u (vector_plus v w)
unfolding vector_value
vector_plus_assoc u v w = vector_ring (VectorValues u ++ (VectorValues v ++ VectorValues w)) (vector_at 0 +ˢᵛ vector_at 4 +ˢᵛ vector_at 8) (vector_at 0 +ˢᵛ (vector_at 4 +ˢᵛ vector_at 8)) tt

pub vector_plus_comm : (u v : Vector) → vector_plus u v ≡ vector_plus v u
unfolding vector_value
vector_plus_comm u v = vector_ring (VectorValues u ++ VectorValues v) (vector_at 0 +ˢᵛ vector_at 4) (vector_at 4 +ˢᵛ vector_at 0) tt

pub vector_plus_unit : (u : Vector) → vector_plus no_vector u ≡ u
unfolding vector_value
vector_plus_unit u = vector_ring (VectorValues u) (sym_no_vector +ˢᵛ vector_at 0) (vector_at 0) tt

abbrev pub block_sums : Addition
block_sums = record { M = Block; plus = block_plus; none = no_block; assoc = block_plus_assoc; comm = block_plus_comm; unit = block_plus_unit }

abbrev pub blocks : Ring
blocks = record { sums = block_sums; times = block_times; none_left = none_times; none_right = times_none; dist_left = times_plus; dist_right = plus_times }

abbrev pub vector_sums : Addition
vector_sums = record { M = Vector; plus = vector_plus; none = no_vector; assoc = vector_plus_assoc; comm = vector_plus_comm; unit = vector_plus_unit }

abbrev pub vectors : Vectors blocks
vectors = record { adds = vector_sums; on = block_on; on_none = on_none; on_plus = on_plus; on_times = on_times; to_none = to_none; to_plus = to_plus }

-- a map's block: a product's block is the product of the blocks
pub block_of-∘ : (g f : Map) → block_of (g ∘ f) ≡ block_times (block_of g) (block_of f)
unfolding block_value ◌∘◌
block_of-∘ g f =
    let t = column_at 9 in
    let s = matrix_at 0 ·ˢᶜ column_at 12 in
    block_path _ _ refl (column_ring (entries g.w ++ (coordinates g.s ++ coordinates f.s)) (s +ˢᶜ t) (s +ˢᶜ sym_times (con (pos 1)) t) tt) refl

-- ---- copies are multiples

scaled-zero : (a : Block) → no_block ≡ block_scaled (pos 0) a
unfolding block_value
scaled-zero a = block_ring (Values a) (sym_no_block) (sym_block_scaled (con (pos 0)) A) tt

scaled-more : (k : ℤ) (a : Block) → block_plus a (block_scaled k a) ≡ block_scaled (pos 1 +ℤ k) a
unfolding block_value
scaled-more k a = block_ring (k ∷ Values a) (block_at 1 +ˢᵇ sym_block_scaled (var 0) (block_at 1)) (sym_block_scaled (con (pos 1) ⊕ var 0) (block_at 1)) tt

pub copies-block : (n : ℕ) (a : Block) → copies block_sums n a ≡ block_scaled (pos n) a
copies-block zero a = scaled-zero a
copies-block (suc n) a = ap (block_plus a) (copies-block n a) ∙ scaled-more (pos n) a ∙ ap (λ k. block_scaled k a) (one_more n)

vector-zero : (v : Vector) → no_vector ≡ vector_scaled (pos 0) v
unfolding vector_value
vector-zero v = vector_ring (VectorValues v) (sym_no_vector) (sym_vector_scaled (con (pos 0)) (vector_at 0)) tt

vector-more : (k : ℤ) (v : Vector) → vector_plus v (vector_scaled k v) ≡ vector_scaled (pos 1 +ℤ k) v
unfolding vector_value
vector-more k v = vector_ring (k ∷ VectorValues v) (vector_at 1 +ˢᵛ sym_vector_scaled (var 0) (vector_at 1)) (sym_vector_scaled (con (pos 1) ⊕ var 0) (vector_at 1)) tt

pub copies-vector : (n : ℕ) (v : Vector) → copies vector_sums n v ≡ vector_scaled (pos n) v
copies-vector zero v = vector-zero v
copies-vector (suc n) v = ap (vector_plus v) (copies-vector n v) ∙ vector-more (pos n) v ∙ ap (λ k. vector_scaled k v) (one_more n)

-- ---- a positive factor cancels

pub cancel_block : (d : ℤ) (a b : Block) → pos 0 <ℤ d → block_scaled d a ≡ block_scaled d b → a ≡ b
unfolding block_scaled
cancel_block d a b h e = block_path a b (cancel_matrix d a.m b.m h (ap (λ (c : Block). c.m) e)) (cancel_column d a.t b.t h (ap (λ (c : Block). c.t) e)) (cancel_number d a.n b.n h (ap (λ (c : Block). c.n) e))

pub cancel_vector : (d : ℤ) (u v : Vector) → pos 0 <ℤ d → vector_scaled d u ≡ vector_scaled d v → u ≡ v
unfolding vector_scaled
cancel_vector d u v h e = vector_path u v (cancel_column d u.p v.p h (ap (λ (c : Vector). c.p) e)) (cancel_number d u.d v.d h (ap (λ (c : Vector). c.d) e))

-- ---- multiples in products

pub times_scaled : (k : ℤ) (a b : Block) → block_times a (block_scaled k b) ≡ block_scaled k (block_times a b)
unfolding block_value
times_scaled k a b = block_ring (Values a ++ (Values b ++ (k ∷ []))) (A ·ˢᵇ sym_block_scaled (var 26) B) (sym_block_scaled (var 26) (A ·ˢᵇ B)) tt

pub scaled_times : (k : ℤ) (a b : Block) → block_times (block_scaled k a) b ≡ block_scaled k (block_times a b)
unfolding block_value
scaled_times k a b = block_ring (Values a ++ (Values b ++ (k ∷ []))) (sym_block_scaled (var 26) A ·ˢᵇ B) (sym_block_scaled (var 26) (A ·ˢᵇ B)) tt

pub scaled_product : (j k : ℤ) (a : Block) → block_scaled j (block_scaled k a) ≡ block_scaled (j *ℤ k) a
unfolding block_value
scaled_product j k a = block_ring (j ∷ k ∷ Values a) (sym_block_scaled (var 0) (sym_block_scaled (var 1) (block_at 2))) (sym_block_scaled (var 0 ⊗ var 1) (block_at 2)) tt

pub scaled_twice : (j k : ℤ) (a : Block) → block_scaled j (block_scaled k a) ≡ block_scaled k (block_scaled j a)
scaled_twice j k a = scaled_product j k a ∙ ap (λ m. block_scaled m a) (*ℤ_comm j k) ∙ sym (scaled_product k j a)

pub on_scaled : (k : ℤ) (a : Block) (v : Vector) → block_on (block_scaled k a) v ≡ vector_scaled k (block_on a v)
unfolding vector_value
on_scaled k a v = vector_ring (Values a ++ (VectorValues v ++ (k ∷ []))) (sym_block_scaled (var 17) A ·ˢᵛ vector_at 13) (sym_vector_scaled (var 17) (A ·ˢᵛ vector_at 13)) tt

pub to_scaled : (k : ℤ) (a : Block) (v : Vector) → block_on a (vector_scaled k v) ≡ vector_scaled k (block_on a v)
unfolding vector_value
to_scaled k a v = vector_ring (Values a ++ (VectorValues v ++ (k ∷ []))) (A ·ˢᵛ sym_vector_scaled (var 17) (vector_at 13)) (sym_vector_scaled (var 17) (A ·ˢᵛ vector_at 13)) tt

pub vector_scaled_twice : (j k : ℤ) (v : Vector) → vector_scaled j (vector_scaled k v) ≡ vector_scaled k (vector_scaled j v)
unfolding vector_value
vector_scaled_twice j k v = vector_ring (j ∷ k ∷ VectorValues v) (sym_vector_scaled (var 0) (sym_vector_scaled (var 1) (vector_at 2))) (sym_vector_scaled (var 1) (sym_vector_scaled (var 0) (vector_at 2))) tt

pub identity_times : (a : Block) → block_times (block_of identity_map) a ≡ a
unfolding block_value
identity_times a = block_ring (Values a) (sym_one_block ·ˢᵇ A) (A) tt

pub times_identity : (a : Block) → block_times a (block_of identity_map) ≡ a
unfolding block_value
times_identity a = block_ring (Values a) (A ·ˢᵇ sym_one_block) (A) tt

-- ---- blocks that agree on the origin and on one step along each axis

abbrev pub at_origin : Vector
at_origin = record { p = origin; d = pos 1 }

abbrev pub along_x : Vector
along_x = record { p = x_step; d = pos 1 }

abbrev pub along_y : Vector
along_y = record { p = y_step; d = pos 1 }

abbrev pub along_z : Vector
along_z = record { p = z_step; d = pos 1 }

-- what stands in the image of the origin
on_origin : (a : Block) → (block_on a at_origin).p ≡ a.t
unfolding vector_value
on_origin a = column_ring (Values a) (A ·ˢᵛ record { p = sym_origin; d = con (pos 1) }).p A.t tt

pub same_block : (a b : Block) → a.n ≡ b.n → block_on a at_origin ≡ block_on b at_origin → block_on a along_x ≡ block_on b along_x → block_on a along_y ≡ block_on b along_y → block_on a along_z ≡ block_on b along_z → a ≡ b
unfolding block_on
same_block a b n o x y z =
    let t : a.t ≡ b.t = sym (on_origin a) ∙ ap (λ (v : Vector). v.p) o ∙ on_origin b in
    let turned : (c : Column) → block_on a (record { p = c; d = pos 1 }) ≡ block_on b (record { p = c; d = pos 1 }) → a.m ·ᶜ c ≡ b.m ·ᶜ c =
    λ c e. same_left (times (pos 1) b.t) (a.m ·ᶜ c) (b.m ·ᶜ c) (ap (λ s. a.m ·ᶜ c +ᶜ times (pos 1) s) (sym t) ∙ ap (λ (v : Vector). v.p) e) in
    block_path a b (same_matrix a.m b.m (turned x_step x) (turned y_step y) (turned z_step z)) t n

-- ---- parts of equations

-- m r = n r, where q m = n r and m m = n m
pub matrix_part : (a : Block) → block_times a a ≡ block_scaled a.n a → a.m · a.m ≡ scaled a.n a.m
unfolding block_times block_scaled
matrix_part a e = ap (λ (b : Block). b.m) e

-- the matrix of an idempotent block takes its translation to the origin
pub translation_part : (a : Block) → block_times a a ≡ block_scaled a.n a → a.m ·ᶜ a.t ≡ origin
unfolding block_times block_scaled
translation_part a e = drop_left (a.m ·ᶜ a.t) (times a.n a.t) (ap (λ (b : Block). b.t) e)

pub number_times : (e : Map) (a : Block) → (block_times (block_of e) a).n ≡ a.n
unfolding block_times block_of
number_times e a = one_times a.n
