-- Each point of an image can be moved along it, by whole cells, into its first cell; these moves leave the average as it is.
use Rattle.std.proofs.Common.{◌≡◌, ◌≢◌, ◌++◌, ◌∷◌, ℕ, ◌*◌, ◌<◌, ℤ, pos, negsuc, ◌*ℤ◌, ◌<ℤ◌, unsigned_abs, ap, ap₂, sym, ◌∙◌, refl, subst}
use Rattle.lattice_algebra.specs.Matrix.{Matrix, Column, entries, coordinates, ◌·◌, ◌·ᶜ◌, ◌+ᶜ◌, neg_column, times, scaled, identity}
use Rattle.lattice_algebra.specs.Operator.{modulo}
use lib.IntN.{*ℤ-zero}
use Rattle.lattice_algebra.proofs.Ring.{Expr, var, con, ◌⊗◌}
use Rattle.lattice_algebra.proofs.Matrices.{·_assoc}
use Rattle.lattice_algebra.proofs.MatrixRing.{SymMatrix, SymColumn, matrix_at, column_at, ◌·ˢ◌, ◌·ˢᶜ◌, ◌+ˢᶜ◌, sym_times, sym_neg, sym_scaled, sym_identity, column_ring, matrix_ring}
use Rattle.lattice_algebra.proofs.Remainders.{modulo_parts, whole_part}
use Rattle.lattice_algebra.proofs.Numbers.{positive_product, some_size, cancel_some}
use Rattle.lattice_algebra.proofs.Columns.{cancel_matrix}
use Rattle.space_groups.specs.Space.{ScaledPoint, moved}
use Rattle.space_groups.specs.Averages.{Block, block_times, block_scaled, IsInImage}
use Rattle.space_groups.specs.Regions.{shift_by, diagonal, AreWholeColumns, SpansImage, IsInFirstCell}
use Rattle.space_groups.specs.Keys.{carried}
use Rattle.space_groups.proofs.Blocks.{block_path, matrix_part}
use Rattle.space_groups.proofs.Keys.{shifted_block, carried_shift}

-- ---- columns that span the image

scaled_right : (k : ℤ) (a b : Matrix) → a · scaled k b ≡ scaled k (a · b)
unfolding ◌·◌ scaled
scaled_right k a b = matrix_ring (k ∷ (entries a ++ entries b)) (matrix_at 1 ·ˢ sym_scaled (var 0) (matrix_at 10)) (sym_scaled (var 0) (matrix_at 1 ·ˢ matrix_at 10)) tt

scaled_left : (k : ℤ) (a b : Matrix) → scaled k a · b ≡ scaled k (a · b)
unfolding ◌·◌ scaled
scaled_left k a b = matrix_ring (k ∷ (entries a ++ entries b)) (sym_scaled (var 0) (matrix_at 1) ·ˢ matrix_at 10) (sym_scaled (var 0) (matrix_at 1 ·ˢ matrix_at 10)) tt

-- multiples of the columns of the average that are whole, where each column is a rational combination of them
pub spans_by_columns : (a : Block) (q : Column) (r c : Matrix) (w : ℤ) → pos 0 <ℤ a.n → block_times a a ≡ block_scaled a.n a → AreWholeColumns q r a → w ≢ pos 0 → scaled w a.m ≡ r · c → SpansImage a r
spans_by_columns a q r c w p two whole some spans = record {
  along = cancel_matrix a.n _ _ p
      (sym (scaled_right a.n a.m r) ∙ ap (λ m. a.m · m) (sym whole) ∙ sym (·_assoc a.m a.m (diagonal q)) ∙ ap (λ m. m · diagonal q) (matrix_part a two) ∙ scaled_left a.n a.m (diagonal q) ∙ ap (scaled a.n) whole);
  number = w;
  some = some;
  weights = c;
  spans = spans;
}

-- the products of two of three numbers, n times
abbrev others : ℤ → Column → Column
others n q = record { x = n *ℤ (q.y *ℤ q.z); y = n *ℤ (q.x *ℤ q.z); z = n *ℤ (q.x *ℤ q.y) }

abbrev sym_others : Expr → SymColumn → SymColumn
sym_others n q = record { x = n ⊗ (q.y ⊗ q.z); y = n ⊗ (q.x ⊗ q.z); z = n ⊗ (q.x ⊗ q.y) }

abbrev pub sym_diagonals : SymColumn → SymMatrix
sym_diagonals q = let o = con (pos 0) in record { xx = q.x; xy = o; xz = o; yx = o; yy = q.y; yz = o; zx = o; zy = o; zz = q.z }

all_columns : (m r : Matrix) (q : Column) (n : ℤ) → m · diagonal q ≡ scaled n r → scaled (q.x *ℤ q.y *ℤ q.z) m ≡ r · diagonal (others n q)
unfolding ◌·◌ scaled diagonal
all_columns m r q n e =
    let N = var 0 in
    let Q = column_at 1 in
    let M = matrix_at 4 in
    let R = matrix_at 13 in
    let v = n ∷ (coordinates q ++ (entries m ++ entries r)) in
    let D = sym_diagonals (sym_others (con (pos 1)) Q) in
    matrix_ring v (sym_scaled (Q.x ⊗ Q.y ⊗ Q.z) M) ((M ·ˢ sym_diagonals Q) ·ˢ D) tt ∙ ap (λ x. x · diagonal (others (pos 1) q)) e ∙ matrix_ring v (sym_scaled N R ·ˢ D) (R ·ˢ sym_diagonals (sym_others N Q)) tt

some_product : (a b : ℤ) → a ≢ pos 0 → b ≢ pos 0 → a *ℤ b ≢ pos 0
some_product a b p q e = q (cancel_some a b (pos 0) p (e ∙ sym (*ℤ-zero a)))

-- ---- whole shifts along the image leave the average as it is

stays_column : (m r : Matrix) (t k : Column) (u n : ℤ) → m · r ≡ scaled n r → t +ᶜ (times (u *ℤ n) (r ·ᶜ k) +ᶜ neg_column (times u (m ·ᶜ (r ·ᶜ k)))) ≡ t
unfolding ◌·◌ ◌·ᶜ◌ ◌+ᶜ◌ times neg_column scaled
stays_column m r t k u n e =
    let U = var 0 in
    let N = var 1 in
    let M = matrix_at 2 in
    let R = matrix_at 11 in
    let T = column_at 20 in
    let K = column_at 23 in
    let v = u ∷ n ∷ (entries m ++ (entries r ++ (coordinates t ++ coordinates k))) in
    column_ring v (T +ˢᶜ (sym_times (U ⊗ N) (R ·ˢᶜ K) +ˢᶜ sym_neg (sym_times U (M ·ˢᶜ (R ·ˢᶜ K))))) (T +ˢᶜ (sym_times (U ⊗ N) (R ·ˢᶜ K) +ˢᶜ sym_neg (sym_times U ((M ·ˢ R) ·ˢᶜ K)))) tt
    ∙ ap (λ x. t +ᶜ (times (u *ℤ n) (r ·ᶜ k) +ᶜ neg_column (times u (x ·ᶜ k)))) e
    ∙ column_ring v (T +ˢᶜ (sym_times (U ⊗ N) (R ·ˢᶜ K) +ˢᶜ sym_neg (sym_times U (sym_scaled N R ·ˢᶜ K)))) T tt

pub carried_along : (unit : ℕ) (a : Block) (r : Matrix) (k : Column) → a.m · r ≡ scaled a.n r → carried (shift_by unit (r ·ᶜ k)) a ≡ a
unfolding shifted_block
carried_along unit a r k along = carried_shift unit (r ·ᶜ k) a ∙ block_path _ a refl (stays_column a.m r a.t k (pos unit) a.n along) refl

-- ---- the moved point

-- m (p - u d r k) + d t
moved_form : (m r : Matrix) (p t k : Column) (u d : ℤ) → m ·ᶜ (identity ·ᶜ p +ᶜ times d (times u (r ·ᶜ neg_column k))) +ᶜ times d t ≡ m ·ᶜ p +ᶜ times d t +ᶜ neg_column (times (u *ℤ d) ((m · r) ·ᶜ k))
unfolding ◌·◌ ◌·ᶜ◌ ◌+ᶜ◌ times neg_column
moved_form m r p t k u d =
    let M = matrix_at 2 in
    let R = matrix_at 11 in
    let P = column_at 20 in
    let T = column_at 23 in
    let K = column_at 26 in
    let U = var 0 in
    let D = var 1 in
    column_ring (u ∷ d ∷ (entries m ++ (entries r ++ (coordinates p ++ (coordinates t ++ coordinates k)))))
    (M ·ˢᶜ (sym_identity ·ˢᶜ P +ˢᶜ sym_times D (sym_times U (R ·ˢᶜ sym_neg K))) +ˢᶜ sym_times D T)
    (M ·ˢᶜ P +ˢᶜ sym_times D T +ˢᶜ sym_neg (sym_times (U ⊗ D) ((M ·ˢ R) ·ˢᶜ K)))
    tt

scaled_form : (r : Matrix) (p k : Column) (n u d : ℤ) → times n p +ᶜ neg_column (times (u *ℤ d) (scaled n r ·ᶜ k)) ≡ times n (identity ·ᶜ p +ᶜ times d (times u (r ·ᶜ neg_column k)))
unfolding ◌·ᶜ◌ ◌+ᶜ◌ times neg_column scaled
scaled_form r p k n u d =
    let R = matrix_at 3 in
    let P = column_at 12 in
    let K = column_at 15 in
    let N = var 0 in
    let U = var 1 in
    let D = var 2 in
    column_ring (n ∷ u ∷ d ∷ (entries r ++ (coordinates p ++ coordinates k)))
    (sym_times N P +ˢᶜ sym_neg (sym_times (U ⊗ D) (sym_scaled N R ·ˢᶜ K)))
    (sym_times N (sym_identity ·ˢᶜ P +ˢᶜ sym_times D (sym_times U (R ·ˢᶜ sym_neg K))))
    tt

moved_in_image : (m r : Matrix) (p t k : Column) (n u d : ℤ) → m · r ≡ scaled n r → m ·ᶜ p +ᶜ times d t ≡ times n p
    → (let q = identity ·ᶜ p +ᶜ times d (times u (r ·ᶜ neg_column k)) in m ·ᶜ q +ᶜ times d t ≡ times n q)
moved_in_image m r p t k n u d along i =
    moved_form m r p t k u d ∙ ap₂ (λ v x. v +ᶜ neg_column (times (u *ℤ d) (x ·ᶜ k))) i along ∙ scaled_form r p k n u d

-- with D = u d n w and c p = D k + z: n D (p - u d r k) = d D t + u d n r z
cell_form : (m r c : Matrix) (p t k z : Column) (n u d w : ℤ) → scaled w m ≡ r · c → m ·ᶜ p +ᶜ times d t ≡ times n p → c ·ᶜ p ≡ z +ᶜ times (u *ℤ d *ℤ n *ℤ w) k
    → times (n *ℤ (u *ℤ d *ℤ n *ℤ w)) (identity ·ᶜ p +ᶜ times d (times u (r ·ᶜ neg_column k))) ≡ times (d *ℤ (u *ℤ d *ℤ n *ℤ w)) t +ᶜ times (u *ℤ d *ℤ n) (r ·ᶜ z)
unfolding ◌·◌ ◌·ᶜ◌ ◌+ᶜ◌ times neg_column scaled
cell_form m r c p t k z n u d w spans i split =
    let N = var 0 in
    let U = var 1 in
    let D = var 2 in
    let W = var 3 in
    let M = matrix_at 4 in
    let R = matrix_at 13 in
    let C = matrix_at 22 in
    let P = column_at 31 in
    let T = column_at 34 in
    let K = column_at 37 in
    let Z = column_at 40 in
    let O = U ⊗ D ⊗ N ⊗ W in
    let o = u *ℤ d *ℤ n *ℤ w in
    let v = n ∷ u ∷ d ∷ w ∷ (entries m ++ (entries r ++ (entries c ++ (coordinates p ++ (coordinates t ++ (coordinates k ++ coordinates z)))))) in
    let back = sym_neg (sym_times (U ⊗ D ⊗ N ⊗ O) (R ·ˢᶜ K)) in
    let less : Column = neg_column (times (u *ℤ d *ℤ n *ℤ o) (r ·ᶜ k)) in
    column_ring v (sym_times (N ⊗ O) (sym_identity ·ˢᶜ P +ˢᶜ sym_times D (sym_times U (R ·ˢᶜ sym_neg K)))) (sym_times O (sym_times N P) +ˢᶜ back) tt
    ∙ ap (λ x. times o x +ᶜ less) (sym i)
    ∙ column_ring v (sym_times O (M ·ˢᶜ P +ˢᶜ sym_times D T) +ˢᶜ back) (sym_times (D ⊗ O) T +ˢᶜ sym_times (U ⊗ D ⊗ N) (sym_scaled W M ·ˢᶜ P) +ˢᶜ back) tt
    ∙ ap (λ x. times (d *ℤ o) t +ᶜ times (u *ℤ d *ℤ n) (x ·ᶜ p) +ᶜ less) spans
    ∙ column_ring v (sym_times (D ⊗ O) T +ˢᶜ sym_times (U ⊗ D ⊗ N) ((R ·ˢ C) ·ˢᶜ P) +ˢᶜ back) (sym_times (D ⊗ O) T +ˢᶜ sym_times (U ⊗ D ⊗ N) (R ·ˢᶜ (C ·ˢᶜ P)) +ˢᶜ back) tt
    ∙ ap (λ x. times (d *ℤ o) t +ᶜ times (u *ℤ d *ℤ n) (r ·ᶜ x) +ᶜ less) split
    ∙ column_ring v (sym_times (D ⊗ O) T +ˢᶜ sym_times (U ⊗ D ⊗ N) (R ·ˢᶜ (Z +ˢᶜ sym_times O K)) +ˢᶜ back) (sym_times (D ⊗ O) T +ˢᶜ sym_times (U ⊗ D ⊗ N) (R ·ˢᶜ Z)) tt

-- the number of a span can be taken above 0
square_is : (w : ℤ) → w *ℤ w ≡ pos (unsigned_abs w * unsigned_abs w)
square_is (pos n) = refl
square_is (negsuc n) = refl

squared : (m r c : Matrix) (w : ℤ) → scaled w m ≡ r · c → scaled (w *ℤ w) m ≡ r · scaled w c
unfolding ◌·◌ scaled
squared m r c w e =
    let W = var 0 in
    let M = matrix_at 1 in
    let R = matrix_at 10 in
    let C = matrix_at 19 in
    let v = w ∷ (entries m ++ (entries r ++ entries c)) in
    matrix_ring v (sym_scaled (W ⊗ W) M) (sym_scaled W (sym_scaled W M)) tt ∙ ap (scaled w) e ∙ matrix_ring v (sym_scaled W (R ·ˢ C)) (R ·ˢ sym_scaled W C) tt

-- each point of the image has a whole shift along the image into the first cell
pub move_to_first_cell : (unit n : ℕ) (a : Block) (r : Matrix) (y : ScaledPoint) → 0 < unit → 0 < n → a.n ≡ pos n → SpansImage a r → IsInImage a y
    → (k : Column) × IsInImage a (moved (shift_by unit (r ·ᶜ k)) y) × IsInFirstCell unit a r (moved (shift_by unit (r ·ᶜ k)) y)
unfolding moved
move_to_first_cell unit n a r y hu hn number s i =
    let w = unsigned_abs s.number * unsigned_abs s.number in
    let w_some : 0 < w = positive_product (unsigned_abs s.number) (unsigned_abs s.number) (some_size s.number s.some) (some_size s.number s.some) in
    let over : ℕ = unit * y.d * n * w in
    let some : 0 < over = positive_product (unit * y.d * n) w (positive_product (unit * y.d) n (positive_product unit y.d hu y.some) hn) w_some in
    let c : Matrix = scaled s.number s.weights in
    let spans : scaled (pos w) a.m ≡ r · c = ap (λ v. scaled v a.m) (sym (square_is s.number)) ∙ squared a.m r s.weights s.number s.spans in
    let cut = whole_part over some (c ·ᶜ y.n) in
    let k : Column = cut.0 in
    let z : Column = modulo over (c ·ᶜ y.n) in
    let is : pos over ≡ pos unit *ℤ pos y.d *ℤ a.n *ℤ pos w = ap (λ v. pos unit *ℤ pos y.d *ℤ v *ℤ pos w) (sym number) in
    let equal = cell_form a.m r c y.n a.t k z a.n (pos unit) (pos y.d) (pos w) spans i (cut.1 ∙ ap (λ v. z +ᶜ times v k) is) in (
      neg_column k,
      moved_in_image a.m r y.n a.t k a.n (pos unit) (pos y.d) s.along i,
      record {
        at = z;
        over = over;
        parts = modulo_parts over some (c ·ᶜ y.n);
        equal = subst (λ v. times (a.n *ℤ v) (identity ·ᶜ y.n +ᶜ times (pos y.d) (times (pos unit) (r ·ᶜ neg_column k))) ≡ times (pos y.d *ℤ v) a.t +ᶜ times (pos unit *ℤ pos y.d *ℤ a.n) (r ·ᶜ z)) (sym is) equal;
      },
    )
