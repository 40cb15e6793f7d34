-- What lies on a printed row: the image of an average, moved by whole cells.
use Rattle.std.proofs.Common.{◌≡◌, ◌++◌, ◌∷◌, [], ◌*◌, ◌<◌, List, length, ℤ, pos, ◌*ℤ◌, ◌<ℤ◌, Contains, ap, ap₂, sym, ◌∙◌, arith}
use Rattle.lattice_algebra.specs.Matrix.{Matrix, Column, entries, coordinates, ◌·ᶜ◌, ◌+ᶜ◌, neg_column, times, identity}
use Rattle.lattice_algebra.specs.Operator.{Operator, HasEntriesWithin}
use Rattle.lattice_algebra.proofs.Ring.{var, ◌⊗◌, ring}
use Rattle.lattice_algebra.proofs.MatrixRing.{matrix_at, column_at, ◌·ˢᶜ◌, ◌+ˢᶜ◌, sym_times, sym_neg, sym_identity, column_ring}
use Rattle.lattice_algebra.proofs.Remainders.{modulo_is}
use Rattle.lattice_algebra.proofs.Numbers.{above, positive_product}
use Rattle.lattice_algebra.proofs.Points.{positive_times}
use Rattle.space_groups.specs.Space.{ScaledPoint, moved, point_of}
use Rattle.space_groups.specs.Averages.{Block, Vector, block_times, block_scaled, block_on, vector_scaled, IsInImage}
use Rattle.space_groups.specs.Regions.{shift_by}
use Rattle.space_groups.specs.Keys.{Key, key_of}
use Rattle.space_groups.specs.Rows.{Lies, row_point}
use Rattle.space_groups.proofs.Elements.{SpaceGroup}
use Rattle.space_groups.proofs.Means.{vec, on_image}
use Rattle.space_groups.proofs.Blocks.{vector_path, cancel_vector, on_times, on_scaled, to_scaled, vector_scaled_twice}

-- the matrices of the operators have entries of size at most 2
abbrev pub AreNarrow : List Operator → Type 0
AreNarrow members = (f : Operator) → Contains members f → HasEntriesWithin 2 f.w

-- ---- what lies on a printed row

-- where a is idempotent and a multiple of y is a multiple of a v, a leaves y where it is
row_image : (a : Block) (v y : Vector) (w s : ℤ) → pos 0 <ℤ w → block_times a a ≡ block_scaled a.n a → vector_scaled w y ≡ vector_scaled s (block_on a v) → block_on a y ≡ vector_scaled a.n y
row_image a v y w s h two e =
    let again : block_on a (block_on a v) ≡ vector_scaled a.n (block_on a v) = sym (on_times a a v) ∙ ap (λ b. block_on b v) two ∙ on_scaled a.n a v in
    cancel_vector w _ _ h (sym (to_scaled w a y) ∙ ap (block_on a) e ∙ to_scaled s a (block_on a v) ∙ ap (vector_scaled s) again ∙ vector_scaled_twice s a.n (block_on a v) ∙ ap (vector_scaled a.n) (sym e) ∙ vector_scaled_twice a.n w y)

-- the moved point, times the denominator D = u n e: D (y + d u k') = u d (M u z + e t), where k' = -(k + j)
row_moved : (m : Matrix) (y z t j k : Column) (u d n e : ℤ) → times (u *ℤ n *ℤ e) y ≡ times (u *ℤ d) (times u (m ·ᶜ z) +ᶜ times e (t +ᶜ times (u *ℤ n) j) +ᶜ times (u *ℤ n *ℤ e) k)
    → times (u *ℤ n *ℤ e) (identity ·ᶜ y +ᶜ times d (times u (neg_column (k +ᶜ j)))) ≡ times (u *ℤ d) (m ·ᶜ times u z +ᶜ times e t)
unfolding ◌·ᶜ◌ ◌+ᶜ◌ times neg_column
row_moved m y z t j k u d n e h =
    let U = var 0 in
    let D = var 1 in
    let N = var 2 in
    let E = var 3 in
    let M = matrix_at 4 in
    let Y = column_at 13 in
    let Z = column_at 16 in
    let T = column_at 19 in
    let J = column_at 22 in
    let K = column_at 25 in
    let W = U ⊗ N ⊗ E in
    let r = u ∷ d ∷ n ∷ e ∷ (entries m ++ (coordinates y ++ (coordinates z ++ (coordinates t ++ (coordinates j ++ coordinates k))))) in
    column_ring r (sym_times W (sym_identity ·ˢᶜ Y +ˢᶜ sym_times D (sym_times U (sym_neg (K +ˢᶜ J))))) (sym_times W Y +ˢᶜ sym_neg (sym_times (U ⊗ D) (sym_times W (K +ˢᶜ J)))) tt
    ∙ ap (λ v. v +ᶜ neg_column (times (u *ℤ d) (times (u *ℤ n *ℤ e) (k +ᶜ j)))) h
    ∙ column_ring r (sym_times (U ⊗ D) (sym_times U (M ·ˢᶜ Z) +ˢᶜ sym_times E (T +ˢᶜ sym_times (U ⊗ N) J) +ˢᶜ sym_times W K) +ˢᶜ sym_neg (sym_times (U ⊗ D) (sym_times W (K +ˢᶜ J)))) (sym_times (U ⊗ D) (M ·ˢᶜ sym_times U Z +ˢᶜ sym_times E T)) tt

row_numbers : (u d n e : ℤ) → u *ℤ n *ℤ e *ℤ d ≡ u *ℤ d *ℤ (n *ℤ e)
row_numbers u d n e = ring (u ∷ d ∷ n ∷ e ∷ []) (var 0 ⊗ var 2 ⊗ var 3 ⊗ var 1) (var 0 ⊗ var 1 ⊗ (var 2 ⊗ var 3)) tt

row_here : (m : Matrix) (p t j : Column) (u d n : ℤ) → times (u *ℤ d) (times u (m ·ᶜ p) +ᶜ times (u *ℤ d) (t +ᶜ times (u *ℤ n) j) +ᶜ times (u *ℤ n *ℤ (u *ℤ d)) (neg_column j)) ≡ times (u *ℤ d) (times u (m ·ᶜ p +ᶜ times d t))
unfolding ◌·ᶜ◌ ◌+ᶜ◌ times neg_column
row_here m p t j u d n =
    let U = var 0 in
    let D = var 1 in
    let N = var 2 in
    let M = matrix_at 3 in
    let P = column_at 12 in
    let T = column_at 15 in
    let J = column_at 18 in
    column_ring (u ∷ d ∷ n ∷ (entries m ++ (coordinates p ++ (coordinates t ++ coordinates j))))
    (sym_times (U ⊗ D) (sym_times U (M ·ˢᶜ P) +ˢᶜ sym_times (U ⊗ D) (T +ˢᶜ sym_times (U ⊗ N) J) +ˢᶜ sym_times (U ⊗ N ⊗ (U ⊗ D)) (sym_neg J)))
    (sym_times (U ⊗ D) (sym_times U (M ·ˢᶜ P +ˢᶜ sym_times D T))) tt

regrouped : (p : Column) (u d n : ℤ) → times (u *ℤ d) (times u (times n p)) ≡ times (u *ℤ n *ℤ (u *ℤ d)) p
unfolding times
regrouped p u d n =
    let U = var 0 in
    let D = var 1 in
    let N = var 2 in
    column_ring (u ∷ d ∷ n ∷ coordinates p) (sym_times (U ⊗ D) (sym_times U (sym_times N (column_at 3)))) (sym_times (U ⊗ N ⊗ (U ⊗ D)) (column_at 3)) tt

module _ (L : SpaceGroup) where
  open L use {unit, some, members, closed}

  pub some_members : 0 < length members
  some_members = omega (arith, closed.has_one.1)

  -- a point of a row, moved by whole cells, lies in the image of the average of which the row has the key
  pub lies_moved : (a : Block) (p : Key) (y : ScaledPoint) → a.n ≡ pos (length members) → block_times a a ≡ block_scaled a.n a → key_of unit (length members) a ≡ p → Lies unit (length members) p (point_of unit y)
      → (k : Column) × IsInImage a (moved (shift_by unit k) y)
  unfolding key_of row_point moved block_on vector_scaled
  lies_moved a p y number two e h =
      let n = length members in
      let j = modulo_is (unit * n) (positive_product unit n some some_members) a.t in
      let z = h.at in
      let u = pos unit in
      let w : ℤ = u *ℤ pos n *ℤ z.d in
      let k : Column = neg_column (h.whole +ᶜ j.0) in
      let m : p.m ≡ a.m = ap (λ (v : Key). v.m) (sym e) in
      let t : p.t ≡ a.t +ᶜ times (u *ℤ pos n) j.0 = ap (λ (v : Key). v.t) (sym e) ∙ j.1 in
      let cross = h.equal ∙ ap₂ (λ x v. times (u *ℤ pos y.d) (times u (x ·ᶜ z.n) +ᶜ times z.d v +ᶜ times w h.whole)) m t in
      let there = vector_path _ _ (row_moved a.m y.n z.n a.t j.0 h.whole u (pos y.d) (pos n) z.d cross) (row_numbers u (pos y.d) (pos n) z.d ∙ ap (λ v. u *ℤ pos y.d *ℤ (v *ℤ z.d)) (sym number)) in
      (k, on_image a (moved (shift_by unit k) y) (row_image a (record { p = times u z.n; d = z.d }) (vec (moved (shift_by unit k) y)) w (u *ℤ pos y.d) (positive_times (unit * n) z.d (positive_product unit n some some_members) h.is_point) two there))

  -- a point of the image lies on the row
  pub image_lies : (a : Block) (p : Key) (y : ScaledPoint) → a.n ≡ pos (length members) → key_of unit (length members) a ≡ p → IsInImage a y → Lies unit (length members) p (point_of unit y)
  unfolding key_of row_point
  image_lies a p y number e i =
      let n = length members in
      let j = modulo_is (unit * n) (positive_product unit n some some_members) a.t in
      let m : p.m ≡ a.m = ap (λ (v : Key). v.m) (sym e) in
      let t : p.t ≡ a.t +ᶜ times (pos unit *ℤ pos n) j.0 = ap (λ (v : Key). v.t) (sym e) ∙ j.1 in
      record {
        at = point_of unit y;
        is_point = above (unit * y.d) (positive_product unit y.d some y.some);
        whole = neg_column j.0;
        equal = sym (ap₂ (λ x v. times (pos unit *ℤ pos y.d) (times (pos unit) (x ·ᶜ y.n) +ᶜ times (pos unit *ℤ pos y.d) v +ᶜ times (pos unit *ℤ pos n *ℤ (pos unit *ℤ pos y.d)) (neg_column j.0))) m t
            ∙ row_here a.m y.n a.t j.0 (pos unit) (pos y.d) (pos n) ∙ ap (λ v. times (pos unit *ℤ pos y.d) (times (pos unit) v)) (i ∙ ap (λ v. times v y.n) number) ∙ regrouped y.n (pos unit) (pos y.d) (pos n));
      }
