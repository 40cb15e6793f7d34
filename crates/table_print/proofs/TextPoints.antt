-- The points of the map that a text writes.
use Rattle.std.proofs.Common.{◌≡◌, ◌++◌, ◌∷◌, [], ◌<◌, ◌↔◌, ◌∙◌, ℕ, ℤ, pos, ◌*ℤ◌, List, ap, sym}
use lib.IntN.{*ℤ_comm}
use Rattle.lattice_algebra.specs.Matrix.{Matrix, Column, entries, coordinates, scaled, times, ◌·ᶜ◌, ◌+ᶜ◌}
use Rattle.lattice_algebra.specs.Operator.{Operator}
use Rattle.lattice_algebra.specs.Point.{Point, ◌≈◌}
use Rattle.lattice_algebra.proofs.Ring.{var, ◌⊗◌, ring}
use Rattle.lattice_algebra.proofs.MatrixRing.{matrix_at, column_at, ◌·ˢᶜ◌, ◌+ˢᶜ◌, sym_times, sym_scaled, column_ring}
use Rattle.lattice_algebra.proofs.Numbers.{above}
use Rattle.lattice_algebra.proofs.Columns.{cancel_column, swap_times, times-times}
use Rattle.exact_ops.specs.declared.TheConstants.{UNIT}
use Rattle.space_groups.specs.Rows.{Lies, row_point}
use Rattle.triplet_text.specs.Printing.{affine_text, HasPrintableComponents, IsSameMap}
use Rattle.triplet_text.specs.AffineTexts.{IsAffineText}
use Rattle.table_print.specs.Params.{key_of_map, LiesOnText}

-- e times the numerators of a point of a map over d
spread : (u d e z : ℤ) (m : Matrix) (v t k : Column) → times e (times u (m ·ᶜ v) +ᶜ times z t +ᶜ times (u *ℤ d *ℤ z) k) ≡ times u (scaled e m ·ᶜ v) +ᶜ times z (times e t) +ᶜ times (u *ℤ z *ℤ (d *ℤ e)) k
unfolding ◌·ᶜ◌ ◌+ᶜ◌ times scaled
spread u d e z m v t k =
    let U = var 0 in
    let D = var 1 in
    let E = var 2 in
    let Z = var 3 in
    let M = matrix_at 4 in
    let V = column_at 13 in
    let T = column_at 16 in
    let K = column_at 19 in
    column_ring (u ∷ d ∷ e ∷ z ∷ (entries m ++ (coordinates v ++ (coordinates t ++ coordinates k))))
    (sym_times E (sym_times U (M ·ˢᶜ V) +ˢᶜ sym_times Z T +ˢᶜ sym_times (U ⊗ D ⊗ Z) K))
    (sym_times U (sym_scaled E M ·ˢᶜ V) +ˢᶜ sym_times Z (sym_times E T) +ˢᶜ sym_times (U ⊗ Z ⊗ (D ⊗ E)) K)
    tt

module _ (d e : ℕ) (f g : Operator) (e_some : 0 < e) (same : IsSameMap d f e g) where
  module _ (y : Point) (l : Lies UNIT e (key_of_map g) y) where
    abbrev z : Point
    z = l.at

    abbrev p : Point
    p = row_point UNIT d (key_of_map f) z l.whole

    abbrev q : Point
    q = row_point UNIT e (key_of_map g) z l.whole

    numerators : times (pos e) p.n ≡ times (pos d) q.n
    unfolding row_point
    numerators =
        spread (pos UNIT) (pos d) (pos e) z.d f.w z.n f.t l.whole
        ∙ (λ i. times (pos UNIT) (same.matrix i ·ᶜ z.n) +ᶜ times z.d (same.translation i) +ᶜ times (pos UNIT *ℤ z.d *ℤ *ℤ_comm (pos d) (pos e) i) l.whole)
        ∙ sym (spread (pos UNIT) (pos e) (pos d) z.d g.w z.n g.t l.whole)

    denominators : pos e *ℤ p.d ≡ pos d *ℤ q.d
    unfolding row_point
    denominators = ring (pos UNIT ∷ pos d ∷ pos e ∷ z.d ∷ []) (var 2 ⊗ (var 0 ⊗ var 1 ⊗ var 3)) (var 1 ⊗ (var 0 ⊗ var 2 ⊗ var 3)) tt

    one_point : y ≈ p
    one_point =
        cancel_column (pos e) (times p.d y.n) (times y.d p.n) (above e e_some)
        (times-times (pos e) p.d y.n ∙ ap (λ k. times k y.n) denominators ∙ sym (times-times (pos d) q.d y.n) ∙ ap (times (pos d)) l.equal
        ∙ swap_times (pos d) y.d q.n
        ∙ ap (times y.d) (sym numerators)
        ∙ swap_times y.d (pos e) p.n)

  -- a map has its points whatever number it is written over
  same_map_points : (y : Point) → Lies UNIT e (key_of_map g) y → Lies UNIT d (key_of_map f) y
  same_map_points y l = record { at = l.at; is_point = l.is_point; whole = l.whole; equal = one_point y l }

module _ (has_values : (d : ℕ) (f : Operator) → HasPrintableComponents d f → IsAffineText d (affine_text d f) f) (one_map : (d e : ℕ) (text : List ℕ) (f g : Operator) → IsAffineText d text f → IsAffineText e text g → IsSameMap d f e g) where
  -- the points of a text that was printed are those of its map
  pub printed_points : (d : ℕ) (f : Operator) → HasPrintableComponents d f → (y : Point) → LiesOnText (affine_text d f) y ↔ Lies UNIT d (key_of_map f) y
  printed_points d f h y = (
    (λ t. same_map_points d t.over f t.map t.some (one_map d t.over (affine_text d f) f t.map (has_values d f h) t.written) y t.lies),
    (λ l. record { over = d; map = f; some = h.positive; written = has_values d f h; lies = l }),
  )
