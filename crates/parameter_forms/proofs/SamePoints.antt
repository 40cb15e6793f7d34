-- The points of a parameter form are those of its row.
use Rattle.std.proofs.Common.{◌≡◌, ◌++◌, ◌∷◌, [], ◌<◌, ◌*◌, ◌↔◌, ℕ, ℤ, pos, negsuc, ◌*ℤ◌, neg_ℤ, ◌<ℤ◌, ap, ap₂, sym, refl, ◌∙◌, arith}
use Rattle.std.proofs.lemmas.Int.{ints}
use Rattle.lattice_algebra.specs.Matrix.{Matrix, Column, entries, coordinates, ◌·ᶜ◌, ◌+ᶜ◌, times, neg_column}
use Rattle.lattice_algebra.specs.Point.{Point, ◌≈◌}
use Rattle.lattice_algebra.proofs.Ring.{var, ◌⊗◌, neg, ring}
use Rattle.lattice_algebra.proofs.MatrixRing.{matrix_at, column_at, ◌·ˢᶜ◌, ◌+ˢᶜ◌, sym_times, sym_neg, column_ring}
use Rattle.lattice_algebra.proofs.Numbers.{above, positive_product}
use Rattle.lattice_algebra.proofs.Points.{positive_times}
use Rattle.lattice_algebra.proofs.Columns.{times-times, swap_times, ·ᶜ-times}
use Rattle.space_groups.specs.Keys.{Key}
use Rattle.space_groups.specs.Rows.{Lies, row_point}
use Rattle.parameter_forms.specs.Forms.{Form, pair_of, IsParameterForm}
use Rattle.parameter_forms.proofs.Along.{image_along, square_positive}
use Rattle.parameter_forms.proofs.Columns.{made_along, leaves_along}

-- a point is the same with k times its numbers
same_point : (k : ℤ) (y p q : Point) → q.n ≡ times k p.n → q.d ≡ k *ℤ p.d → y ≈ p → y ≈ q
same_point k y p q n d e = ap (λ v. times v y.n) d ∙ sym (times-times k p.d y.n) ∙ ap (times k) e ∙ swap_times k y.d p.n ∙ ap (times y.d) (sym n)

linear : (b : Matrix) (i j : ℤ) (u v : Column) → b ·ᶜ (times i u +ᶜ times j v) ≡ times i (b ·ᶜ u) +ᶜ times j (b ·ᶜ v)
unfolding ◌·ᶜ◌ ◌+ᶜ◌ times
linear b i j u v =
    let I = var 0 in
    let J = var 1 in
    let U = column_at 2 in
    let V = column_at 5 in
    let B = matrix_at 8 in
    column_ring (i ∷ j ∷ (coordinates u ++ (coordinates v ++ entries b))) (B ·ˢᶜ (sym_times I U +ˢᶜ sym_times J V)) (sym_times I (B ·ˢᶜ U) +ˢᶜ sym_times J (B ·ˢᶜ V)) tt

-- ---- from the row to the form

-- a is M z, c is B t, and e is z's denominator
row_to_form : (u n d e : ℤ) (a c t w k : Column) → times u (times u (times d a) +ᶜ times e c) +ᶜ times (u *ℤ e) (times d t +ᶜ neg_column c +ᶜ times (u *ℤ n *ℤ d) w) +ᶜ times (u *ℤ d *ℤ (u *ℤ n *ℤ e)) (k +ᶜ neg_column w)
    ≡ times (u *ℤ d) (times u a +ᶜ times e t +ᶜ times (u *ℤ n *ℤ e) k)
unfolding ◌+ᶜ◌ times neg_column
row_to_form u n d e a c t w k =
    let U = var 0 in
    let N = var 1 in
    let D = var 2 in
    let E = var 3 in
    let A = column_at 4 in
    let C = column_at 7 in
    let T = column_at 10 in
    let W = column_at 13 in
    let K = column_at 16 in
    column_ring (u ∷ n ∷ d ∷ e ∷ (coordinates a ++ (coordinates c ++ (coordinates t ++ (coordinates w ++ coordinates k)))))
    (sym_times U (sym_times U (sym_times D A) +ˢᶜ sym_times E C) +ˢᶜ sym_times (U ⊗ E) (sym_times D T +ˢᶜ sym_neg C +ˢᶜ sym_times (U ⊗ N ⊗ D) W) +ˢᶜ sym_times (U ⊗ D ⊗ (U ⊗ N ⊗ E)) (K +ˢᶜ sym_neg W))
    (sym_times (U ⊗ D) (sym_times U A +ˢᶜ sym_times E T +ˢᶜ sym_times (U ⊗ N ⊗ E) K))
    tt

counted : (u n e : ℤ) (s : Column) → times (u *ℤ n *ℤ e) s ≡ times (u *ℤ e) (times n s)
unfolding times
counted u n e s = column_ring (u ∷ n ∷ e ∷ coordinates s) (sym_times (var 0 ⊗ var 1 ⊗ var 2) (column_at 3)) (sym_times (var 0 ⊗ var 2) (sym_times (var 1) (column_at 3))) tt

-- ---- from the form to the row

-- i is an inner multiple: i (B v) is M Z, a is B u, c is B t, and e is u's denominator
form_to_row : (u n d e i : ℤ) (a c t w k : Column) → times u (times i (times (u *ℤ n) a +ᶜ times (neg_ℤ e) c)) +ᶜ times (i *ℤ d *ℤ u *ℤ e) t +ᶜ times (u *ℤ n *ℤ (i *ℤ d *ℤ u *ℤ e)) (k +ᶜ w)
    ≡ times (i *ℤ u) (times (u *ℤ n) a +ᶜ times e (times d t +ᶜ neg_column c +ᶜ times (u *ℤ n *ℤ d) w) +ᶜ times (u *ℤ n *ℤ d *ℤ e) k)
unfolding ◌+ᶜ◌ times neg_column
form_to_row u n d e i a c t w k =
    let U = var 0 in
    let N = var 1 in
    let D = var 2 in
    let E = var 3 in
    let I = var 4 in
    let A = column_at 5 in
    let C = column_at 8 in
    let T = column_at 11 in
    let W = column_at 14 in
    let K = column_at 17 in
    column_ring (u ∷ n ∷ d ∷ e ∷ i ∷ (coordinates a ++ (coordinates c ++ (coordinates t ++ (coordinates w ++ coordinates k)))))
    (sym_times U (sym_times I (sym_times (U ⊗ N) A +ˢᶜ sym_times (neg E) C)) +ˢᶜ sym_times (I ⊗ D ⊗ U ⊗ E) T +ˢᶜ sym_times (U ⊗ N ⊗ (I ⊗ D ⊗ U ⊗ E)) (K +ˢᶜ W))
    (sym_times (I ⊗ U) (sym_times (U ⊗ N) A +ˢᶜ sym_times E (sym_times D T +ˢᶜ sym_neg C +ˢᶜ sym_times (U ⊗ N ⊗ D) W) +ˢᶜ sym_times (U ⊗ N ⊗ D ⊗ E) K))
    tt

taken_out : (u n d e i : ℤ) (a s k : Column) → times (i *ℤ u) (times (u *ℤ n) a +ᶜ times e (times n s) +ᶜ times (u *ℤ n *ℤ d *ℤ e) k) ≡ times (i *ℤ u *ℤ n) (times u a +ᶜ times e s +ᶜ times (u *ℤ d *ℤ e) k)
unfolding ◌+ᶜ◌ times
taken_out u n d e i a s k =
    let U = var 0 in
    let N = var 1 in
    let D = var 2 in
    let E = var 3 in
    let I = var 4 in
    let A = column_at 5 in
    let S = column_at 8 in
    let K = column_at 11 in
    column_ring (u ∷ n ∷ d ∷ e ∷ i ∷ (coordinates a ++ (coordinates s ++ coordinates k))) (sym_times (I ⊗ U) (sym_times (U ⊗ N) A +ˢᶜ sym_times E (sym_times N S) +ˢᶜ sym_times (U ⊗ N ⊗ D ⊗ E) K))
    (sym_times (I ⊗ U ⊗ N) (sym_times U A +ˢᶜ sym_times E S +ˢᶜ sym_times (U ⊗ D ⊗ E) K)) tt

product_positive : (a b : ℤ) → pos 0 <ℤ a → pos 0 <ℤ b → pos 0 <ℤ (a *ℤ b)
product_positive (pos a) b h p = positive_times a b (omega (arith, ints, h)) p
product_positive (negsuc a) b h p = absurd (omega (arith, ints, h))

module _ (unit n : ℕ) (p : Key) (f : Form) (unit_some : 0 < unit) (some : 0 < n) (is : IsParameterForm unit n p f) where
  abbrev u : ℤ
  u = pos unit

  abbrev d : ℤ
  d = pos f.over

  pub row_in_form : (y : Point) → Lies unit n p y → Lies unit f.over (pair_of f) y
  unfolding row_point
  row_in_form y l =
      let z = l.at in
      let from : Point = record { n = times u (p.m ·ᶜ z.n) +ᶜ times z.d p.t; d = u *ℤ pos n *ℤ z.d } in
      let made = linear f.b u z.d (p.m ·ᶜ z.n) p.t ∙ ap (λ v. times u v +ᶜ times z.d (f.b ·ᶜ p.t)) (leaves_along p.m d f.b is.matrix (p.m ·ᶜ z.n) (image_along p.m z.n (p.m ·ᶜ z.n) refl)) in
      let shift = counted u (pos n) z.d f.s ∙ ap (times (u *ℤ z.d)) is.shift in
      record {
        at = from;
        is_point = positive_times (unit * n) z.d (positive_product unit n unit_some some) l.is_point;
        whole = l.whole +ᶜ neg_column is.whole;
        equal = same_point (u *ℤ d) y (row_point unit n p z l.whole) (row_point unit f.over (pair_of f) from (l.whole +ᶜ neg_column is.whole))
            (ap₂ (λ a b. times u a +ᶜ b +ᶜ times (u *ℤ d *ℤ (u *ℤ pos n *ℤ z.d)) (l.whole +ᶜ neg_column is.whole)) made shift ∙ row_to_form u (pos n) d z.d (p.m ·ᶜ z.n) (f.b ·ᶜ p.t) p.t is.whole l.whole)
            refl
            l.equal;
      }

  pub form_in_row : (y : Point) → Lies unit f.over (pair_of f) y → Lies unit n p y
  unfolding row_point
  form_in_row y l =
      let z = l.at in
      let v = times (u *ℤ pos n) z.n +ᶜ times (neg_ℤ z.d) p.t in
      let along = made_along p.m d f.b is.matrix v in
      let i = along.number *ℤ along.number in
      let from : Point = record { n = times along.number along.from; d = i *ℤ d *ℤ u *ℤ z.d } in
      let made = ·ᶜ-times p.m along.number along.from ∙ ap (times along.number) (sym along.equal) ∙ times-times along.number along.number (f.b ·ᶜ v) ∙ ap (times i) (linear f.b (u *ℤ pos n) (neg_ℤ z.d) z.n p.t) in
      record {
        at = from;
        is_point = product_positive (i *ℤ d *ℤ u) z.d (product_positive (i *ℤ d) u (product_positive i d (square_positive along.number along.some) (above f.over is.some)) (above unit unit_some)) l.is_point;
        whole = l.whole +ᶜ is.whole;
        equal = same_point (i *ℤ u *ℤ pos n) y (row_point unit f.over (pair_of f) z l.whole) (row_point unit n p from (l.whole +ᶜ is.whole))
            (ap (λ a. times u a +ᶜ times from.d p.t +ᶜ times (u *ℤ pos n *ℤ from.d) (l.whole +ᶜ is.whole)) made
            ∙ form_to_row u (pos n) d z.d i (f.b ·ᶜ z.n) (f.b ·ᶜ p.t) p.t is.whole l.whole
            ∙ ap (λ a. times (i *ℤ u) (times (u *ℤ pos n) (f.b ·ᶜ z.n) +ᶜ times z.d a +ᶜ times (u *ℤ pos n *ℤ d *ℤ z.d) l.whole)) (sym is.shift)
            ∙ taken_out u (pos n) d z.d i (f.b ·ᶜ z.n) f.s l.whole)
            (ring (u ∷ pos n ∷ d ∷ i ∷ z.d ∷ []) (var 0 ⊗ var 1 ⊗ (var 3 ⊗ var 2 ⊗ var 0 ⊗ var 4)) (var 3 ⊗ var 0 ⊗ var 1 ⊗ (var 0 ⊗ var 2 ⊗ var 4)) tt)
            l.equal;
      }

  pub same_points : (y : Point) → Lies unit n p y ↔ Lies unit f.over (pair_of f) y
  same_points y = (row_in_form y, form_in_row y)
