-- An element that fixes a point of the first cell of an image has its whole shift in the intervals of its operator.
use Rattle.std.proofs.Common.{◌≡◌, ◌++◌, [], ◌∷◌, ℕ, ◌<◌, ℤ, pos, ◌+ℤ◌, ◌*ℤ◌, ◌<ℤ◌, ◌≤ℤ◌, negsuc, ap, ap₂, sym, ◌∙◌, refl, subst, arith}
use Rattle.std.specs.Int.{int_min, int_max}
use Rattle.std.proofs.lemmas.Int.{ints, int_min_is, int_max_is}
use lib.IntN.{*ℤ_comm}
use Rattle.lattice_algebra.specs.Matrix.{Matrix, Column, entries, coordinates, ◌·◌, ◌·ᶜ◌, ◌+ᶜ◌, ◌+ᵐ◌, neg_column, times, scaled, no_matrix}
use Rattle.lattice_algebra.specs.Operator.{Operator, IsPart}
use Rattle.lattice_algebra.proofs.Ring.{var, con, ◌⊕◌, ◌⊗◌, ring}
use Rattle.lattice_algebra.proofs.MatrixRing.{matrix_at, column_at, ◌·ˢ◌, ◌·ˢᶜ◌, ◌+ˢ◌, ◌+ˢᶜ◌, sym_times, sym_neg, sym_scaled, sym_nothing, column_ring}
use Rattle.lattice_algebra.specs.Map.{Map}
use Rattle.lattice_algebra.proofs.Maps.{shifted}
use Rattle.lattice_algebra.proofs.Numbers.{above, more_at_most, least_product, greatest_product, cancel_at_most}
use Rattle.lattice_algebra.proofs.Points.{positive_times}
use Rattle.lattice_algebra.proofs.Columns.{cancel_column}
use Rattle.space_groups.specs.Space.{ScaledPoint, moved}
use Rattle.space_groups.specs.Averages.{Block, IsInImage}
use Rattle.space_groups.specs.Regions.{IsInFirstCell}
use Rattle.space_groups.proofs.ScaledPoints.{scaled_path}
use Rattle.space_groups.specs.Intervals.{differences, base_shift, sum_below, sum_above, sums_below, sums_above, lowest, highest, IsBetween}

-- ---- the shift of an element that fixes t + r z

-- d (u n o s) = d (o (t - (W t + n v)) + u n (I - W) r z), where n o y = d o t + u d n r z and W y + d (v + u s) = y
fixed_form : (w r : Matrix) (y t v s z : Column) (u d n o : ℤ) → times (n *ℤ o) y ≡ times (d *ℤ o) t +ᶜ times (u *ℤ d *ℤ n) (r ·ᶜ z) → w ·ᶜ y +ᶜ times d (v +ᶜ times u s) ≡ y
    → times d (times (u *ℤ n *ℤ o) s) ≡ times d (times o (t +ᶜ neg_column (w ·ᶜ t +ᶜ times n v)) +ᶜ times (u *ℤ n) (differences w r ·ᶜ z))
unfolding ◌·◌ ◌·ᶜ◌ ◌+ᶜ◌ ◌+ᵐ◌ times neg_column scaled differences
fixed_form w r y t v s z u d n o cell fix =
    let U = var 0 in
    let D = var 1 in
    let N = var 2 in
    let O = var 3 in
    let W = matrix_at 4 in
    let R = matrix_at 13 in
    let Y = column_at 22 in
    let T = column_at 25 in
    let V = column_at 28 in
    let S = column_at 31 in
    let Z = column_at 34 in
    let e = u ∷ d ∷ n ∷ o ∷ (entries w ++ (entries r ++ (coordinates y ++ (coordinates t ++ (coordinates v ++ (coordinates s ++ coordinates z)))))) in
    let left = sym_neg (sym_times (D ⊗ N ⊗ O) V) in
    let there = sym_times (D ⊗ O) T +ˢᶜ sym_times (U ⊗ D ⊗ N) (R ·ˢᶜ Z) in
    column_ring e (sym_times D (sym_times (U ⊗ N ⊗ O) S)) (sym_times (N ⊗ O) (W ·ˢᶜ Y +ˢᶜ sym_times D (V +ˢᶜ sym_times U S)) +ˢᶜ (sym_neg (W ·ˢᶜ sym_times (N ⊗ O) Y) +ˢᶜ left)) tt
    ∙ ap (λ c. times (n *ℤ o) c +ᶜ (neg_column (w ·ᶜ times (n *ℤ o) y) +ᶜ neg_column (times (d *ℤ n *ℤ o) v))) fix
    ∙ ap (λ c. c +ᶜ (neg_column (w ·ᶜ c) +ᶜ neg_column (times (d *ℤ n *ℤ o) v))) cell
    ∙ column_ring e (there +ˢᶜ (sym_neg (W ·ˢᶜ there) +ˢᶜ left)) (sym_times D (sym_times O (T +ˢᶜ sym_neg (W ·ˢᶜ T +ˢᶜ sym_times N V)) +ˢᶜ sym_times (U ⊗ N) ((R +ˢ sym_scaled (con (negsuc 0)) (W ·ˢ R)) ·ˢᶜ Z))) tt

-- ---- one coordinate

least : (x : ℤ) → (int_min x (pos 0) ≤ℤ x) × (int_min x (pos 0) ≤ℤ pos 0)
least x = (omega (arith, ints, int_min_is x (pos 0)), omega (arith, ints, int_min_is x (pos 0)))

greatest : (x : ℤ) → (x ≤ℤ int_max x (pos 0)) × (pos 0 ≤ℤ int_max x (pos 0))
greatest x = (omega (arith, ints, int_max_is x (pos 0)), omega (arith, ints, int_max_is x (pos 0)))

three_at_most : (a b c x y z : ℤ) → a ≤ℤ x → b ≤ℤ y → c ≤ℤ z → (a +ℤ b +ℤ c) ≤ℤ (x +ℤ y +ℤ z)
three_at_most a b c x y z p q r = omega (arith, ints)

add_at_most : (a x y : ℤ) → x ≤ℤ y → (a +ℤ x) ≤ℤ (a +ℤ y)
add_at_most a x y h = omega (arith, ints)

-- where o g s = o b + g (c z), for z from 0 to o: b + g l is at most g s, where l is at most all c z / o
coordinate_below : (g o b l c s : ℤ) → pos 0 <ℤ g → pos 0 <ℤ o → g *ℤ o *ℤ s ≡ o *ℤ b +ℤ g *ℤ c → (l *ℤ o) ≤ℤ c → (b +ℤ g *ℤ l) ≤ℤ (g *ℤ s)
coordinate_below g o b l c s hg ho e h =
    let G = var 0 in
    let O = var 1 in
    let r = g ∷ o ∷ b ∷ l ∷ s ∷ [] in
    let left = ring r (O ⊗ var 2 ⊕ G ⊗ (var 3 ⊗ O)) (O ⊗ (var 2 ⊕ G ⊗ var 3)) tt in
    let right : o *ℤ b +ℤ g *ℤ c ≡ o *ℤ (g *ℤ s) = sym e ∙ ring r (G ⊗ O ⊗ var 4) (O ⊗ (G ⊗ var 4)) tt in
    cancel_at_most o (b +ℤ g *ℤ l) (g *ℤ s) ho (subst (λ v. v ≤ℤ (o *ℤ (g *ℤ s))) left (subst (λ v. (o *ℤ b +ℤ g *ℤ (l *ℤ o)) ≤ℤ v) right (add_at_most (o *ℤ b) (g *ℤ (l *ℤ o)) (g *ℤ c) (more_at_most g (l *ℤ o) c (omega (arith, ints)) h))))

coordinate_above : (g o b l c s : ℤ) → pos 0 <ℤ g → pos 0 <ℤ o → g *ℤ o *ℤ s ≡ o *ℤ b +ℤ g *ℤ c → c ≤ℤ (l *ℤ o) → (g *ℤ s) ≤ℤ (b +ℤ g *ℤ l)
coordinate_above g o b l c s hg ho e h =
    let G = var 0 in
    let O = var 1 in
    let r = g ∷ o ∷ b ∷ l ∷ s ∷ [] in
    let right = ring r (O ⊗ var 2 ⊕ G ⊗ (var 3 ⊗ O)) (O ⊗ (var 2 ⊕ G ⊗ var 3)) tt in
    let left : o *ℤ b +ℤ g *ℤ c ≡ o *ℤ (g *ℤ s) = sym e ∙ ring r (G ⊗ O ⊗ var 4) (O ⊗ (G ⊗ var 4)) tt in
    cancel_at_most o (g *ℤ s) (b +ℤ g *ℤ l) ho (subst (λ v. v ≤ℤ (o *ℤ (b +ℤ g *ℤ l))) left (subst (λ v. (o *ℤ b +ℤ g *ℤ c) ≤ℤ v) right (add_at_most (o *ℤ b) (g *ℤ c) (g *ℤ (l *ℤ o)) (more_at_most g c (l *ℤ o) (omega (arith, ints)) h))))

sum_times : (a b c o : ℤ) → a *ℤ o +ℤ b *ℤ o +ℤ c *ℤ o ≡ (a +ℤ b +ℤ c) *ℤ o
sum_times a b c o = ring (a ∷ b ∷ c ∷ o ∷ []) (var 0 ⊗ var 3 ⊕ var 1 ⊗ var 3 ⊕ var 2 ⊗ var 3) ((var 0 ⊕ var 1 ⊕ var 2) ⊗ var 3) tt

coordinate : (g b c0 c1 c2 z0 z1 z2 s : ℤ) (o : ℕ) → pos 0 <ℤ g → g *ℤ pos o *ℤ s ≡ pos o *ℤ b +ℤ g *ℤ (c0 *ℤ z0 +ℤ c1 *ℤ z1 +ℤ c2 *ℤ z2) → IsPart o z0 → IsPart o z1 → IsPart o z2
    → ((b +ℤ g *ℤ sum_below c0 c1 c2) ≤ℤ (g *ℤ s)) × ((g *ℤ s) ≤ℤ (b +ℤ g *ℤ sum_above c0 c1 c2))
coordinate g b c0 c1 c2 z0 z1 z2 s n hg e p0 p1 p2 =
    let o = pos n in
    let ho : pos 0 <ℤ o = omega (arith, ints) in
    let c = c0 *ℤ z0 +ℤ c1 *ℤ z1 +ℤ c2 *ℤ z2 in
    let at_least : (c z : ℤ) → IsPart n z → (int_min c (pos 0) *ℤ o) ≤ℤ (c *ℤ z) = λ c z p. least_product (int_min c (pos 0)) c z o (least c).0 (least c).1 p.0 (omega (arith, ints)) in
    let at_most : (c z : ℤ) → IsPart n z → (c *ℤ z) ≤ℤ (int_max c (pos 0) *ℤ o) = λ c z p. greatest_product (int_max c (pos 0)) c z o (greatest c).0 (greatest c).1 p.0 (omega (arith, ints)) in (
      coordinate_below g o b (sum_below c0 c1 c2) c s hg ho e (subst (λ v. v ≤ℤ c) (sum_times _ _ _ o) (three_at_most _ _ _ _ _ _ (at_least c0 z0 p0) (at_least c1 z1 p1) (at_least c2 z2 p2))),
      coordinate_above g o b (sum_above c0 c1 c2) c s hg ho e (subst (λ v. c ≤ℤ v) (sum_times _ _ _ o) (three_at_most _ _ _ _ _ _ (at_most c0 z0 p0) (at_most c1 z1 p1) (at_most c2 z2 p2))),
    )

-- the whole shift s of an element that fixes a point of the first cell, where that is t + r z: u n o s = o (t - (W t + n v)) + u n (I - W) r z
pub shift_equation : (unit : ℕ) (a : Block) (r : Matrix) (f : Operator) (s : Column) (y : ScaledPoint) (cell : IsInFirstCell unit a r y) → moved (shifted unit f s) y ≡ y
    → times (pos unit *ℤ a.n *ℤ pos cell.over) s ≡ times (pos cell.over) (base_shift a f) +ᶜ times (pos unit *ℤ a.n) (differences f.w r ·ᶜ cell.at)
unfolding moved base_shift
shift_equation unit a r f s y cell fix =
    cancel_column (pos y.d) _ _ (above y.d y.some) (fixed_form f.w r y.n a.t f.t s cell.at (pos unit) (pos y.d) a.n (pos cell.over) cell.equal (ap (λ (v : ScaledPoint). v.n) fix))

-- the shift of an element that fixes a point of the first cell
pub shift_is_between : (unit : ℕ) (a : Block) (r : Matrix) (f : Operator) (s : Column) (y : ScaledPoint) → 0 < unit → pos 0 <ℤ a.n → IsInFirstCell unit a r y → moved (shifted unit f s) y ≡ y
    → IsBetween (pos unit *ℤ a.n) (lowest unit a r f) (highest unit a r f) s
unfolding moved base_shift sums_below sums_above lowest highest ◌·ᶜ◌ ◌+ᶜ◌ times
shift_is_between unit a r f s y hu hn cell fix =
    let o = pos cell.over in
    let g = pos unit *ℤ a.n in
    let m = differences f.w r in
    let z = cell.at in
    let b = base_shift a f in
    let e : times (g *ℤ o) s ≡ times o b +ᶜ times g (m ·ᶜ z) = shift_equation unit a r f s y cell fix in
    let hg : pos 0 <ℤ g = positive_times unit a.n hu hn in
    let p = cell.parts in
    record {
      x = coordinate g b.x m.xx m.xy m.xz z.x z.y z.z s.x cell.over hg (ap (λ (c : Column). c.x) e) p.x p.y p.z;
      y = coordinate g b.y m.yx m.yy m.yz z.x z.y z.z s.y cell.over hg (ap (λ (c : Column). c.y) e) p.x p.y p.z;
      z = coordinate g b.z m.zx m.zy m.zz z.x z.y z.z s.z cell.over hg (ap (λ (c : Column). c.z) e) p.x p.y p.z;
    }

-- ---- an operator that turns no direction of the image

-- n b (W z + c s) = b ((m - D) z + c t) + c D y, where D = (I - W) m, W y + b s = y, m y + b t = n y and m z + c t = n z
along_form : (w m : Matrix) (s t y z : Column) (n b c : ℤ) → differences w m ≡ no_matrix → m ·ᶜ y +ᶜ times b t ≡ times n y → m ·ᶜ z +ᶜ times c t ≡ times n z → w ·ᶜ y +ᶜ times b s ≡ y
    → times (n *ℤ b) (w ·ᶜ z +ᶜ times c s) ≡ times (n *ℤ b) z
unfolding ◌·◌ ◌·ᶜ◌ ◌+ᶜ◌ ◌+ᵐ◌ times neg_column scaled differences
along_form w m s t y z n b c none iy iz fix =
    let N = var 0 in
    let B = var 1 in
    let C = var 2 in
    let W = matrix_at 3 in
    let M = matrix_at 12 in
    let S = column_at 21 in
    let T = column_at 24 in
    let Y = column_at 27 in
    let Z = column_at 30 in
    let e = n ∷ b ∷ c ∷ (entries w ++ (entries m ++ (coordinates s ++ (coordinates t ++ (coordinates y ++ coordinates z))))) in
    let D = M +ˢ sym_scaled (con (negsuc 0)) (W ·ˢ M) in
    let MY = M ·ˢᶜ Y +ˢᶜ sym_times B T in
    let MZ = M ·ˢᶜ Z +ˢᶜ sym_times C T in
    column_ring e (sym_times (N ⊗ B) (W ·ˢᶜ Z +ˢᶜ sym_times C S)) (sym_times B (W ·ˢᶜ sym_times N Z) +ˢᶜ sym_times (N ⊗ C) ((W ·ˢᶜ Y +ˢᶜ sym_times B S) +ˢᶜ sym_neg (W ·ˢᶜ Y))) tt
    ∙ ap (λ v. times b (w ·ᶜ times n z) +ᶜ times (n *ℤ c) (v +ᶜ neg_column (w ·ᶜ y))) fix
    ∙ column_ring e (sym_times B (W ·ˢᶜ sym_times N Z) +ˢᶜ sym_times (N ⊗ C) (Y +ˢᶜ sym_neg (W ·ˢᶜ Y))) (sym_times B (W ·ˢᶜ sym_times N Z) +ˢᶜ sym_times C (sym_times N Y +ˢᶜ sym_neg (W ·ˢᶜ sym_times N Y))) tt
    ∙ ap₂ (λ u v. times b (w ·ᶜ u) +ᶜ times c (v +ᶜ neg_column (w ·ᶜ v))) (sym iz) (sym iy)
    ∙ column_ring e (sym_times B (W ·ˢᶜ MZ) +ˢᶜ sym_times C (MY +ˢᶜ sym_neg (W ·ˢᶜ MY))) (sym_times B MZ +ˢᶜ (sym_times C (D ·ˢᶜ Y) +ˢᶜ sym_neg (sym_times B (D ·ˢᶜ Z)))) tt
    ∙ ap₂ (λ u d. times b u +ᶜ (times c (d ·ᶜ y) +ᶜ neg_column (times b (d ·ᶜ z)))) iz none
    ∙ column_ring e (sym_times B (sym_times N Z) +ˢᶜ (sym_times C (sym_nothing ·ˢᶜ Y) +ˢᶜ sym_neg (sym_times B (sym_nothing ·ˢᶜ Z)))) (sym_times (N ⊗ B) Z) tt

-- where (I - W) M = 0, an element that fixes one point of the image fixes each
pub fixes_along : (a : Block) (e : Map) (y z : ScaledPoint) → pos 0 <ℤ a.n → differences e.w a.m ≡ no_matrix → IsInImage a y → IsInImage a z → moved e y ≡ y → moved e z ≡ z
unfolding moved
fixes_along a e y z p none iy iz fix =
    scaled_path _ _ (cancel_column (a.n *ℤ pos y.d) _ _ (product_above a.n y.d p y.some) (along_form e.w a.m e.s a.t y.n z.n a.n (pos y.d) (pos z.d) none iy iz (ap (λ (v : ScaledPoint). v.n) fix))) refl
  where
    product_above : (n : ℤ) (d : ℕ) → pos 0 <ℤ n → 0 < d → pos 0 <ℤ (n *ℤ pos d)
    product_above n d h k = subst (λ v. pos 0 <ℤ v) (*ℤ_comm (pos d) n) (positive_times d n k h)
