-- What a change of coordinates makes of maps and points: one map of one, products of products, inverses of inverses, fixed points of fixed points.
use Rattle.std.proofs.Common.{◌≡◌, ◌≢◌, ◌++◌, ◌∷◌, [], ℕ, ◌<◌, ◌↔◌, ℤ, pos, negsuc, ◌*◌, ◌*ℤ◌, ◌<ℤ◌, ap, ap₂, sym, ◌∙◌, subst, arith}
use Rattle.std.proofs.lemmas.Int.{ints}
use lib.IntN.{*ℤ_comm}
use Rattle.lattice_algebra.specs.Matrix.{Matrix, Column, entries, coordinates, ◌·◌, ◌·ᶜ◌, ◌+ᶜ◌, neg_column, times, scaled, identity, det, adjugate, IsUnimodular, inverse_matrix}
use Rattle.lattice_algebra.specs.Map.{Map, ◌∘◌, identity_map, AreInverse}
use Rattle.lattice_algebra.specs.Point.{Point, IsPoint, ◌≈◌, image}
use Rattle.lattice_algebra.proofs.Ring.{var, con, ◌⊗◌, ring, one_times}
use Rattle.lattice_algebra.proofs.MatrixRing.{matrix_at, column_at, ◌·ˢ◌, ◌·ˢᶜ◌, ◌+ˢᶜ◌, sym_times, sym_scaled, sym_neg, sym_identity, column_ring}
use Rattle.lattice_algebra.proofs.Matrices.{·_assoc, ·ᶜ_assoc, ·-identity, ·-adjugate, adjugate-·, x_step, y_step, z_step, same_matrix, inverse_matrix-·, scaled-one}
use Rattle.lattice_algebra.proofs.Columns.{cancel_times, cancel_column, same_right, same_left, ·ᶜ-times}
use Rattle.lattice_algebra.proofs.Maps.{map_path}
use Rattle.lattice_algebra.proofs.Points.{positive_times}
use Rattle.lattice_algebra.proofs.Numbers.{above, positive_product}
use Rattle.space_groups.specs.Averages.{Block, block_of, block_times}
use Rattle.space_groups.specs.Bases.{CoordinateChange, IsInvertible, IsChange, IsBasisChange, IsChanged, changed_point, changed_map}
use Rattle.space_groups.proofs.Blocks.{block_path, block_of-∘, block_times_assoc, identity_times, times_identity}

-- ---- factors that can be left out

pub scaled-column : (k : ℤ) (c : Column) → scaled k identity ·ᶜ c ≡ times k c
unfolding scaled ◌·ᶜ◌ times
scaled-column k c = column_ring (k ∷ coordinates c) (sym_scaled (var 0) sym_identity ·ˢᶜ column_at 1) (sym_times (var 0) (column_at 1)) tt

pub cancel_front : (w : Matrix) → IsInvertible w → (a b : Column) → w ·ᶜ a ≡ w ·ᶜ b → a ≡ b
cancel_front w i a b e =
    let at : (c : Column) → i.v ·ᶜ (w ·ᶜ c) ≡ times i.k c = λ c. sym (·ᶜ_assoc i.v w c) ∙ ap (λ m. m ·ᶜ c) i.left ∙ scaled-column i.k c in
    cancel_times i.k a b i.some (sym (at a) ∙ ap (λ v. i.v ·ᶜ v) e ∙ at b)

pub cancel_matrix_front : (w : Matrix) → IsInvertible w → (m n : Matrix) → w · m ≡ w · n → m ≡ n
cancel_matrix_front w i m n e =
    let at : (c : Column) → m ·ᶜ c ≡ n ·ᶜ c = λ c. cancel_front w i (m ·ᶜ c) (n ·ᶜ c) (sym (·ᶜ_assoc w m c) ∙ ap (λ x. x ·ᶜ c) e ∙ ·ᶜ_assoc w n c) in
    same_matrix m n (at x_step) (at y_step) (at z_step)

pub cancel_matrix_end : (w : Matrix) → IsInvertible w → (m n : Matrix) → m · w ≡ n · w → m ≡ n
cancel_matrix_end w i m n e =
    let on : (x : Matrix) (c : Column) → (x · w) ·ᶜ (i.v ·ᶜ c) ≡ times i.k (x ·ᶜ c) = λ x c.
    ·ᶜ_assoc x w (i.v ·ᶜ c) ∙ ap (λ v. x ·ᶜ v) (sym (·ᶜ_assoc w i.v c) ∙ ap (λ y. y ·ᶜ c) i.right ∙ scaled-column i.k c) ∙ ·ᶜ-times x i.k c in
    let at : (c : Column) → m ·ᶜ c ≡ n ·ᶜ c = λ c. cancel_times i.k (m ·ᶜ c) (n ·ᶜ c) i.some (sym (on m c) ∙ ap (λ x. x ·ᶜ (i.v ·ᶜ c)) e ∙ on n c) in
    same_matrix m n (at x_step) (at y_step) (at z_step)

-- ---- a change as a block: W, d t and d

abbrev pub block_of_change : CoordinateChange → Block
block_of_change c = record { m = c.w; t = times c.d c.t; n = c.d }

turned_sum : (d : ℤ) (m : Matrix) (t s : Column) → m ·ᶜ times d t +ᶜ times d s ≡ times d (m ·ᶜ t +ᶜ s)
unfolding ◌·ᶜ◌ ◌+ᶜ◌ times
turned_sum d m t s =
    let D = var 0 in
    let M = matrix_at 1 in
    let T = column_at 10 in
    let S = column_at 13 in
    column_ring (d ∷ (entries m ++ (coordinates t ++ coordinates s))) (M ·ˢᶜ sym_times D T +ˢᶜ sym_times D S) (sym_times D (M ·ˢᶜ T +ˢᶜ S)) tt

once_times : (a b : Column) → a +ᶜ b ≡ a +ᶜ times (pos 1) b
unfolding ◌+ᶜ◌ times
once_times a b = column_ring (coordinates a ++ coordinates b) (column_at 0 +ˢᶜ column_at 3) (column_at 0 +ˢᶜ sym_times (con (pos 1)) (column_at 3)) tt

one_number : (d : ℤ) → pos 1 *ℤ d ≡ d *ℤ pos 1
one_number d = omega (arith, ints)

pub blocks_of_changed : (c : CoordinateChange) (g h : Map) → IsChanged c g h → block_times (block_of h) (block_of_change c) ≡ block_times (block_of_change c) (block_of g)
unfolding block_times block_of
blocks_of_changed c g h e = block_path _ _ e.rotation (turned_sum c.d h.w c.t h.s ∙ e.translation ∙ once_times (c.w ·ᶜ g.s) (times c.d c.t)) (one_number c.d)

pub changed_from_blocks : (c : CoordinateChange) (g h : Map) → block_times (block_of h) (block_of_change c) ≡ block_times (block_of_change c) (block_of g) → IsChanged c g h
unfolding block_times block_of
changed_from_blocks c g h e = record {
  rotation = ap (λ (b : Block). b.m) e;
  translation = sym (turned_sum c.d h.w c.t h.s) ∙ ap (λ (b : Block). b.t) e ∙ sym (once_times (c.w ·ᶜ g.s) (times c.d c.t));
}

-- ---- of maps

-- no map becomes two
pub one_changed : (c : CoordinateChange) → IsChange c → (g h k : Map) → IsChanged c g h → IsChanged c g k → h ≡ k
one_changed c i g h k p q =
    let r : h.w ≡ k.w = cancel_matrix_end c.w i.invertible h.w k.w (p.rotation ∙ sym q.rotation) in
    let s = cancel_column c.d (h.w ·ᶜ c.t +ᶜ h.s) (k.w ·ᶜ c.t +ᶜ k.s) i.positive (p.translation ∙ sym q.translation) in
    map_path h k r (same_right (k.w ·ᶜ c.t) h.s k.s (ap (λ m. m ·ᶜ c.t +ᶜ h.s) (sym r) ∙ s))

-- and no two become one
pub one_origin : (c : CoordinateChange) → IsChange c → (f g h : Map) → IsChanged c f h → IsChanged c g h → f ≡ g
one_origin c i f g h p q =
    map_path f g (cancel_matrix_front c.w i.invertible f.w g.w (sym p.rotation ∙ q.rotation))
    (cancel_front c.w i.invertible f.s g.s (same_left (times c.d c.t) (c.w ·ᶜ f.s) (c.w ·ᶜ g.s) (sym p.translation ∙ q.translation)))

pub changed-identity : (c : CoordinateChange) → IsChanged c identity_map identity_map
changed-identity c = changed_from_blocks c identity_map identity_map (identity_times (block_of_change c) ∙ sym (times_identity (block_of_change c)))

pub changed-∘ : (c : CoordinateChange) (g g' h h' : Map) → IsChanged c g h → IsChanged c g' h' → IsChanged c (g ∘ g') (h ∘ h')
changed-∘ c g g' h h' p q =
    let C = block_of_change c in
    let G = block_of g in
    let G' = block_of g' in
    let H = block_of h in
    let H' = block_of h' in
    changed_from_blocks c (g ∘ g') (h ∘ h')
    (ap (λ b. block_times b C) (block_of-∘ h h') ∙ block_times_assoc H H' C ∙ ap (block_times H) (blocks_of_changed c g' h' q) ∙ sym (block_times_assoc H C G')
    ∙ ap (λ b. block_times b G') (blocks_of_changed c g h p) ∙ block_times_assoc C G G' ∙ ap (block_times C) (sym (block_of-∘ g g')))

-- what undoes one becomes what undoes the other
pub changed-inverse : (c : CoordinateChange) (g g' h h' : Map) → AreInverse g g' → AreInverse h h' → IsChanged c g h → IsChanged c g' h'
changed-inverse c g g' h h' a b p =
    let C = block_of_change c in
    let G = block_of g in
    let G' = block_of g' in
    let H = block_of h in
    let H' = block_of h' in
    let there : block_times G G' ≡ block_of identity_map = sym (block_of-∘ g g') ∙ ap block_of a.right in
    let back : block_times H' H ≡ block_of identity_map = sym (block_of-∘ h' h) ∙ ap block_of b.left in
    changed_from_blocks c g' h'
    (ap (block_times H') (sym (times_identity C) ∙ ap (block_times C) (sym there) ∙ sym (block_times_assoc C G G') ∙ ap (λ x. block_times x G') (sym (blocks_of_changed c g h p)) ∙ block_times_assoc H C G')
    ∙ sym (block_times_assoc H' H (block_times C G')) ∙ ap (λ x. block_times x (block_times C G')) back ∙ identity_times (block_times C G'))

pub inverse-changed : (c : CoordinateChange) → IsChange c → (g g' h h' : Map) → AreInverse g g' → IsChanged c g h → IsChanged c g' h' → AreInverse h h'
inverse-changed c i g g' h h' a p q = record {
  left = one_changed c i identity_map (h' ∘ h) identity_map (subst (λ x. IsChanged c x (h' ∘ h)) a.left (changed-∘ c g' g h' h q p)) (changed-identity c);
  right = one_changed c i identity_map (h ∘ h') identity_map (subst (λ x. IsChanged c x (h ∘ h')) a.right (changed-∘ c g g' h h' p q)) (changed-identity c);
}

-- ---- of points

positive_both : (d e : ℤ) → pos 0 <ℤ d → pos 0 <ℤ e → pos 0 <ℤ (d *ℤ e)
positive_both (pos a) e p q = positive_times a e (omega (arith, ints)) q
positive_both (negsuc a) e p q = absurd (omega (arith, ints))

pub IsPoint-changed : (unit : ℕ) → 0 < unit → (c : CoordinateChange) → IsChange c → (x : Point) → IsPoint x → IsPoint (changed_point unit c x)
unfolding changed_point
IsPoint-changed unit some c i x p = positive_times unit (c.d *ℤ x.d) some (positive_both c.d x.d i.positive p)

-- a point and its change: over the square of unit
there_column : (w m : Matrix) (t s n : Column) (u d e : ℤ) → times u (m ·ᶜ (times u (w ·ᶜ n) +ᶜ times (d *ℤ e) t)) +ᶜ times (u *ℤ (d *ℤ e)) s ≡ times (u *ℤ u) ((m · w) ·ᶜ n) +ᶜ times (u *ℤ e) (times d (m ·ᶜ t +ᶜ s))
unfolding ◌·◌ ◌·ᶜ◌ ◌+ᶜ◌ times
there_column w m t s n u d e =
    let U = var 0 in
    let D = var 1 in
    let E = var 2 in
    let W = matrix_at 3 in
    let M = matrix_at 12 in
    let T = column_at 21 in
    let S = column_at 24 in
    let N = column_at 27 in
    column_ring (u ∷ d ∷ e ∷ (entries w ++ (entries m ++ (coordinates t ++ (coordinates s ++ coordinates n)))))
    (sym_times U (M ·ˢᶜ (sym_times U (W ·ˢᶜ N) +ˢᶜ sym_times (D ⊗ E) T)) +ˢᶜ sym_times (U ⊗ (D ⊗ E)) S)
    (sym_times (U ⊗ U) ((M ·ˢ W) ·ˢᶜ N) +ˢᶜ sym_times (U ⊗ E) (sym_times D (M ·ˢᶜ T +ˢᶜ S)))
    tt

here_column : (w m : Matrix) (t s n : Column) (u d e : ℤ) → times (u *ℤ u) ((w · m) ·ᶜ n) +ᶜ times (u *ℤ e) (w ·ᶜ s +ᶜ times d t) ≡ times u (w ·ᶜ (times u (m ·ᶜ n) +ᶜ times e s)) +ᶜ times (d *ℤ (u *ℤ e)) t
unfolding ◌·◌ ◌·ᶜ◌ ◌+ᶜ◌ times
here_column w m t s n u d e =
    let U = var 0 in
    let D = var 1 in
    let E = var 2 in
    let W = matrix_at 3 in
    let M = matrix_at 12 in
    let T = column_at 21 in
    let S = column_at 24 in
    let N = column_at 27 in
    column_ring (u ∷ d ∷ e ∷ (entries w ++ (entries m ++ (coordinates t ++ (coordinates s ++ coordinates n)))))
    (sym_times (U ⊗ U) ((W ·ˢ M) ·ˢᶜ N) +ˢᶜ sym_times (U ⊗ E) (W ·ˢᶜ S +ˢᶜ sym_times D T))
    (sym_times U (W ·ˢᶜ (sym_times U (M ·ˢᶜ N) +ˢᶜ sym_times E S)) +ˢᶜ sym_times (D ⊗ (U ⊗ E)) T)
    tt

one_denominator : (u d e : ℤ) → u *ℤ (u *ℤ (d *ℤ e)) ≡ u *ℤ (d *ℤ (u *ℤ e))
one_denominator u d e = ring (u ∷ d ∷ e ∷ []) (var 0 ⊗ (var 0 ⊗ (var 1 ⊗ var 2))) (var 0 ⊗ (var 1 ⊗ (var 0 ⊗ var 2))) tt

point_path : (x y : Point) → x.n ≡ y.n → x.d ≡ y.d → x ≡ y
point_path x y p q = λ i. record { n = p i; d = q i }

-- h (c x) is c (g x)
pub image_changed : (unit : ℕ) (c : CoordinateChange) (g h : Map) (x : Point) → IsChanged c g h → image unit h (changed_point unit c x) ≡ changed_point unit c (image unit g x)
unfolding image changed_point
image_changed unit c g h x e =
    let u = pos unit in
    point_path _ _
    (there_column c.w h.w c.t h.s x.n u c.d x.d ∙ ap₂ (λ (m : Matrix) (v : Column). times (u *ℤ u) (m ·ᶜ x.n) +ᶜ times (u *ℤ x.d) v) e.rotation e.translation ∙ here_column c.w g.w c.t g.s x.n u c.d x.d)
    (one_denominator u c.d x.d)

-- one point becomes one point, however it is written
spread : (w : Matrix) (t n : Column) (u d e f : ℤ) → times (u *ℤ (d *ℤ f)) (times u (w ·ᶜ n) +ᶜ times (d *ℤ e) t) ≡ times (u *ℤ u *ℤ d) (w ·ᶜ times f n) +ᶜ times (u *ℤ d *ℤ d *ℤ (e *ℤ f)) t
unfolding ◌·ᶜ◌ ◌+ᶜ◌ times
spread w t n u d e f =
    let U = var 0 in
    let D = var 1 in
    let E = var 2 in
    let F = var 3 in
    let W = matrix_at 4 in
    let T = column_at 13 in
    let N = column_at 16 in
    column_ring (u ∷ d ∷ e ∷ f ∷ (entries w ++ (coordinates t ++ coordinates n)))
    (sym_times (U ⊗ (D ⊗ F)) (sym_times U (W ·ˢᶜ N) +ˢᶜ sym_times (D ⊗ E) T))
    (sym_times (U ⊗ U ⊗ D) (W ·ˢᶜ sym_times F N) +ˢᶜ sym_times (U ⊗ D ⊗ D ⊗ (E ⊗ F)) T)
    tt

pub changed_point-same : (unit : ℕ) (c : CoordinateChange) (x y : Point) → x ≈ y → changed_point unit c x ≈ changed_point unit c y
unfolding changed_point
changed_point-same unit c x y e =
    let u = pos unit in
    spread c.w c.t x.n u c.d x.d y.d ∙ ap₂ (λ (v : Column) (k : ℤ). times (u *ℤ u *ℤ c.d) (c.w ·ᶜ v) +ᶜ times (u *ℤ c.d *ℤ c.d *ℤ k) c.t) e (*ℤ_comm x.d y.d)
    ∙ sym (spread c.w c.t y.n u c.d y.d x.d)

-- and no two become one
pub changed_point-apart : (unit : ℕ) → 0 < unit → (c : CoordinateChange) → IsChange c → (x y : Point) → changed_point unit c x ≈ changed_point unit c y → x ≈ y
unfolding changed_point
changed_point-apart unit some c i x y e =
    let u = pos unit in
    let k = u *ℤ c.d *ℤ c.d *ℤ (x.d *ℤ y.d) in
    let both : times (u *ℤ u *ℤ c.d) (c.w ·ᶜ times y.d x.n) +ᶜ times k c.t ≡ times (u *ℤ u *ℤ c.d) (c.w ·ᶜ times x.d y.n) +ᶜ times k c.t =
    sym (spread c.w c.t x.n u c.d x.d y.d) ∙ e ∙ spread c.w c.t y.n u c.d y.d x.d ∙ ap (λ v. times (u *ℤ u *ℤ c.d) (c.w ·ᶜ times x.d y.n) +ᶜ times (u *ℤ c.d *ℤ c.d *ℤ v) c.t) (*ℤ_comm y.d x.d) in
    let p : pos 0 <ℤ (u *ℤ u *ℤ c.d) = positive_both (u *ℤ u) c.d (above (unit * unit) (positive_product unit unit some some)) i.positive in
    cancel_front c.w i.invertible (times y.d x.n) (times x.d y.n) (cancel_column (u *ℤ u *ℤ c.d) _ _ p (same_left (times k c.t) _ _ both))

-- h fixes c x exactly where g fixes x
pub fixes_changed : (unit : ℕ) → 0 < unit → (c : CoordinateChange) → IsChange c → (g h : Map) (x : Point) → IsChanged c g h → (image unit g x ≈ x) ↔ (image unit h (changed_point unit c x) ≈ changed_point unit c x)
fixes_changed unit some c i g h x e =
    let P : Point → Type 0 = λ p. p ≈ changed_point unit c x in (
      (λ f. subst P (sym (image_changed unit c g h x e)) (changed_point-same unit c (image unit g x) x f)),
      (λ f. changed_point-apart unit some c i (image unit g x) x (subst P (image_changed unit c g h x e) f)),
    )

-- ---- which matrices can be undone

pub IsInvertible-det : (w : Matrix) → det w ≢ pos 0 → IsInvertible w
IsInvertible-det w some = record {
  v = scaled (pos 1) (adjugate w);
  k = det w;
  some = some;
  right = ·-adjugate (pos 1) w ∙ ap (λ k. scaled k identity) (one_times (det w));
  left = adjugate-· (pos 1) w ∙ ap (λ k. scaled k identity) (one_times (det w));
}

pub IsInvertible-unimodular : (w : Matrix) → IsUnimodular w → IsInvertible w
IsInvertible-unimodular w u = record { v = u.0; k = pos 1; some = λ e. omega (arith, ints, e); right = u.1 ∙ sym scaled-one; left = u.2 ∙ sym scaled-one }

pub IsChange-basis : (c : CoordinateChange) → IsBasisChange c → IsChange c
IsChange-basis c b = record { invertible = IsInvertible-unimodular c.w b.unimodular; positive = subst (λ d. pos 0 <ℤ d) (sym b.one) (omega (arith, ints)) }

-- ---- of a basis change: each map becomes one

turned_matrix : (q m p : Matrix) → (q · m · p) · q ≡ q · m · (p · q)
turned_matrix q m p = ·_assoc (q · m) p q

rest_column : (a b t : Column) → times (pos 1) (a +ᶜ (b +ᶜ t +ᶜ neg_column a)) ≡ b +ᶜ times (pos 1) t
unfolding ◌+ᶜ◌ times neg_column
rest_column a b t =
    let A = column_at 0 in
    let B = column_at 3 in
    let T = column_at 6 in
    let O = con (pos 1) in
    column_ring (coordinates a ++ (coordinates b ++ coordinates t)) (sym_times O (A +ˢᶜ (B +ˢᶜ T +ˢᶜ sym_neg A))) (B +ˢᶜ sym_times O T) tt

pub changed_map-is : (c : CoordinateChange) → IsBasisChange c → (g : Map) → IsChanged c g (changed_map c g)
unfolding changed_map
changed_map-is c b g =
    let m = c.w · g.w · inverse_matrix c.w in
    let a = m ·ᶜ c.t in
    let T : ℤ → Type 0 = λ d. times d (a +ᶜ (c.w ·ᶜ g.s +ᶜ c.t +ᶜ neg_column a)) ≡ c.w ·ᶜ g.s +ᶜ times d c.t in
    record {
      rotation = turned_matrix c.w g.w (inverse_matrix c.w) ∙ ap (λ x. c.w · g.w · x) (inverse_matrix-· c.w b.unimodular) ∙ ·-identity (c.w · g.w);
      translation = subst T (sym b.one) (rest_column a (c.w ·ᶜ g.s) c.t);
    }
