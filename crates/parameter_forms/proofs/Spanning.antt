-- What is along the image of a matrix: all of space, a plane or a line, by its determinant, by the cross products of its columns, and
-- by its columns.
use Rattle.std.proofs.Common.{◌≡◌, ◌≢◌, ◌⊎◌, ◌++◌, ◌∷◌, [], ℕ, zero, suc, ℤ, pos, negsuc, ◌+ℤ◌, ◌*ℤ◌, neg_ℤ, ◌≤ℤ◌, inl, inr, refl, ap, ap₂, sym, subst, ◌∙◌, ⊎_elim, arith}
use Rattle.std.proofs.lemmas.Int.{ints}
use lib.IntN.{*ℤ-zero, zero-*ℤ}
use Rattle.lattice_algebra.specs.Matrix.{Matrix, Column, entries, coordinates, origin, identity, det, adjugate, ◌·ᶜ◌, ◌+ᶜ◌, times}
use Rattle.lattice_algebra.specs.Operator.{AreWithin}
use Rattle.lattice_algebra.proofs.Ring.{Expr, var, con, ◌⊕◌, ◌⊖◌, ◌⊗◌, neg, ring}
use Rattle.lattice_algebra.proofs.MatrixRing.{SymColumn, matrix_at, column_at, ◌·ˢᶜ◌, ◌+ˢᶜ◌, sym_times, sym_det, sym_adjugate, sym_origin, column_ring}
use Rattle.lattice_algebra.proofs.Numbers.{cancel_some, zero_or_other}
use Rattle.lattice_algebra.proofs.Columns.{times-times, no_times, times_origin}
use Rattle.lattice_algebra.proofs.Matrices.{·ᶜ-steps, x_step, y_step, z_step}
use Rattle.parameter_forms.specs.Forms.{coordinate, nth_column, IsAlong, IsFree, IsCoefficientMatrix}
use Rattle.parameter_forms.specs.Finding.{cross_product, row_times, IsPlane, IsLine, IsSomeOther}
use Rattle.parameter_forms.proofs.Along.{image_along, origin_along, sum_along, along_of_times, some_product, square_positive, one_is_some, before_x, before_y, before_z}
use Rattle.parameter_forms.proofs.Columns.{by_columns}
use Rattle.parameter_forms.proofs.Planes.{column_of_free}

abbrev sym_cross : SymColumn → SymColumn → SymColumn
sym_cross a b = record { x = a.y ⊗ b.z ⊖ a.z ⊗ b.y; y = a.z ⊗ b.x ⊖ a.x ⊗ b.z; z = a.x ⊗ b.y ⊖ a.y ⊗ b.x }

abbrev sym_row_times : SymColumn → SymColumn → Expr
sym_row_times l v = l.x ⊗ v.x ⊕ l.y ⊗ v.y ⊕ l.z ⊗ v.z

-- ---- all of space

pub all_along : (m : Matrix) → det m ≢ pos 0 → (v : Column) → IsAlong m v
unfolding det adjugate ◌·ᶜ◌ times
all_along m some v = record {
  number = det m;
  some = some;
  from = adjugate m ·ᶜ v;
  equal = column_ring (entries m ++ coordinates v) (sym_times (sym_det (matrix_at 0)) (column_at 9)) (matrix_at 0 ·ˢᶜ (sym_adjugate (matrix_at 0) ·ˢᶜ column_at 9)) tt;
}

-- ---- a vector whose product with itself is 0 is 0

square_least : (k : ℤ) → pos 0 ≤ℤ (k *ℤ k)
square_least k = ⊎_elim (λ z. subst (λ x. pos 0 ≤ℤ (x *ℤ x)) (sym z) (omega (arith, ints))) (λ some. let p = square_positive k some in omega (arith, ints, p)) (zero_or_other k)

pub square_some : (v : Column) → v ≢ origin → row_times v v ≢ pos 0
square_some v some e =
    let zero : (k : ℤ) → (k *ℤ k ≡ pos 0) → k ≡ pos 0 = λ k h. ⊎_elim (λ z. z) (λ other. absurd (some_product k k other other h)) (zero_or_other k) in
    let x = square_least v.x in
    let y = square_least v.y in
    let z = square_least v.z in
    let p = zero v.x (first (v.x *ℤ v.x) (v.y *ℤ v.y) (v.z *ℤ v.z) x y z e) in
    let q = zero v.y (second (v.x *ℤ v.x) (v.y *ℤ v.y) (v.z *ℤ v.z) x y z e) in
    let r = zero v.z (third (v.x *ℤ v.x) (v.y *ℤ v.y) (v.z *ℤ v.z) x y z e) in
    some (λ i. record { x = p i; y = q i; z = r i })
  where
    first : (a b c : ℤ) → pos 0 ≤ℤ a → pos 0 ≤ℤ b → pos 0 ≤ℤ c → a +ℤ b +ℤ c ≡ pos 0 → a ≡ pos 0
    first a b c p q r e = omega (arith, ints, e)

    second : (a b c : ℤ) → pos 0 ≤ℤ a → pos 0 ≤ℤ b → pos 0 ≤ℤ c → a +ℤ b +ℤ c ≡ pos 0 → b ≡ pos 0
    second a b c p q r e = omega (arith, ints, e)

    third : (a b c : ℤ) → pos 0 ≤ℤ a → pos 0 ≤ℤ b → pos 0 ≤ℤ c → a +ℤ b +ℤ c ≡ pos 0 → c ≡ pos 0
    third a b c p q r e = omega (arith, ints, e)

-- ---- a plane

-- v times the square of l = a x b, by a, b and l
spanned : (a b v : Column) → (let l = cross_product a b in times (row_times l l) v ≡ times (row_times (cross_product v b) l) a +ᶜ times (row_times (cross_product a v) l) b +ᶜ times (row_times l v) l)
unfolding cross_product times ◌+ᶜ◌
spanned a b v =
    let A = column_at 0 in
    let B = column_at 3 in
    let V = column_at 6 in
    let L = sym_cross A B in
    column_ring (coordinates a ++ (coordinates b ++ coordinates v)) (sym_times (sym_row_times L L) V) (sym_times (sym_row_times (sym_cross V B) L) A +ˢᶜ sym_times (sym_row_times (sym_cross A V) L) B +ˢᶜ sym_times (sym_row_times L V) L) tt

no_more : (c l : Column) → c +ᶜ times (pos 0) l ≡ c
unfolding times ◌+ᶜ◌
no_more c l = column_ring (coordinates c ++ coordinates l) (column_at 0 +ˢᶜ sym_times (con (pos 0)) (column_at 3)) (column_at 0) tt

row_of_times : (l v : Column) (k : ℤ) → row_times l (times k v) ≡ k *ℤ row_times l v
unfolding times
row_of_times l v k = ring (coordinates l ++ (coordinates v ++ (k ∷ []))) (sym_row_times (column_at 0) (sym_times (var 6) (column_at 3))) (var 6 ⊗ sym_row_times (column_at 0) (column_at 3)) tt

-- where a and b are along the image, and all of it is at right angles to a x b
pub plane_of : (m : Matrix) (a b : Column) → IsAlong m a → IsAlong m b → cross_product a b ≢ origin → ((z : Column) → row_times (cross_product a b) (m ·ᶜ z) ≡ pos 0) → IsPlane m (cross_product a b)
plane_of m a b p q some right v =
    let l = cross_product a b in (
      (λ h. cancel_some h.number (row_times l v) (pos 0) h.some (sym (row_of_times l v h.number) ∙ ap (row_times l) h.equal ∙ right h.from ∙ sym (*ℤ-zero h.number))),
      (λ e. along_of_times m (row_times l l) v (square_some l some)
          (subst (IsAlong m) (sym (spanned a b v ∙ ap (λ k. times (row_times (cross_product v b) l) a +ᶜ times (row_times (cross_product a v) l) b +ᶜ times k l) e ∙ no_more _ l))
          (sum_along m (row_times (cross_product v b) l) (row_times (cross_product a v) l) a b p q))),
    )

-- ---- a line

along_itself : (v c : Column) → times (row_times v v) c ≡ times (row_times v c) v +ᶜ times (negsuc 0) (cross_product v (cross_product v c))
unfolding cross_product times ◌+ᶜ◌
along_itself v c =
    let V = column_at 0 in
    let C = column_at 3 in
    column_ring (coordinates v ++ coordinates c) (sym_times (sym_row_times V V) C) (sym_times (sym_row_times V C) V +ˢᶜ sym_times (con (negsuc 0)) (sym_cross V (sym_cross V C))) tt

cross_origin : (v : Column) → cross_product v origin ≡ origin
unfolding cross_product
cross_origin v = column_ring (coordinates v) (sym_cross (column_at 0) sym_origin) sym_origin tt

nothing_more : (u : Column) (k : ℤ) → u +ᶜ times k origin ≡ u
unfolding times ◌+ᶜ◌
nothing_more u k = column_ring (k ∷ coordinates u) (column_at 1 +ˢᶜ sym_times (var 0) sym_origin) (column_at 1) tt

-- where v is along the image, and all of it is parallel to v
pub line_of : (m : Matrix) (v : Column) → IsAlong m v → v ≢ origin → ((z : Column) → cross_product v (m ·ᶜ z) ≡ origin) → IsLine m v
line_of m v along some parallel = record {
  along = along;
  multiples = λ w p.
      let c = m ·ᶜ p.from in (
        row_times v v *ℤ p.number,
        row_times v c,
        some_product (row_times v v) p.number (square_some v some) p.some,
        sym (times-times (row_times v v) p.number w) ∙ ap (times (row_times v v)) p.equal ∙ along_itself v c
            ∙ ap (λ u. times (row_times v c) v +ᶜ times (negsuc 0) u) (ap (cross_product v) (parallel p.from) ∙ cross_origin v)
            ∙ nothing_more (times (row_times v c) v) (negsuc 0),
      );
}

-- ---- by the columns

abbrev sym_first : SymColumn
sym_first = record { x = var 0; y = var 3; z = var 6 }

abbrev sym_second : SymColumn
sym_second = record { x = var 1; y = var 4; z = var 7 }

abbrev sym_third : SymColumn
sym_third = record { x = var 2; y = var 5; z = var 8 }

module _ (m : Matrix) where
  abbrev pub first : Column
  first = nth_column m 0

  abbrev pub second : Column
  second = nth_column m 1

  abbrev pub third : Column
  third = nth_column m 2

  first_along : IsAlong m first
  first_along = image_along m x_step first (sym (·ᶜ-steps m).0)

  second_along : IsAlong m second
  second_along = image_along m y_step second (sym (·ᶜ-steps m).1)

  third_along : IsAlong m third
  third_along = image_along m z_step third (sym (·ᶜ-steps m).2)

  -- what the normals make of the image
  first_normal : (z : Column) → row_times (cross_product second third) (m ·ᶜ z) ≡ det m *ℤ z.x
  unfolding cross_product ◌·ᶜ◌ det
  first_normal z = ring (entries m ++ coordinates z) (sym_row_times (sym_cross sym_second sym_third) (matrix_at 0 ·ˢᶜ column_at 9)) (sym_det (matrix_at 0) ⊗ var 9) tt

  second_normal : (z : Column) → row_times (cross_product third first) (m ·ᶜ z) ≡ det m *ℤ z.y
  unfolding cross_product ◌·ᶜ◌ det
  second_normal z = ring (entries m ++ coordinates z) (sym_row_times (sym_cross sym_third sym_first) (matrix_at 0 ·ˢᶜ column_at 9)) (sym_det (matrix_at 0) ⊗ var 10) tt

  third_normal : (z : Column) → row_times (cross_product first second) (m ·ᶜ z) ≡ det m *ℤ z.z
  unfolding cross_product ◌·ᶜ◌ det
  third_normal z = ring (entries m ++ coordinates z) (sym_row_times (sym_cross sym_first sym_second) (matrix_at 0 ·ˢᶜ column_at 9)) (sym_det (matrix_at 0) ⊗ var 11) tt

  pub plane_found : (l : Column) → det m ≡ pos 0 → l ≢ origin → (l ≡ cross_product second third) ⊎ (l ≡ cross_product third first) ⊎ (l ≡ cross_product first second) → IsPlane m l
  plane_found l none some which =
      let zero : (x : ℤ) → det m *ℤ x ≡ pos 0 = λ x. ap (λ d. d *ℤ x) none ∙ zero-*ℤ x in
      ⊎_elim
      (λ e. subst (IsPlane m) (sym e) (plane_of m second third second_along third_along (λ h. some (e ∙ h)) (λ z. first_normal z ∙ zero z.x)))
      (λ which. ⊎_elim
      (λ e. subst (IsPlane m) (sym e) (plane_of m third first third_along first_along (λ h. some (e ∙ h)) (λ z. second_normal z ∙ zero z.y)))
      (λ e. subst (IsPlane m) (sym e) (plane_of m first second first_along second_along (λ h. some (e ∙ h)) (λ z. third_normal z ∙ zero z.z)))
      which)
      which

  -- ---- all cross products of the columns are 0

  first_parallel : (z : Column) → cross_product first (m ·ᶜ z) ≡ times z.y (cross_product first second) +ᶜ times (neg_ℤ z.z) (cross_product third first)
  unfolding cross_product ◌·ᶜ◌ times ◌+ᶜ◌
  first_parallel z =
      column_ring (entries m ++ coordinates z) (sym_cross sym_first (matrix_at 0 ·ˢᶜ column_at 9)) (sym_times (var 10) (sym_cross sym_first sym_second) +ˢᶜ sym_times (neg (var 11)) (sym_cross sym_third sym_first)) tt

  second_parallel : (z : Column) → cross_product second (m ·ᶜ z) ≡ times z.z (cross_product second third) +ᶜ times (neg_ℤ z.x) (cross_product first second)
  unfolding cross_product ◌·ᶜ◌ times ◌+ᶜ◌
  second_parallel z =
      column_ring (entries m ++ coordinates z) (sym_cross sym_second (matrix_at 0 ·ˢᶜ column_at 9)) (sym_times (var 11) (sym_cross sym_second sym_third) +ˢᶜ sym_times (neg (var 9)) (sym_cross sym_first sym_second)) tt

  third_parallel : (z : Column) → cross_product third (m ·ᶜ z) ≡ times z.x (cross_product third first) +ᶜ times (neg_ℤ z.y) (cross_product second third)
  unfolding cross_product ◌·ᶜ◌ times ◌+ᶜ◌
  third_parallel z =
      column_ring (entries m ++ coordinates z) (sym_cross sym_third (matrix_at 0 ·ˢᶜ column_at 9)) (sym_times (var 9) (sym_cross sym_third sym_first) +ˢᶜ sym_times (neg (var 10)) (sym_cross sym_second sym_third)) tt

  module _ (ab : cross_product first second ≡ origin) (bc : cross_product second third ≡ origin) (ca : cross_product third first ≡ origin) where
    both_origin : (j k : ℤ) (u v : Column) → u ≡ origin → v ≡ origin → times j u +ᶜ times k v ≡ origin
    both_origin j k u v p q = ap₂ (λ a b. times j a +ᶜ times k b) p q ∙ nothing_more (times j origin) k ∙ times_origin j

    no_image : first ≡ origin → second ≡ origin → third ≡ origin → (z : Column) → m ·ᶜ z ≡ origin
    no_image p q r z = by_columns m z ∙ ap₂ (λ a b. times (pos 1) a +ᶜ times z.z b) (both_origin z.x z.y first second p q) r ∙ nothing_more (times (pos 1) origin) z.z ∙ times_origin (pos 1)

    pub line_found : (v : Column) → IsSomeOther first second third v → IsLine m v
    line_found v (inl h) =
        ⊎_elim
        (λ e. subst (IsLine m) (sym e) (line_of m first first_along (λ n. h.0 (e ∙ n)) (λ z. first_parallel z ∙ both_origin _ _ _ _ ab ca)))
        (λ which. ⊎_elim
        (λ e. subst (IsLine m) (sym e) (line_of m second second_along (λ n. h.0 (e ∙ n)) (λ z. second_parallel z ∙ both_origin _ _ _ _ bc ab)))
        (λ e. subst (IsLine m) (sym e) (line_of m third third_along (λ n. h.0 (e ∙ n)) (λ z. third_parallel z ∙ both_origin _ _ _ _ ca bc)))
        which)
        h.1
    line_found v (inr h) = record {
      along = subst (IsAlong m) (sym h.0) (origin_along m);
      multiples = λ w p. (p.number, pos 0, p.some, p.equal ∙ no_image h.1 h.2 h.3 p.from ∙ sym (no_times v));
    }

-- ---- one of three vectors

pub other_within : (n : ℕ) (a b c v : Column) → IsSomeOther a b c v → AreWithin n a.x a.y a.z → AreWithin n b.x b.y b.z → AreWithin n c.x c.y c.z → AreWithin n v.x v.y v.z
other_within n a b c v (inl h) p q r = ⊎_elim (λ e. at a e p) (λ which. ⊎_elim (λ e. at b e q) (λ e. at c e r) which) h.1
  where
    at : (w : Column) → v ≡ w → AreWithin n w.x w.y w.z → AreWithin n v.x v.y v.z
    at w e p = subst (λ (u : Column). AreWithin n u.x u.y u.z) (sym e) p
other_within n a b c v (inr h) p q r = subst (λ (u : Column). AreWithin n u.x u.y u.z) (sym (h.0 ∙ sym h.1)) p

pub other_of : (a b c v : Column) → IsSomeOther a b c v → v ≢ origin → (v ≡ a) ⊎ (v ≡ b) ⊎ (v ≡ c)
other_of a b c v (inl h) some = h.1
other_of a b c v (inr h) some = absurd (some h.0)

pub none_of : (a b c v : Column) → IsSomeOther a b c v → v ≡ origin → (a ≡ origin) × (b ≡ origin) × (c ≡ origin)
none_of a b c v (inl h) none = absurd (h.0 none)
none_of a b c v (inr h) none = (h.1, h.2, h.3)

pub same_three : (a b c d e f v : Column) → a ≡ d → b ≡ e → c ≡ f → IsSomeOther a b c v → IsSomeOther d e f v
same_three a b c d e f v p q r h = subst (λ x. IsSomeOther d e x v) r (subst (λ x. IsSomeOther d x c v) q (subst (λ x. IsSomeOther x b c v) p h))

-- ---- where every vector is along the image, all coordinates are free

pub all_free : (m : Matrix) → ((v : Column) → IsAlong m v) → IsCoefficientMatrix m (pos 1) identity
all_free m along zero l = column_of_free m (pos 1) 0 x_step (along x_step) refl one_is_some (before_x x_step) others
  where
    others : (i : ℕ) → IsFree m i → i ≢ 0 → coordinate x_step i ≡ pos 0
    others zero f apart = absurd (apart refl)
    others (suc zero) f apart = refl
    others (suc (suc zero)) f apart = refl
    others (suc (suc (suc i))) f apart = refl
all_free m along (suc zero) l = column_of_free m (pos 1) 1 y_step (along y_step) refl one_is_some (before_y y_step refl) others
  where
    others : (i : ℕ) → IsFree m i → i ≢ 1 → coordinate y_step i ≡ pos 0
    others zero f apart = refl
    others (suc zero) f apart = absurd (apart refl)
    others (suc (suc zero)) f apart = refl
    others (suc (suc (suc i))) f apart = refl
all_free m along (suc (suc zero)) l = column_of_free m (pos 1) 2 z_step (along z_step) refl one_is_some (before_z z_step refl refl) others
  where
    others : (i : ℕ) → IsFree m i → i ≢ 2 → coordinate z_step i ≡ pos 0
    others zero f apart = refl
    others (suc zero) f apart = refl
    others (suc (suc zero)) f apart = absurd (apart refl)
    others (suc (suc (suc i))) f apart = refl
all_free m along (suc (suc (suc j))) l = absurd (omega (arith, l))
