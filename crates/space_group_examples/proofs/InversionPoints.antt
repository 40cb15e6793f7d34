-- Points under -x,-y,-z: which rows of P-1 they fit, and which of them are conjugate.
use Rattle.std.proofs.Common.{◌≡◌, ◌∷◌, ⊎_elim, ℤ, pos, negsuc, ◌*ℤ◌, Contains, ap, sym, ◌∙◌, refl, subst, arith}
use Rattle.std.proofs.lemmas.Int.{ints}
use Rattle.lattice_algebra.specs.Matrix.{Column, origin, ◌·ᶜ◌, ◌+ᶜ◌, times, coordinates}
use Rattle.lattice_algebra.specs.Operator.{Operator, identity_operator}
use Rattle.lattice_algebra.specs.Map.{Map, ◌∘◌, identity_map, operator_of}
use Rattle.lattice_algebra.specs.Point.{Point, IsPoint, ◌≈◌, image}
use Rattle.lattice_algebra.proofs.Ring.{var, con, ◌⊗◌}
use Rattle.lattice_algebra.proofs.MatrixRing.{column_at, ◌·ˢᶜ◌, ◌+ˢᶜ◌, sym_times, sym_identity, sym_origin, column_ring}
use Rattle.lattice_algebra.proofs.Maps.{identity-∘, ∘-identity}
use Rattle.lattice_algebra.proofs.Examples.{column, inverting, both}
use Rattle.space_groups.specs.Space.{IsInSite, AreConjugate, HaveSameElement}
use Rattle.space_groups.specs.Lists.{IsSiteList}
use Rattle.space_groups.specs.Rows.{row_point, Lies, Row, Fits, IsSpecial}
use Rattle.space_groups.proofs.Elements.{space}
use Rattle.space_groups.proofs.Laws.{one_element, some_orbit, order_times_multiplicity}
use Rattle.space_group_examples.proofs.Inversion.{o, L, inverted, pair, middle, inverted_operator, inverted_in, which, in_pair, one_in, other_in, sym_inversion, pair_sub, pair_mean}
use Rattle.space_group_examples.proofs.NineRows.{special, nine_are_table}

-- c / 2
abbrev half : Column → Point
half c = record { n = c; d = pos 2 }

identity_fixes : (d : ℤ) (c : Column) → image 24 identity_map (record { n = c; d = d }) ≈ record { n = c; d = d }
unfolding image times ◌·ᶜ◌ ◌+ᶜ◌
identity_fixes d c =
    let D = var 0 in
    let C = column_at 1 in
    let U = con (pos 24) in
    column_ring (d ∷ coordinates c) (sym_times D (sym_times U (sym_identity ·ˢᶜ C) +ˢᶜ sym_times D sym_origin)) (sym_times (U ⊗ D) C) tt

inversion_fixes : (c : Column) → image 24 (inverted c) (half c) ≈ half c
unfolding image times ◌·ᶜ◌ ◌+ᶜ◌
inversion_fixes c =
    let C = column_at 0 in
    let U = con (pos 24) in
    let D = con (pos 2) in
    column_ring (coordinates c) (sym_times D (sym_times U (sym_inversion ·ˢᶜ C) +ˢᶜ sym_times D (sym_times U C))) (sym_times (con (pos 48)) C) tt

is_point : (c : Column) → IsPoint (half c)
is_point c = omega (arith, ints)

identity_in_site : (c : Column) → IsInSite 24 both (half c) identity_map
identity_in_site c = record { element = (space L).one_in; fixes = identity_fixes (pos 2) c }

inversion_in_site : (c : Column) → IsInSite 24 both (half c) (inverted c)
inversion_in_site c = record { element = inverted_in c; fixes = inversion_fixes c }

same_matrix : (e f : Map) → e ≡ f → e.w ≡ f.w
same_matrix e f p = ap (λ (g : Map). g.w) p

-- the site-symmetry group of c / 2
half_site : (c : Column) → IsSiteList 24 both (half c) (pair c)
half_site c = record {
  exactly = λ g. (
    (λ h. ⊎_elim (λ e. subst (IsInSite 24 both (half c)) e (identity_in_site c)) (λ e. subst (IsInSite 24 both (half c)) e (inversion_in_site c)) (in_pair c g h)),
    (λ s. ⊎_elim
        (λ r. subst (Contains (pair c)) (one_element L (half c) (is_point c) identity_map g (identity_in_site c) s (sym (same_matrix g _ r.1))) (one_in c))
        (λ r. subst (Contains (pair c)) (one_element L (half c) (is_point c) (inverted c) g (inversion_in_site c) s (sym (same_matrix g _ r.1))) (other_in c))
        (which g s.element)),
  );
  once = (pair_sub c).once;
}

-- so its special-position operator is that of the inversion
half_special : (c : Column) → IsSpecial 24 both (half c) (middle c)
half_special c = record { site = pair c; is_site = half_site c; mean = pair_mean c }

half_fits : (c : Column) (row : Row) → row.mult ≡ 1 → Lies 24 2 row.key (image 24 identity_map (half c)) → Fits 24 both row (half c)
half_fits c row one l =
    let orbit = some_orbit L (half c) (is_point c) in
    record {
      by = identity_map;
      element = (space L).one_in;
      lies = l;
      orbit = orbit.0;
      is_orbit = orbit.1;
      as_many = omega (arith, one, order_times_multiplicity L (half c) (is_point c) (pair c) orbit.0 (half_site c) orbit.1);
    }

-- 0,0,0 fits the row 0,0,0, and 1/2,0,0 the row 1/2,0,0
origin_fits : Fits 24 both (special o o o) (half (column o o o))
unfolding row_point image times ◌·ᶜ◌ ◌+ᶜ◌
origin_fits = half_fits (column o o o) (special o o o) refl (record { at = half origin; is_point = is_point origin; whole = origin; equal = refl })

middle_fits : Fits 24 both (special (pos 24) o o) (half (column (pos 1) o o))
unfolding row_point image times ◌·ᶜ◌ ◌+ᶜ◌
middle_fits = half_fits (column (pos 1) o o) (special (pos 24) o o) refl (record { at = half origin; is_point = is_point origin; whole = origin; equal = refl })

-- they are not conjugate, though the site-symmetry group of each is an inversion and the identity
not_conjugate : AreConjugate 24 both (half (column o o o)) (half (column (pos 1) o o)) → ⊥
not_conjugate c =
    let x = half (column o o o) in
    let y = half (column (pos 1) o o) in
    let t = nine_are_table in
    let r = (t.same x y (is_point x.n) (is_point y.n)).1 c in
    let j : r.0 ≡ 1 = t.one x r.0 1 r.1 (special o o o) (is_point x.n) r.2 (record { within = omega arith; is = λ d. refl }) r.3 origin_fits in
    let k : r.0 ≡ 5 = t.one y r.0 5 r.1 (special (pos 24) o o) (is_point y.n) r.2 (record { within = omega arith; is = λ d. refl }) r.4 middle_fits in
    omega (arith, j, k)

-- they have no element of the inversion in common, and that of the identity
other_inversions : HaveSameElement 24 both inverting (half (column o o o)) (half (column (pos 1) o o)) → ⊥
unfolding image times ◌·ᶜ◌ ◌+ᶜ◌
other_inversions h =
    let s = (h (inverted (column o o o)) (inverted_operator (column o o o))).0 (inversion_in_site (column o o o)) in
    let x : negsuc 47 ≡ pos 48 = ap (λ (c : Column). c.x) s.fixes in
    omega (arith, ints)

one_identity : HaveSameElement 24 both identity_operator (half (column o o o)) (half (column (pos 1) o o))
unfolding operator_of
one_identity s e =
    let at : (c d : Column) → IsInSite 24 both (half c) s → IsInSite 24 both (half d) s = λ c d h. subst (IsInSite 24 both (half d)) (one_element L (half c) (is_point c) identity_map s (identity_in_site c) h (ap (λ (f : Operator). f.w) (sym e))) (identity_in_site d) in
    (at _ _, at _ _)

-- 1/7,0,0 and 2/7,0,0 are conjugate: only the identity fixes them. They are no images of one another
abbrev seventh : ℤ → Point
seventh n = record { n = column n o o; d = pos 7 }

turns : (n : ℤ) (c : Column) → image 24 (inverted c) (seventh n) ≈ seventh n → pos 7 *ℤ c.x ≡ pos 2 *ℤ n
unfolding image times ◌·ᶜ◌ ◌+ᶜ◌
turns n c e = let x = ap (λ (v : Column). v.x) e in omega (arith, ints, x)

only_identity : (n : ℤ) → ((k : ℤ) → pos 7 *ℤ k ≡ pos 2 *ℤ n → ⊥) → (s : Map) → IsInSite 24 both (seventh n) s → identity_map ≡ s
only_identity n none s h = ⊎_elim
    (λ r. one_element L (seventh n) (omega (arith, ints)) identity_map s (record { element = (space L).one_in; fixes = identity_fixes (pos 7) (column n o o) }) h (sym (same_matrix s _ r.1)))
    (λ r. absurd (none r.0.x (turns n r.0 (subst (λ v. image 24 v (seventh n) ≈ seventh n) r.1 h.fixes))))
    (which s h.element)

conjugate : AreConjugate 24 both (seventh (pos 1)) (seventh (pos 2))
conjugate =
    let one : (n : ℤ) → IsInSite 24 both (seventh n) identity_map = λ n. record { element = (space L).one_in; fixes = identity_fixes (pos 7) (column n o o) } in
    let same : (s : Map) → s ≡ identity_map ∘ s ∘ identity_map = λ s. sym (∘-identity (identity_map ∘ s) ∙ identity-∘ s) in
    record {
      by = identity_map;
      back = identity_map;
      element = (space L).one_in;
      inverse = record { left = identity-∘ identity_map; right = identity-∘ identity_map };
      exactly = λ s m. (
        (λ h. subst (IsInSite 24 both (seventh (pos 2))) (only_identity (pos 1) (λ k e. omega (arith, ints, e)) s h ∙ same s) (one (pos 2))),
        (λ h. subst (IsInSite 24 both (seventh (pos 1))) (only_identity (pos 2) (λ k e. omega (arith, ints, e)) _ h ∙ sym (same s)) (one (pos 1))),
      );
    }
