-- The orbit of a rational point in a cell, as a list: there is one, and all have one length.
use Rattle.std.proofs.Common.{◌≡◌, ◌++◌, ◌∷◌, ℕ, suc, ◌+◌, ◌*◌, ◌<◌, ◌≤◌, List, length, map, get_or, Bool, ◌&&◌, Decides, ℤ, pos, negsuc, ◌*ℤ◌, ◌<ℤ◌, ◌≤ℤ◌, int_eq, unsigned_abs, Contains, ap, sym, ◌∙◌, refl, subst, arith}
use Rattle.std.specs.Cmp.{signed_Decides}
use Rattle.std.proofs.lemmas.List.{length-map, get_or-map}
use Rattle.std.proofs.lemmas.List.Elements.{Contains-get_or}
use Rattle.std.proofs.lemmas.Map.Made.{AllPairs-from_IsDistinct}
use Rattle.std.proofs.lemmas.Int.{ints}
use borrow.Author.Differences.{up, down, product_is}
use native.Mathlib.Nat.{lt_of_mul-lt-mul_left, mul-lt-mul_of_pos_left}
use Rattle.std.proofs.lemmas.Bool.Decides.{Decides-and}
use Rattle.lattice_algebra.specs.Matrix.{Column, coordinates, ◌·ᶜ◌, ◌+ᶜ◌, times, identity}
use Rattle.lattice_algebra.specs.Operator.{IsPart}
use Rattle.lattice_algebra.specs.Point.{Point, IsPoint, ◌≈◌, image}
use Rattle.lattice_algebra.specs.Map.{Map, ◌∘◌, operator_of, map_of}
use Rattle.lattice_algebra.proofs.Ring.{var, ◌⊗◌}
use Rattle.lattice_algebra.proofs.MatrixRing.{column_at, ◌·ˢᶜ◌, ◌+ˢᶜ◌, sym_times, sym_identity, column_ring}
use Rattle.lattice_algebra.proofs.Remainders.{modulo_is, modulo_part, modulo_parts}
use Rattle.lattice_algebra.proofs.Maps.{map_eq, map_eq-is}
use Rattle.lattice_algebra.proofs.Points.{≈_sym, ≈_trans, IsPoint-image}
use Rattle.lattice_algebra.proofs.Numbers.{positive_product}
use Rattle.finite_groups.proofs.Members as lists
use Rattle.space_groups.specs.Space.{IsInOrbit, IsInCell, ScaledPoint, moved, point_of}
use Rattle.space_groups.specs.Regions.{shift_by}
use Rattle.space_groups.specs.Lists.{IsOrbitList}
use Rattle.space_groups.proofs.ScaledPoints.{scaled_path, moved-∘}
use Rattle.space_groups.proofs.Elements.{SpaceGroup, space}
use Rattle.space_groups.proofs.Regions.{shift_in}
use Rattle.space_groups.proofs.Orbits.{in_cell, orbit, orbit_is, orbit_distinct, scaled_eq, scaled_eq-is, cell_operator, member_map}
use Rattle.space_groups.proofs.Points.{IsPoint-scaled, image_of, scaled_apart}

abbrev pub point_eq : Point → Point → Bool
point_eq p q = map_eq (record { w = identity; s = p.n }) (record { w = identity; s = q.n }) && int_eq p.d q.d

pub point_eq-is : (p q : Point) → Decides (point_eq p q) (p ≡ q)
point_eq-is p q =
    let b = Decides-and (map_eq (record { w = identity; s = p.n }) (record { w = identity; s = q.n })) (int_eq p.d q.d) (map_eq-is (record { w = identity; s = p.n }) (record { w = identity; s = q.n })) (signed_Decides p.d q.d) in
    ((λ t. let e = b.0 t in λ i. record { n = (e.0 i).s; d = e.1 i }), (λ e. b.1 ((λ i. record { w = identity; s = (e i).n }), (λ i. (e i).d))))

-- ---- the point of the cell

whole_move : (p k : Column) (d u : ℤ) → p +ᶜ times (u *ℤ d) k ≡ identity ·ᶜ p +ᶜ times d (times u k)
unfolding ◌·ᶜ◌ ◌+ᶜ◌ times
whole_move p k d u = column_ring (d ∷ u ∷ (coordinates p ++ coordinates k)) (column_at 2 +ˢᶜ sym_times (var 1 ⊗ var 0) (column_at 5)) (sym_identity ·ˢᶜ column_at 2 +ˢᶜ sym_times (var 0) (sym_times (var 1) (column_at 5))) tt

pub in_cell_shift : (unit : ℕ) → 0 < unit → (y : ScaledPoint) → (k : Column) × (in_cell unit y ≡ moved (shift_by unit k) y)
unfolding in_cell moved
in_cell_shift unit h y =
    let c = modulo_is (unit * y.d) (positive_product unit y.d h y.some) y.n in
    (c.0, scaled_path _ _ (c.1 ∙ whole_move y.n c.0 (pos y.d) (pos unit)) refl)

pub in_cell_range : (unit : ℕ) → 0 < unit → (y : ScaledPoint) → IsInCell (point_of unit (in_cell unit y))
unfolding in_cell
in_cell_range unit h y =
    let m = modulo_parts (unit * y.d) (positive_product unit y.d h y.some) y.n in
    (m.x.0, m.x.1, m.y.0, m.y.1, m.z.0, m.z.1)

-- b n = d m, with n from 0 to d, so m is from 0 to b
part_from_cross : (b : ℕ) (d n m : ℤ) → 0 < b → pos 0 <ℤ d → pos b *ℤ n ≡ d *ℤ m → pos 0 ≤ℤ n → n <ℤ d → IsPart b m
part_from_cross b (pos e) (pos k) (pos j) h p c l u =
    let f : b * k ≡ e * j = ap unsigned_abs c in
    let g : b * k < b * e = mul-lt-mul_of_pos_left (omega (arith, ints)) h in
    let less : e * j < e * b = omega arith in
    let r : j < b = lt_of_mul-lt-mul_left e less in
    omega (arith, ints)
part_from_cross b (pos e) (pos k) (negsuc j) h p c l u =
    let q = product_is (pos e) (negsuc j) in
    let f : e * suc j ≡ e * j + e = omega arith in
    absurd (omega (arith, ints, q, ap up c, ap down c))
part_from_cross b (pos e) (negsuc k) m h p c l u = absurd (omega (arith, ints))
part_from_cross b (negsuc e) n m h p c l u = absurd (omega (arith, ints))

pub stays_in_cell : (unit : ℕ) → 0 < unit → (p : Point) (y : ScaledPoint) → IsPoint p → IsInCell p → p ≈ point_of unit y → in_cell unit y ≡ y
unfolding in_cell times
stays_in_cell unit h p y d c e =
    let b = unit * y.d in
    let s = positive_product unit y.d h y.some in
    scaled_path _ y (modulo_part b s y.n (record {
      x = part_from_cross b p.d p.n.x y.n.x s d (ap (λ (v : Column). v.x) e) c.0 c.1;
      y = part_from_cross b p.d p.n.y y.n.y s d (ap (λ (v : Column). v.y) e) c.2 c.3;
      z = part_from_cross b p.d p.n.z y.n.z s d (ap (λ (v : Column). v.z) e) c.4 c.5;
    })) refl

module _ (L : SpaceGroup) where
  open L use {unit, some, members, closed}

  abbrev pub orbit_points : ScaledPoint → List Point
  orbit_points y = map (point_of unit) (orbit L y)

  in_orbit_of : (x : Point) (y z : ScaledPoint) → IsPoint x → x ≈ point_of unit y → Contains (orbit L y) z → IsPoint (point_of unit z) × IsInOrbit unit members x (point_of unit z)
  in_orbit_of x y z p e c =
      let r = (orbit_is L y z).0 c in
      let w : ScaledPoint = moved (map_of r.0) y in
      let k = in_cell_shift unit some w in
      let g : Map = shift_by unit k.0 ∘ map_of r.0 in
      let there : moved g y ≡ z = moved-∘ (shift_by unit k.0) (map_of r.0) y ∙ sym k.1 ∙ r.2 in (
        IsPoint-scaled unit some z,
        record {
          by = g;
          element = (space L).mul_in (shift_by unit k.0) (map_of r.0) (shift_in L k.0) (member_map L r.0 r.1);
          is_image = subst (λ v. image unit g x ≈ point_of unit v) there (image_of L x y g e);
          in_cell = subst (λ v. IsInCell (point_of unit v)) r.2 (in_cell_range unit some w);
        },
      )

  orbit_has : (x p : Point) (y : ScaledPoint) → IsPoint x → IsPoint p → x ≈ point_of unit y → IsInOrbit unit members x p → (z : ScaledPoint) × Contains (orbit L y) z × (p ≈ point_of unit z)
  orbit_has x p y px pp e o =
      let g : Map = o.by in
      let w : ScaledPoint = moved g y in
      let f : p ≈ point_of unit w = ≈_trans p (image unit g x) (point_of unit w) (IsPoint-image unit some g x px) (≈_sym (image unit g x) p o.is_image) (image_of L x y g e) in
      let s : in_cell unit w ≡ w = stays_in_cell unit some p w pp o.in_cell f in
      (w, (orbit_is L y w).1 (operator_of unit g, o.element, cell_operator unit some g y ∙ s), f)

  pub orbit_depth : (y z : ScaledPoint) → Contains (orbit L y) z → z.d ≡ y.d
  unfolding in_cell moved
  orbit_depth y z c = let r = (orbit_is L y z).0 c in ap (λ (v : ScaledPoint). v.d) (sym r.2)

  -- different places of the orbit have different points
  scaled_apart_in : (y : ScaledPoint) (i j : ℕ) (d : ScaledPoint) → i < j → j < length (orbit L y) → point_of unit (get_or (orbit L y) i d) ≈ point_of unit (get_or (orbit L y) j d) → ⊥
  scaled_apart_in y i j d l m e =
      let a = get_or (orbit L y) i d in
      let b = get_or (orbit L y) j d in
      let deep : a.d ≡ b.d = orbit_depth y a (Contains-get_or (orbit L y) i d (omega arith)) ∙ sym (orbit_depth y b (Contains-get_or (orbit L y) j d m)) in
      AllPairs-from_IsDistinct (λ p q. scaled_eq-is p q) (orbit L y) (orbit_distinct L y) i j d l m (scaled_apart unit some a b deep e)

  points_apart : (y : ScaledPoint) (i j : ℕ) (d : Point) → i < j → j < length (orbit_points y) → get_or (orbit_points y) i d ≈ get_or (orbit_points y) j d → ⊥
  points_apart y i j d l m e =
      let n : j < length (orbit L y) = omega (arith, length-map (orbit L y) (point_of unit)) in
      let p = get_or-map (point_of unit) (orbit L y) i y d (omega arith) in
      let q = get_or-map (point_of unit) (orbit L y) j y d n in
      scaled_apart_in y i j y l n (subst (λ v. point_of unit (get_or (orbit L y) i y) ≈ v) q (subst (λ v. v ≈ get_or (orbit_points y) j d) p e))

  pub orbit_list : (x : Point) (y : ScaledPoint) → IsPoint x → x ≈ point_of unit y → IsOrbitList unit members x (orbit_points y)
  orbit_list x y p e = record {
    in_orbit = λ q c. let r = lists.Contains-from_map (point_of unit) q (orbit L y) c in subst (λ v. IsPoint v × IsInOrbit unit members x v) r.2 (in_orbit_of x y r.0 p e r.1);
    has_each = λ q pq o. let r = orbit_has x q y p pq e o in (point_of unit r.0, lists.Contains-map (point_of unit) r.0 (orbit L y) r.1, r.2);
    once = λ i j d l m. points_apart y i j d l m;
  }

  points_fit : (x : Point) (y : ScaledPoint) (list : List Point) → IsPoint x → x ≈ point_of unit y → IsOrbitList unit members x list → length list ≤ length (orbit L y)
  points_fit x y list p e o = lists.no_longer scaled_eq scaled_eq-is (λ (q : Point) (z : ScaledPoint). q ≈ point_of unit z) (orbit L y) list
      (λ i j d l m z f g. o.once i j d l m (≈_trans (get_or list i d) (point_of unit z) (get_or list j d) (IsPoint-scaled unit some z) f (≈_sym (get_or list j d) (point_of unit z) g)))
      (λ q c. let r = o.in_orbit q c in orbit_has x q y p r.0 e r.1)

  scaled_fit : (x : Point) (y : ScaledPoint) (list : List Point) → IsPoint x → x ≈ point_of unit y → IsOrbitList unit members x list → length (orbit L y) ≤ length list
  scaled_fit x y list p e o = lists.no_longer point_eq point_eq-is (λ (z : ScaledPoint) (q : Point). IsPoint q × (point_of unit z ≈ q)) list (orbit L y)
      (λ i j d l m q f g. scaled_apart_in y i j d l m (≈_trans (point_of unit (get_or (orbit L y) i d)) q (point_of unit (get_or (orbit L y) j d)) f.0 f.1 (≈_sym (point_of unit (get_or (orbit L y) j d)) q g.1)))
      (λ z c. let r = in_orbit_of x y z p e c in let h = o.has_each (point_of unit z) r.0 r.1 in (h.0, h.1, ((o.in_orbit h.0 h.1).0, h.2)))

  -- all lists of the orbit are as long
  pub orbit_count : (x : Point) (y : ScaledPoint) (list : List Point) → IsPoint x → x ≈ point_of unit y → IsOrbitList unit members x list → length list ≡ length (orbit L y)
  orbit_count x y list p e o = omega (arith, points_fit x y list p e o, scaled_fit x y list p e o)
