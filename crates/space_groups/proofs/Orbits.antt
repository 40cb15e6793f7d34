-- The orbit of a point in a cell: its number, times that of the elements that fix the point, is the number of members.
use Rattle.std.proofs.Common.{◌≡◌, ◌++◌, ◌∷◌, ℕ, ◌*◌, ◌<◌, ◌↔◌, cond, List, length, map, get_or, Bool, ◌&&◌, Decides, ℤ, pos, ◌*ℤ◌, Contains, ap, ap₂, sym, ◌∙◌, refl, subst, count_by, mul_comm, eqb}
use Rattle.std.specs.List.{IsDistinct}
use Rattle.std.proofs.lemmas.List.Elements.{Contains-get_or, All-contains}
use Rattle.std.proofs.lemmas.Bool.Decides.{Decides-and, same_from_decides, Decides-like, Decides-eqb}
use Rattle.lattice_algebra.specs.Matrix.{Matrix, Column, entries, coordinates, ◌·ᶜ◌, ◌+ᶜ◌, neg_column, times, identity}
use Rattle.lattice_algebra.specs.Operator.{Operator, modulo, product, IsOperator}
use Rattle.lattice_algebra.specs.Map.{Map, ◌∘◌, undo, operator_of, map_of}
use Rattle.lattice_algebra.proofs.Ring.{var, ◌⊗◌}
use Rattle.lattice_algebra.proofs.MatrixRing.{matrix_at, column_at, ◌·ˢᶜ◌, ◌+ˢᶜ◌, sym_times, sym_neg, column_ring}
use Rattle.lattice_algebra.proofs.Remainders.{modulo_is, modulo_same}
use Rattle.lattice_algebra.proofs.Maps.{shifted, turn_shift, operator_of-shifted, map_eq, map_eq-is, operator_of-map, product_is}
use Rattle.lattice_algebra.proofs.Operators.{operators}
use Rattle.lattice_algebra.proofs.Numbers.{positive_product}
use Rattle.lattice_algebra.proofs.Columns.{difference}
use Rattle.finite_groups.proofs.Members as lists
use Rattle.finite_groups.proofs.Permuted as permuted
use Rattle.finite_groups.proofs.Counts.{length-classes}
use Rattle.finite_groups.proofs.Actions as actions
use Rattle.finite_groups.proofs.Conjugates as conjugates
use Rattle.space_groups.specs.Space.{IsElement, ScaledPoint, moved}
use Rattle.space_groups.proofs.ScaledPoints.{scaled_path, moved-∘}
use Rattle.space_groups.proofs.Elements.{SpaceGroup, space, on_points}
use Rattle.space_groups.proofs.Sites.{fixer, has_fixer, has_fixer-is, fixer_of, site, site_length}

-- the point of the cell that differs from y by whole numbers
unfoldable pub in_cell : ℕ → ScaledPoint → ScaledPoint
in_cell unit y = record { n = modulo (unit * y.d) y.n; d = y.d; some = y.some }

abbrev pub scaled_eq : ScaledPoint → ScaledPoint → Bool
scaled_eq x y = map_eq (record { w = identity; s = x.n }) (record { w = identity; s = y.n }) && eqb x.d y.d

pub scaled_eq-is : (x y : ScaledPoint) → Decides (scaled_eq x y) (x ≡ y)
scaled_eq-is x y =
    let m = map_eq-is (record { w = identity; s = x.n }) (record { w = identity; s = y.n }) in
    let b = Decides-and (map_eq (record { w = identity; s = x.n }) (record { w = identity; s = y.n })) (eqb x.d y.d) m (Decides-eqb x.d y.d) in
    ((λ t. scaled_path x y (ap (λ (v : Map). v.s) (b.0 t).0) (b.0 t).1), (λ e. b.1 ((λ i. record { w = identity; s = (e i).n }), ap (λ (v : ScaledPoint). v.d) e)))

pub cell_apart : (unit : ℕ) → 0 < unit → (x y : ScaledPoint) → in_cell unit x ≡ in_cell unit y → (k : Column) × (x.n ≡ y.n +ᶜ times (pos (unit * y.d)) k) × (x.d ≡ y.d)
unfolding in_cell
cell_apart unit h x y e =
    let d : x.d ≡ y.d = ap (λ (v : ScaledPoint). v.d) e in
    let i = modulo_is (unit * x.d) (positive_product unit x.d h x.some) x.n in
    let j = modulo_is (unit * y.d) (positive_product unit y.d h y.some) y.n in
    (j.0 +ᶜ neg_column i.0, difference x.n y.n i.0 j.0 (pos (unit * y.d)) (ap (λ v. x.n +ᶜ times (pos (unit * v)) i.0) (sym d) ∙ sym i.1 ∙ ap (λ (v : ScaledPoint). v.n) e ∙ j.1), d)

pub cell_same : (unit : ℕ) → 0 < unit → (x y : ScaledPoint) (k : Column) → x.n ≡ y.n +ᶜ times (pos (unit * y.d)) k → x.d ≡ y.d → in_cell unit x ≡ in_cell unit y
unfolding in_cell
cell_same unit h x y k e d = scaled_path _ _ (ap (λ v. modulo (unit * v) x.n) d ∙ modulo_same (unit * y.d) (positive_product unit y.d h y.some) x.n y.n k e) d

-- a map takes them to such points
pub cell_moved : (unit : ℕ) → 0 < unit → (g : Map) (x y : ScaledPoint) → in_cell unit x ≡ in_cell unit y → in_cell unit (moved g x) ≡ in_cell unit (moved g y)
unfolding moved
cell_moved unit h g x y e =
    let a = cell_apart unit h x y e in
    cell_same unit h (moved g x) (moved g y) (g.w ·ᶜ a.0)
    (ap₂ (λ (v : Column) (d : ℕ). g.w ·ᶜ v +ᶜ times (pos d) g.s) a.1 a.2 ∙ turn_shift (pos (unit * y.d)) g.w (times (pos y.d) g.s) y.n a.0) a.2

whole_shift : (w : Matrix) (p s k : Column) (d u : ℤ) → w ·ᶜ p +ᶜ times d (s +ᶜ times u k) ≡ w ·ᶜ p +ᶜ times d s +ᶜ times (u *ℤ d) k
unfolding ◌·ᶜ◌ ◌+ᶜ◌ times
whole_shift w p s k d u =
    let D = var 0 in
    let U = var 1 in
    let W = matrix_at 2 in
    let P = column_at 11 in
    let S = column_at 14 in
    let K = column_at 17 in
    column_ring (d ∷ u ∷ (entries w ++ (coordinates p ++ (coordinates s ++ coordinates k)))) (W ·ˢᶜ P +ˢᶜ sym_times D (S +ˢᶜ sym_times U K)) (W ·ˢᶜ P +ˢᶜ sym_times D S +ˢᶜ sym_times (U ⊗ D) K) tt

-- an operator says where the images by its maps lie in the cell
pub cell_operator : (unit : ℕ) → 0 < unit → (g : Map) (y : ScaledPoint) → in_cell unit (moved (map_of (operator_of unit g)) y) ≡ in_cell unit (moved g y)
unfolding moved operator_of
cell_operator unit h g y =
    let c = modulo_is unit h g.s in
    cell_same unit h (moved (map_of (operator_of unit g)) y) (moved g y) c.0
    (ap (λ s. g.w ·ᶜ y.n +ᶜ times (pos y.d) s) c.1 ∙ whole_shift g.w y.n g.s c.0 (pos y.d) (pos unit)) refl

undone : (p k : Column) (u : ℤ) → p +ᶜ times u k +ᶜ times u (neg_column k) ≡ p
unfolding ◌+ᶜ◌ times neg_column
undone p k u = column_ring (u ∷ (coordinates p ++ coordinates k)) (column_at 1 +ˢᶜ sym_times (var 0) (column_at 4) +ˢᶜ sym_times (var 0) (sym_neg (column_at 4))) (column_at 1) tt

moved_back : (f : Operator) (y : ScaledPoint) (k : Column) (unit : ℕ) → (moved (map_of f) y).n ≡ y.n +ᶜ times (pos (unit * y.d)) k → moved (shifted unit f (neg_column k)) y ≡ y
unfolding moved
moved_back f y k unit e = scaled_path _ y (whole_shift f.w y.n f.t (neg_column k) (pos y.d) (pos unit) ∙ ap (λ v. v +ᶜ times (pos (unit * y.d)) (neg_column k)) e ∙ undone y.n k (pos (unit * y.d))) refl

module _ (L : SpaceGroup) where
  open L use {unit, some, members, closed}

  -- the image of y by an operator, in the cell
  abbrev pub place : ScaledPoint → Operator → ScaledPoint
  place y f = in_cell unit (moved (map_of f) y)

  pub orbit : ScaledPoint → List ScaledPoint
  orbit y = lists.each_once scaled_eq (map (place y) members)

  pub member_map : (f : Operator) → Contains members f → IsElement unit members (map_of f)
  member_map f c = subst (Contains members) (sym (operator_of-map unit some f (All-contains (IsOperator unit) members f closed.valid c))) c

  place_product : (y : ScaledPoint) (g f : Operator) → place y (product unit g f) ≡ in_cell unit (moved (map_of g) (moved (map_of f) y))
  place_product y g f = ap (place y) (product_is unit some g f) ∙ cell_operator unit some (map_of g ∘ map_of f) y ∙ ap (in_cell unit) (moved-∘ (map_of g) (map_of f) y)

  cell_back : (g : Map) → IsElement unit members g → (x y : ScaledPoint) → in_cell unit (moved g x) ≡ in_cell unit (moved g y) → in_cell unit x ≡ in_cell unit y
  cell_back g m x y e =
      let back : (z : ScaledPoint) → moved (undo g) (moved g z) ≡ z = λ z. conjugates.act_back (space L) (on_points L) g z m in
      ap (in_cell unit) (sym (back x)) ∙ cell_moved unit some (undo g) (moved g x) (moved g y) e ∙ ap (in_cell unit) (back y)

  -- an operator leaves y in its place exactly where one of its maps fixes y
  place_fixer : (y : ScaledPoint) (f : Operator) → Contains members f → place y f ≡ in_cell unit y → (moved (fixer L y f) y ≡ y) × (operator_of unit (fixer L y f) ≡ f)
  place_fixer y f c e =
      let a = cell_apart unit some (moved (map_of f) y) y e in
      let k = neg_column a.0 in
      let m = shifted unit f k in
      let fix : moved m y ≡ y = moved_back f y a.0 unit a.1 in
      let op : operator_of unit m ≡ f = operator_of-shifted unit some f k (All-contains (IsOperator unit) members f closed.valid c) in
      let q : fixer L y f ≡ m = ap (fixer L y) (sym op) ∙ fixer_of L y m fix in
      (subst (λ v. moved v y ≡ y) (sym q) fix, ap (operator_of unit) q ∙ op)

  fixer_place : (y : ScaledPoint) (f : Operator) → (moved (fixer L y f) y ≡ y) × (operator_of unit (fixer L y f) ≡ f) → place y f ≡ in_cell unit y
  fixer_place y f p = ap (place y) (sym p.1) ∙ cell_operator unit some (fixer L y f) y ∙ ap (in_cell unit) p.0

  stays : (y : ScaledPoint) (f : Operator) → Contains members f → has_fixer L y f ≡ scaled_eq (place y f) (in_cell unit y)
  stays y f c = same_from_decides (has_fixer L y f) (scaled_eq (place y f) (in_cell unit y)) (has_fixer-is L y f)
      (Decides-like (scaled_eq (place y f) (in_cell unit y)) (place_fixer y f c) (fixer_place y f) (scaled_eq-is (place y f) (in_cell unit y)))

  -- as many operators take y to one place as to another
  same_place : (y : ScaledPoint) (g f : Operator) → Contains members g → Contains members f → scaled_eq (place y (product unit g f)) (place y g) ≡ scaled_eq (place y f) (in_cell unit y)
  same_place y g f c d = same_from_decides (scaled_eq (place y (product unit g f)) (place y g)) (scaled_eq (place y f) (in_cell unit y)) (scaled_eq-is (place y (product unit g f)) (place y g))
      (Decides-like (scaled_eq (place y f) (in_cell unit y))
      (λ e. place_product y g f ∙ cell_moved unit some (map_of g) (moved (map_of f) y) y e)
      (λ e. cell_back (map_of g) (member_map g c) (moved (map_of f) y) y (sym (place_product y g f) ∙ e))
      (scaled_eq-is (place y f) (in_cell unit y)))

  fibre : (y : ScaledPoint) (g : Operator) → Contains members g → count_by (λ f. scaled_eq (place y f) (place y g)) members ≡ length (site L y)
  fibre y g c =
      sym (permuted.sum_by-permuted (operators unit some).eq (operators unit some).same (product unit g) members (actions.left_permutes (operators unit some) members closed g c) (λ f. cond (scaled_eq (place y f) (place y g)) 1 0))
      ∙ lists.sum_by-agree (λ f. cond {A = ℕ} (scaled_eq (place y (product unit g f)) (place y g)) 1 0) (λ f. cond {A = ℕ} (has_fixer L y f) 1 0) members (λ f d. ap (λ (b : Bool). cond {A = ℕ} b 1 0) (same_place y g f c d ∙ sym (stays y f d)))
      ∙ sym (site_length L y)

  pub orbit_distinct : (y : ScaledPoint) → IsDistinct scaled_eq (orbit y)
  unfolding orbit
  orbit_distinct y = lists.distinct-each_once scaled_eq scaled_eq-is (map (place y) members)

  pub orbit_is : (y z : ScaledPoint) → Contains (orbit y) z ↔ ((f : Operator) × Contains members f × (place y f ≡ z))
  unfolding orbit
  orbit_is y z = (
    (λ c. lists.Contains-from_map (place y) z members (lists.Contains-from_each_once scaled_eq (map (place y) members) z c)),
    (λ r. lists.Contains-each_once scaled_eq scaled_eq-is (map (place y) members) z (subst (Contains (map (place y) members)) r.2 (lists.Contains-map (place y) r.0 members r.1))),
  )

  -- the number of elements that fix a point, times that of its images in a cell, is the number of members
  pub site_times_orbit : (y : ScaledPoint) → length (site L y) * length (orbit y) ≡ length members
  site_times_orbit y = mul_comm (length (site L y)) (length (orbit y)) ∙ sym (length-classes (λ f z. scaled_eq (place y f) z) members (orbit y) (length (site L y))
      (λ k d l. actions.count_by-once scaled_eq scaled_eq-is (place y (get_or members k d)) (orbit y) (orbit_distinct y) ((orbit_is y (place y (get_or members k d))).1 (get_or members k d, Contains-get_or members k d l, refl)))
      (λ k d l. let r = (orbit_is y (get_or (orbit y) k d)).0 (Contains-get_or (orbit y) k d l) in
      subst (λ z. count_by (λ f. scaled_eq (place y f) z) members ≡ length (site L y)) r.2 (fibre y r.0 r.1)))
