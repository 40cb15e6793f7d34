-- The orbits of grid points under a group that keeps the grid.
use Rattle.std.proofs.Common.{◌≡◌, ℕ, ◌*◌, ◌<◌, ◌↔◌, Bool, ◌&&◌, cond, eqb, List, ◌∷◌, ◌++◌, length, get_or, pos, ℤ, ap, ap₂, sym, ◌∙◌, subst, refl, Contains, Decides, count_by}
use Rattle.std.proofs.lemmas.Bool.Decides.{Decides-and, Decides-eqb, same_from_decides}
use Rattle.std.proofs.lemmas.List.Elements.{All-contains, Contains-get_or}
use Rattle.std.proofs.lemmas.Map.Made.{IsDistinct-from_AllPairs}
use Rattle.finite_groups.proofs.Members as lists
use Rattle.finite_groups.proofs.Permuted as permuted
use Rattle.finite_groups.proofs.Actions as actions
use Rattle.finite_groups.proofs.Counts.{length-classes}
use Rattle.lattice_algebra.specs.Matrix.{Matrix, Column, entries, coordinates, ◌·◌, ◌·ᶜ◌, ◌+ᶜ◌, times, identity, origin}
use Rattle.lattice_algebra.specs.Operator.{Operator, product, inverse, identity_operator}
use Rattle.lattice_algebra.specs.Map.{Map, ◌∘◌, operator_of}
use Rattle.lattice_algebra.proofs.Ring.{var}
use Rattle.lattice_algebra.proofs.MatrixRing.{matrix_at, column_at as sym_column, ◌·ˢ◌, ◌·ˢᶜ◌, ◌+ˢᶜ◌, sym_times, sym_identity, sym_origin, column_ring}
use Rattle.lattice_algebra.proofs.Maps.{operator_of-∘}
use Rattle.exact_ops.specs.declared.TheConstants.{UNIT}
use Rattle.exact_ops.specs.Narrow.{IsNarrow}
use Rattle.exact_ops.proofs.Narrow.{some_parts}
use Rattle.group_closure.specs.GroupList.{IsGroup}
use Rattle.group_closure.proofs.CellOperators.{cell_operators}
use Rattle.group_closure.proofs.Lists.{closed_list}
use Rattle.group_closure.proofs.Places.{contains_at, product_member, inverse_member}
use Rattle.grid_tags.specs.Grids.{Grid, Triple, IsInGrid, IsGridImage, IsKept, column_at, numerators, points}
use Rattle.grid_tags.specs.Steps.{AreAxesKept, triple_eq, act}
use Rattle.grid_tags.specs.GridLists.{AreInOneOrbit, IsGridOrbit}
use Rattle.grid_tags.proofs.Images.{HasSides, Takes, axes_kept, takes, takes_only, act_in, act_one}

pub triple_eq-is : (p q : Triple) → Decides (triple_eq p q) (p ≡ q)
triple_eq-is p q =
    let jk = Decides-and (eqb p.j q.j) (eqb p.k q.k) (Decides-eqb p.j q.j) (Decides-eqb p.k q.k) in
    let d = Decides-and (eqb p.i q.i) (eqb p.j q.j && eqb p.k q.k) (Decides-eqb p.i q.i) jk in
    ((λ t. let e = d.0 t in λ h. record { i = e.0 h; j = e.1.0 h; k = e.1.1 h }), (λ e. d.1 (ap (λ (r : Triple). r.i) e, (ap (λ (r : Triple). r.j) e, ap (λ (r : Triple). r.k) e))))

-- ---- products of maps

after_column : (d : ℤ) (v w : Matrix) (s t p : Column) → (v · w) ·ᶜ p +ᶜ times d (v ·ᶜ t +ᶜ s) ≡ v ·ᶜ (w ·ᶜ p +ᶜ times d t) +ᶜ times d s
unfolding ◌·◌ ◌·ᶜ◌ ◌+ᶜ◌ times
after_column d v w s t p =
    let D = var 0 in
    let V = matrix_at 1 in
    let W = matrix_at 10 in
    let S = sym_column 19 in
    let T = sym_column 22 in
    let P = sym_column 25 in
    column_ring (d ∷ (entries v ++ (entries w ++ (coordinates s ++ (coordinates t ++ coordinates p))))) ((V ·ˢ W) ·ˢᶜ P +ˢᶜ sym_times D (V ·ˢᶜ T +ˢᶜ S)) (V ·ˢᶜ (W ·ˢᶜ P +ˢᶜ sym_times D T) +ˢᶜ sym_times D S) tt

identity_column : (d : ℤ) (p : Column) → identity ·ᶜ p +ᶜ times d origin ≡ p
unfolding ◌·ᶜ◌ ◌+ᶜ◌ times
identity_column d p = column_ring (d ∷ coordinates p) (sym_identity ·ˢᶜ sym_column 1 +ˢᶜ sym_times (var 0) sym_origin) (sym_column 1) tt

after : (s : Grid) (h g : Map) (v u w : Column) → IsGridImage s g v u → IsGridImage s h u w → IsGridImage s (h ∘ g) v w
unfolding ◌∘◌
after s h g v u w e f = after_column (pos (points s)) h.w g.w h.s g.s (numerators s v) ∙ ap (λ c. h.w ·ᶜ c +ᶜ times (pos (points s)) h.s) e ∙ f

module _ (members : List Operator) (s : Grid) (sides : HasSides s) (group : IsGroup members) (kept : IsKept members s) where
  axes : (f : Operator) → Contains members f → AreAxesKept s f
  axes f m = axes_kept s sides f (kept f m)

  narrow : (f : Operator) → Contains members f → IsNarrow f
  narrow f m = All-contains IsNarrow members f group.narrow m

  has_one : Contains members identity_operator
  has_one = contains_at members identity_operator 0 group.first

  act_by : (f : Operator) → Contains members f → (p q : Triple) → IsInGrid s q → Takes s f p q → q ≡ act s f p
  act_by f m = takes_only s sides f (axes f m) (narrow f m)

  takes_by : (f : Operator) → Contains members f → (p : Triple) → Takes s f p (act s f p)
  takes_by f m = takes s sides f (axes f m) (narrow f m)

  pub act_mul : (k f : Operator) → Contains members k → Contains members f → (p : Triple) → act s (product UNIT k f) p ≡ act s k (act s f p)
  act_mul k f mk mf p =
      let a = takes_by f mf p in
      let b = takes_by k mk (act s f p) in
      sym (act_by (product UNIT k f) (product_member members k f group mk mf) p (act s k (act s f p)) (act_in s sides k (act s f p))
      (b.0 ∘ a.0, sym (operator_of-∘ UNIT some_parts b.0 a.0) ∙ ap₂ (product UNIT) b.1 a.1, after s b.0 a.0 (column_at p) (column_at (act s f p)) (column_at (act s k (act s f p))) a.2 b.2))

  undone : (k : Operator) → Contains members k → (p : Triple) → IsInGrid s p → act s (inverse UNIT k) (act s k p) ≡ p
  undone k m p i =
      sym (act_mul (inverse UNIT k) k (inverse_member members k group m) m p)
      ∙ ap (λ f. act s f p) (cell_operators.inv_left k (narrow k m).is_operator) ∙ act_one s p i

  pub act_back : (k : Operator) → Contains members k → (p q : Triple) → IsInGrid s p → IsInGrid s q → act s k p ≡ act s k q → p ≡ q
  act_back k m p q i j e = sym (undone k m p i) ∙ ap (act s (inverse UNIT k)) e ∙ undone k m q j

  -- ---- orbits

  pub in_orbit : (p q : Triple) → IsInGrid s q → AreInOneOrbit members s p q ↔ ((f : Operator) × Contains members f × (act s f p ≡ q))
  in_orbit p q i = (
    (λ a. (operator_of UNIT a.0, a.1, sym (act_by (operator_of UNIT a.0) a.1 p q i (a.0, refl, a.2)))),
    (λ r. let t = takes_by r.0 r.1 p in (t.0, subst (Contains members) (sym t.1) r.1, subst (λ v. IsGridImage s t.0 (column_at p) (column_at v)) r.2 t.2)),
  )

  pub orbit_itself : (p : Triple) → IsInGrid s p → AreInOneOrbit members s p p
  orbit_itself p i = (in_orbit p p i).1 (identity_operator, has_one, act_one s p i)

  pub orbit_back : (p q : Triple) → IsInGrid s p → IsInGrid s q → AreInOneOrbit members s p q → AreInOneOrbit members s q p
  orbit_back p q i j a =
      let r = (in_orbit p q j).0 a in
      (in_orbit q p i).1 (inverse UNIT r.0, inverse_member members r.0 group r.1, ap (act s (inverse UNIT r.0)) (sym r.2) ∙ undone r.0 r.1 p i)

  pub orbit_on : (p q r : Triple) → IsInGrid s p → IsInGrid s q → IsInGrid s r → AreInOneOrbit members s p q → AreInOneOrbit members s q r → AreInOneOrbit members s p r
  orbit_on p q r i j k a b =
      let f = (in_orbit p q j).0 a in
      let g = (in_orbit q r k).0 b in
      (in_orbit p r k).1 (product UNIT g.0 f.0, product_member members g.0 f.0 group g.1 f.1, act_mul g.0 f.0 g.1 f.1 p ∙ ap (act s g.0) f.2 ∙ g.2)

  -- as many members take p to one point of its orbit as to another
  module _ (p : Triple) (i : IsInGrid s p) where
    pub fixing : Operator → Bool
    fixing f = triple_eq (act s f p) p

    fibre : (k : Operator) → Contains members k → count_by (λ f. triple_eq (act s f p) (act s k p)) members ≡ count_by (λ f. triple_eq (act s f p) p) members
    fibre k m =
        sym (permuted.sum_by-permuted cell_operators.eq cell_operators.same (λ f. product UNIT k f) members (actions.left_permutes cell_operators members (closed_list members group) k m) (λ f. cond (triple_eq (act s f p) (act s k p)) 1 0))
        ∙ lists.sum_by-agree (λ f. cond (triple_eq (act s (product UNIT k f) p) (act s k p)) 1 0) (λ f. cond (triple_eq (act s f p) p) 1 0) members (λ f n. ap (λ (b : Bool). cond {A = ℕ} b 1 0) (same f n))
      where
        same : (f : Operator) → Contains members f → triple_eq (act s (product UNIT k f) p) (act s k p) ≡ triple_eq (act s f p) p
        same f n =
            let a = triple_eq-is (act s (product UNIT k f) p) (act s k p) in
            let b = triple_eq-is (act s f p) p in
            same_from_decides (triple_eq (act s (product UNIT k f) p) (act s k p)) (triple_eq (act s f p) p) a
            ((λ t. act_mul k f m n p ∙ ap (act s k) (b.0 t)), (λ e. b.1 (act_back k m (act s f p) p (act_in s sides f p) i (sym (act_mul k f m n p) ∙ e))))

    pub orbit_law : (orbit : List Triple) → IsGridOrbit members s p orbit → length members ≡ length orbit * count_by (λ f. triple_eq (act s f p) p) members
    orbit_law orbit o = length-classes (λ (f : Operator) q. triple_eq (act s f p) q) members orbit (count_by (λ f. triple_eq (act s f p) p) members)
        (λ k d l.
        let f : Operator = get_or members k d in
        let m : Contains members f = Contains-get_or members k d l in
        actions.count_by-once triple_eq triple_eq-is (act s f p) orbit (IsDistinct-from_AllPairs triple_eq-is orbit o.once) ((o.exactly (act s f p)).1 (act_in s sides f p, (in_orbit p (act s f p) (act_in s sides f p)).1 (f, m, refl))))
        (λ k d l.
        let q : Triple = get_or orbit k d in
        let r = (o.exactly q).0 (Contains-get_or orbit k d l) in
        let t = (in_orbit p q r.0).0 r.1 in
        subst (λ z. count_by (λ f. triple_eq (act s f p) z) members ≡ count_by (λ f. triple_eq (act s f p) p) members) t.2 (fibre t.0 t.1))

    pub some_fixing : 0 < count_by (λ f. triple_eq (act s f p) p) members
    some_fixing = lists.count_by-positive (λ f. triple_eq (act s f p) p) identity_operator members has_one ((triple_eq-is (act s identity_operator p) p).1 (act_one s p i)) refl
