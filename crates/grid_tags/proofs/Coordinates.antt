-- What an element of the space group does to grid points, coordinate by coordinate.
use Rattle.std.proofs.Common.{◌≡◌, ℕ, ◌*◌, ◌<◌, ◌∷◌, [], List, ℤ, pos, negsuc, ◌+ℤ◌, ◌-ℤ◌, ◌*ℤ◌, ap, sym, ◌∙◌, arith}
use Rattle.lattice_algebra.specs.Matrix.{Column, ◌·ᶜ◌, ◌+ᶜ◌, times}
use Rattle.lattice_algebra.specs.Map.{Map}
use Rattle.lattice_algebra.proofs.Numbers.{positive_product}
use Rattle.lattice_algebra.proofs.Ring.{Expr, var, con, ◌⊕◌, ◌⊖◌, ◌⊗◌, ring, known, ring_from}
use Rattle.exact_ops.specs.declared.TheConstants.{UNIT}
use Rattle.grid_tags.specs.Grids.{Grid, IsGridImage}
use Rattle.grid_tags.specs.Steps.{IsAxisKept}
use Rattle.grid_tags.proofs.WholeRatios.{cancel_right}

-- w x/n + u y/m + v z/l + t/UNIT is r/n: as whole numbers over UNIT n m l
abbrev pub HasCoordinate : ℕ → ℕ → ℕ → ℤ → ℤ → ℤ → ℤ → ℤ → ℤ → ℤ → ℤ → Type 0
HasCoordinate n m l w u v t x y z r =
    w *ℤ (x *ℤ pos (UNIT * m * l)) +ℤ u *ℤ (y *ℤ pos (UNIT * n * l)) +ℤ v *ℤ (z *ℤ pos (UNIT * n * m)) +ℤ pos (n * m * l) *ℤ t ≡ r *ℤ pos (UNIT * m * l)

some_unit : 0 < UNIT
some_unit = omega arith

module _ (n m l : ℕ) (w u v t : ℤ) where
  -- both sides with the quotients put in
  put_in : (x y z p q s : ℤ) → u *ℤ pos n ≡ p *ℤ pos m → v *ℤ pos n ≡ q *ℤ pos l → t *ℤ pos n ≡ s *ℤ pos UNIT
      → w *ℤ (x *ℤ pos (UNIT * m * l)) +ℤ u *ℤ (y *ℤ pos (UNIT * n * l)) +ℤ v *ℤ (z *ℤ pos (UNIT * n * m)) +ℤ pos (n * m * l) *ℤ t ≡ (w *ℤ x +ℤ p *ℤ y +ℤ q *ℤ z +ℤ s) *ℤ pos (UNIT * m * l)
  put_in x y z p q s a b c =
      let r = w ∷ u ∷ v ∷ t ∷ x ∷ y ∷ z ∷ p ∷ q ∷ s ∷ pos n ∷ pos m ∷ pos l ∷ pos UNIT ∷ [] in
      let N = var 10 in
      let M = var 11 in
      let L = var 12 in
      let U = var 13 in
      ring_from r (var 0 ⊗ (var 4 ⊗ (U ⊗ M ⊗ L)) ⊕ var 1 ⊗ (var 5 ⊗ (U ⊗ N ⊗ L)) ⊕ var 2 ⊗ (var 6 ⊗ (U ⊗ N ⊗ M)) ⊕ (N ⊗ M ⊗ L) ⊗ var 3)
      ((var 0 ⊗ var 4 ⊕ var 7 ⊗ var 5 ⊕ var 8 ⊗ var 6 ⊕ var 9) ⊗ (U ⊗ M ⊗ L))
      (known (var 5 ⊗ (U ⊗ L)) (var 1 ⊗ N) (var 7 ⊗ M) ∷ known (var 6 ⊗ (U ⊗ M)) (var 2 ⊗ N) (var 8 ⊗ L) ∷ known (M ⊗ L) (var 3 ⊗ N) (var 9 ⊗ U) ∷ [])
      (a, (b, (c, tt))) tt

  module _ (hm : 0 < m) (hl : 0 < l) where
    some : 0 < UNIT * m * l
    some = positive_product (UNIT * m) l (positive_product UNIT m some_unit hm) hl

    -- the coordinate, where the quotients are whole
    pub coordinate_is : (x y z p q s r : ℤ) → u *ℤ pos n ≡ p *ℤ pos m → v *ℤ pos n ≡ q *ℤ pos l → t *ℤ pos n ≡ s *ℤ pos UNIT → HasCoordinate n m l w u v t x y z r → r ≡ w *ℤ x +ℤ p *ℤ y +ℤ q *ℤ z +ℤ s
    coordinate_is x y z p q s r a b c h = cancel_right (UNIT * m * l) r _ some (sym h ∙ put_in x y z p q s a b c)

    pub has_coordinate : (x y z p q s r : ℤ) → u *ℤ pos n ≡ p *ℤ pos m → v *ℤ pos n ≡ q *ℤ pos l → t *ℤ pos n ≡ s *ℤ pos UNIT → r ≡ w *ℤ x +ℤ p *ℤ y +ℤ q *ℤ z +ℤ s → HasCoordinate n m l w u v t x y z r
    has_coordinate x y z p q s r a b c e = put_in x y z p q s a b c ∙ ap (λ k. k *ℤ pos (UNIT * m * l)) (sym e)

    -- the quotients are whole, where the origin and the first points beside it go to grid points
    pub axis_kept : (a b c : ℤ) → HasCoordinate n m l w u v t (pos 0) (pos 0) (pos 0) a → HasCoordinate n m l w u v t (pos 0) (pos 1) (pos 0) b → HasCoordinate n m l w u v t (pos 0) (pos 0) (pos 1) c → IsAxisKept u v t n m l
    axis_kept a b c e f g =
        let r = w ∷ u ∷ v ∷ t ∷ a ∷ b ∷ c ∷ pos n ∷ pos m ∷ pos l ∷ pos UNIT ∷ [] in
        let N = var 7 in
        let M = var 8 in
        let L = var 9 in
        let U = var 10 in
        let o = con (pos 0) in
        let i = con (pos 1) in
        let left : Expr → Expr → Expr = λ y z. var 0 ⊗ (o ⊗ (U ⊗ M ⊗ L)) ⊕ var 1 ⊗ (y ⊗ (U ⊗ N ⊗ L)) ⊕ var 2 ⊗ (z ⊗ (U ⊗ N ⊗ M)) ⊕ (N ⊗ M ⊗ L) ⊗ var 3 in
        let zero = known (con (pos 1)) (left o o) (var 4 ⊗ (U ⊗ M ⊗ L)) in
        let less = known (con (negsuc 0)) (left o o) (var 4 ⊗ (U ⊗ M ⊗ L)) in
        record {
          shift = (a, cancel_right (m * l) _ _ (positive_product m l hm hl) (ring_from r ((var 3 ⊗ N) ⊗ (M ⊗ L)) ((var 4 ⊗ U) ⊗ (M ⊗ L)) (zero ∷ []) (e, tt) tt));
          second = (b -ℤ a, cancel_right (UNIT * l) _ _ (positive_product UNIT l some_unit hl) (ring_from r ((var 1 ⊗ N) ⊗ (U ⊗ L)) (((var 5 ⊖ var 4) ⊗ M) ⊗ (U ⊗ L)) (known (con (pos 1)) (left i o) (var 5 ⊗ (U ⊗ M ⊗ L)) ∷ less ∷ []) (f, (e, tt)) tt));
          third = (c -ℤ a, cancel_right (UNIT * m) _ _ (positive_product UNIT m some_unit hm) (ring_from r ((var 2 ⊗ N) ⊗ (U ⊗ M)) (((var 6 ⊖ var 4) ⊗ L) ⊗ (U ⊗ M)) (known (con (pos 1)) (left o i) (var 6 ⊗ (U ⊗ M ⊗ L)) ∷ less ∷ []) (g, (e, tt)) tt));
        }

-- ---- the three coordinates

module _ (s : Grid) (g : Map) (v u : Column) where
  rest : List ℤ
  rest = v.x ∷ v.y ∷ v.z ∷ pos s.a ∷ pos s.b ∷ pos s.c ∷ pos UNIT ∷ []

  turn_y : g.w.yx *ℤ (v.x *ℤ pos (UNIT * s.b * s.c)) +ℤ g.w.yy *ℤ (v.y *ℤ pos (UNIT * s.a * s.c)) +ℤ g.w.yz *ℤ (v.z *ℤ pos (UNIT * s.a * s.b)) +ℤ pos (s.a * s.b * s.c) *ℤ g.s.y
      ≡ g.w.yy *ℤ (v.y *ℤ pos (UNIT * s.a * s.c)) +ℤ g.w.yx *ℤ (v.x *ℤ pos (UNIT * s.b * s.c)) +ℤ g.w.yz *ℤ (v.z *ℤ pos (UNIT * s.b * s.a)) +ℤ pos (s.b * s.a * s.c) *ℤ g.s.y
  turn_y =
      let A = var 7 in
      let B = var 8 in
      let C = var 9 in
      let U = var 10 in
      ring (g.w.yx ∷ g.w.yy ∷ g.w.yz ∷ g.s.y ∷ v.x ∷ v.y ∷ v.z ∷ pos s.a ∷ pos s.b ∷ pos s.c ∷ pos UNIT ∷ [])
      (var 0 ⊗ (var 4 ⊗ (U ⊗ B ⊗ C)) ⊕ var 1 ⊗ (var 5 ⊗ (U ⊗ A ⊗ C)) ⊕ var 2 ⊗ (var 6 ⊗ (U ⊗ A ⊗ B)) ⊕ (A ⊗ B ⊗ C) ⊗ var 3)
      (var 1 ⊗ (var 5 ⊗ (U ⊗ A ⊗ C)) ⊕ var 0 ⊗ (var 4 ⊗ (U ⊗ B ⊗ C)) ⊕ var 2 ⊗ (var 6 ⊗ (U ⊗ B ⊗ A)) ⊕ (B ⊗ A ⊗ C) ⊗ var 3) tt

  turn_z : g.w.zx *ℤ (v.x *ℤ pos (UNIT * s.b * s.c)) +ℤ g.w.zy *ℤ (v.y *ℤ pos (UNIT * s.a * s.c)) +ℤ g.w.zz *ℤ (v.z *ℤ pos (UNIT * s.a * s.b)) +ℤ pos (s.a * s.b * s.c) *ℤ g.s.z
      ≡ g.w.zz *ℤ (v.z *ℤ pos (UNIT * s.a * s.b)) +ℤ g.w.zx *ℤ (v.x *ℤ pos (UNIT * s.c * s.b)) +ℤ g.w.zy *ℤ (v.y *ℤ pos (UNIT * s.c * s.a)) +ℤ pos (s.c * s.a * s.b) *ℤ g.s.z
  turn_z =
      let A = var 7 in
      let B = var 8 in
      let C = var 9 in
      let U = var 10 in
      ring (g.w.zx ∷ g.w.zy ∷ g.w.zz ∷ g.s.z ∷ v.x ∷ v.y ∷ v.z ∷ pos s.a ∷ pos s.b ∷ pos s.c ∷ pos UNIT ∷ [])
      (var 0 ⊗ (var 4 ⊗ (U ⊗ B ⊗ C)) ⊕ var 1 ⊗ (var 5 ⊗ (U ⊗ A ⊗ C)) ⊕ var 2 ⊗ (var 6 ⊗ (U ⊗ A ⊗ B)) ⊕ (A ⊗ B ⊗ C) ⊗ var 3)
      (var 2 ⊗ (var 6 ⊗ (U ⊗ A ⊗ B)) ⊕ var 0 ⊗ (var 4 ⊗ (U ⊗ C ⊗ B)) ⊕ var 1 ⊗ (var 5 ⊗ (U ⊗ C ⊗ A)) ⊕ (C ⊗ A ⊗ B) ⊗ var 3) tt

  pub record HaveCoordinates : Type 0 where
    pub x : HasCoordinate s.a s.b s.c g.w.xx g.w.xy g.w.xz g.s.x v.x v.y v.z u.x
    pub y : HasCoordinate s.b s.a s.c g.w.yy g.w.yx g.w.yz g.s.y v.y v.x v.z u.y
    pub z : HasCoordinate s.c s.a s.b g.w.zz g.w.zx g.w.zy g.s.z v.z v.x v.y u.z

  pub coordinates_of : IsGridImage s g v u → HaveCoordinates
  unfolding ◌·ᶜ◌ ◌+ᶜ◌ times
  coordinates_of e = record {
    x = ap (λ (c : Column). c.x) e;
    y = sym turn_y ∙ ap (λ (c : Column). c.y) e;
    z = sym turn_z ∙ ap (λ (c : Column). c.z) e;
  }

  pub image_of : HaveCoordinates → IsGridImage s g v u
  unfolding ◌·ᶜ◌ ◌+ᶜ◌ times
  image_of h = λ i. record { x = h.x i; y = (turn_y ∙ h.y) i; z = (turn_z ∙ h.z) i }
