-- What the machine computes of grids.
use Rattle.std.proofs.Common.{◌≡◌, ℕ, ◌+◌, ◌*◌, ◌-◌, ◌/◌, ◌%◌, ◌^◌, ◌≤◌, ◌↔◌, eqb, ltb, List, [], ◌∷◌, get_or, take, slice_get, Some, ◌++◌, ⊎_elim, Contains, T, ℤ, pos, ◌*ℤ◌, unsigned_abs, w32, FitsSigned, to_z, of_z, IsTrue, ap, ap₂, sym, ◌∙◌, subst, arith}
use Rattle.std.specs.Int.RustNames.{int_rem}
use Rattle.std.proofs.lemmas.Bool.Decides.{Decides-eqb}
use Rattle.std.proofs.lemmas.Int.{ints, rem_is, to_z-of_z}
use Rattle.std.proofs.lemmas.List.{take_more}
use Rattle.std.proofs.lemmas.Option.{get_or_from_slice_get, slice_get_within}
use Rattle.std.proofs.lemmas.List.Elements.{Contains-append_cases}
use Rattle.finite_groups.proofs.Members as lists
use Rattle.lattice_algebra.specs.Matrix.{entries, coordinates, matrix_of}
use Rattle.lattice_algebra.specs.Operator.{Operator, HasEntriesWithin}
use Rattle.lattice_algebra.proofs.Ring.{var, ◌⊗◌}
use Rattle.lattice_algebra.proofs.Machine.{IsWithin, back, kept, fits, exact}
use Rattle.lattice_algebra.proofs.Quotients.{rem_of_multiple, multiple_of_quotient}
use Rattle.exact_ops.specs.declared.TheConstants.{UNIT}
use Rattle.exact_ops.specs.Narrow.{IsNarrow}
use Rattle.exact_ops.proofs.Narrow.{AreWithin-parts}
use Rattle.grid_tags.specs.declared.TheConstants.{MAX_SIDE}
use Rattle.grid_tags.specs.declared.ratios.Ratios.{Ratios}
use Rattle.grid_tags.specs.Grids.{Grid, Triple, IsSide, IsKept, IsKeptBy, place_of}
use Rattle.grid_tags.specs.Steps.{IsWhole, IsAxisKept, turned, turned_coordinate, ratios_of}
use Rattle.tag_walks.proofs.Digits.{place_back}

side_fits : (m : ℕ) (b : ℤ) → m ≤ MAX_SIDE → b ≡ pos m → FitsSigned w32 b
side_fits m b h e = subst (FitsSigned w32) (sym e) (of_side m h)
  where
    of_side : (m : ℕ) → m ≤ MAX_SIDE → FitsSigned w32 (pos m)
    of_side m h = omega (arith, ints)

size_of : (n : ℕ) (a : ℤ) → n ≤ MAX_SIDE → a ≡ pos n → unsigned_abs a ≤ MAX_SIDE
size_of n a h e = subst (λ z. unsigned_abs z ≤ MAX_SIDE) (sym e) h

pub whole_test : (w : ℤ) (n m : ℕ) (a b : ℤ) → unsigned_abs w ≤ UNIT - 1 → IsSide n → IsSide m → a ≡ pos n → b ≡ pos m
    → IsTrue (eqb (of_z w32 (int_rem (back w32 (back w32 w *ℤ back w32 a)) (back w32 b))) 0) ↔ IsWhole w n m
whole_test w n m a b h hn hm e f =
    let bounds : List ℕ = (UNIT - 1) ∷ MAX_SIDE ∷ [] in
    let within : IsWithin bounds (w ∷ a ∷ []) = (h, (size_of n a hn.1 e, tt)) in
    let N = back w32 w *ℤ back w32 a in
    let ok : FitsSigned w32 N = fits w32 bounds (w ∷ a ∷ []) (var 0 ⊗ var 1) within tt in
    let is : N ≡ w *ℤ pos n = exact w32 bounds (w ∷ a ∷ []) (var 0 ⊗ var 1) within tt ∙ ap (λ z. w *ℤ z) e in
    let d = Decides-eqb (of_z w32 (int_rem (back w32 N) (back w32 b))) 0 in
    let same : back w32 (int_rem (back w32 N) (back w32 b)) ≡ int_rem (w *ℤ pos n) (pos m) = rem_is w32 N b ok (side_fits m b hm.1 f) ∙ ap₂ int_rem is f in
    let inner : int_rem (back w32 N) (back w32 b) ≡ int_rem (w *ℤ pos n) (pos m) = ap₂ int_rem (kept_product w a n ok is) (kept w32 MAX_SIDE b (size_of m b hm.1 f) tt ∙ f) in (
      (λ t. let z : int_rem (w *ℤ pos n) (pos m) ≡ pos 0 = sym same ∙ ap (to_z w32) (d.0 t) in (_, multiple_of_quotient (w *ℤ pos n) (pos m) z)),
      (λ k. d.1 (ap (of_z w32) (inner ∙ rem_of_multiple (w *ℤ pos n) (pos m) k.0 (omega (arith, hm.0)) k.1))),
    )
  where
    kept_product : (w a : ℤ) (n : ℕ) → FitsSigned w32 (back w32 w *ℤ back w32 a) → back w32 w *ℤ back w32 a ≡ w *ℤ pos n → back w32 (back w32 w *ℤ back w32 a) ≡ w *ℤ pos n
    kept_product w a n f e = to_z-of_z w32 _ f ∙ e

-- ---- numbers of an operator

pub read_number : (xs ys : List ℤ) (k n : ℕ) → xs ≡ ys → unsigned_abs (get_or ys k (pos 0)) ≤ n → T (ltb n (2 ^ 31)) → back w32 (get_or xs k (pos 0)) ≡ get_or ys k (pos 0)
read_number xs ys k n e h t = ap (λ v. back w32 (get_or v k (pos 0))) e ∙ kept w32 n (get_or ys k (pos 0)) h t

module _ (f : Operator) (w t : List ℤ) (e : w ≡ entries f.w) (g : t ≡ coordinates f.t) (narrow : IsNarrow f) where
  abbrev entry : ℕ → ℤ
  entry k = back w32 (get_or w k (pos 0))

  abbrev part : ℕ → ℤ
  part k = back w32 (get_or t k (pos 0))

  pub record AreRead : Type 0 where
    pub xx : entry 0 ≡ f.w.xx
    pub xy : entry 1 ≡ f.w.xy
    pub xz : entry 2 ≡ f.w.xz
    pub yx : entry 3 ≡ f.w.yx
    pub yy : entry 4 ≡ f.w.yy
    pub yz : entry 5 ≡ f.w.yz
    pub zx : entry 6 ≡ f.w.zx
    pub zy : entry 7 ≡ f.w.zy
    pub zz : entry 8 ≡ f.w.zz
    pub x : part 0 ≡ f.t.x
    pub y : part 1 ≡ f.t.y
    pub z : part 2 ≡ f.t.z

  pub are_read : AreRead
  are_read =
      let n = narrow.within_two in
      let p = AreWithin-parts f.t narrow.is_operator.in_cell in
      record {
        xx = read_number w (entries f.w) 0 2 e n.x.first tt;
        xy = read_number w (entries f.w) 1 2 e n.x.second tt;
        xz = read_number w (entries f.w) 2 2 e n.x.third tt;
        yx = read_number w (entries f.w) 3 2 e n.y.first tt;
        yy = read_number w (entries f.w) 4 2 e n.y.second tt;
        yz = read_number w (entries f.w) 5 2 e n.y.third tt;
        zx = read_number w (entries f.w) 6 2 e n.z.first tt;
        zy = read_number w (entries f.w) 7 2 e n.z.second tt;
        zz = read_number w (entries f.w) 8 2 e n.z.third tt;
        x = read_number t (coordinates f.t) 0 (UNIT - 1) g p.first tt;
        y = read_number t (coordinates f.t) 1 (UNIT - 1) g p.second tt;
        z = read_number t (coordinates f.t) 2 (UNIT - 1) g p.third tt;
      }

  small : (a b : ℤ) → a ≡ b → unsigned_abs b ≤ 2 → unsigned_abs a ≤ UNIT - 1
  small a b e h = omega (arith, h, ap unsigned_abs e)

  part_small : (a b : ℤ) → a ≡ b → unsigned_abs b ≤ UNIT - 1 → unsigned_abs a ≤ UNIT - 1
  part_small a b e h = subst (λ z. unsigned_abs z ≤ UNIT - 1) (sym e) h

  pub y_numbers : (unsigned_abs (entry 3) ≤ UNIT - 1) × (unsigned_abs (entry 5) ≤ UNIT - 1) × (unsigned_abs (part 1) ≤ UNIT - 1)
  y_numbers = let n = narrow.within_two in let r = are_read in (small _ _ r.yx n.y.first, small _ _ r.yz n.y.third, part_small _ _ r.y (AreWithin-parts f.t narrow.is_operator.in_cell).second)

  pub z_numbers : (unsigned_abs (entry 6) ≤ UNIT - 1) × (unsigned_abs (entry 7) ≤ UNIT - 1) × (unsigned_abs (part 2) ≤ UNIT - 1)
  z_numbers = let n = narrow.within_two in let r = are_read in (small _ _ r.zx n.z.first, small _ _ r.zy n.z.second, part_small _ _ r.z (AreWithin-parts f.t narrow.is_operator.in_cell).third)

  axis_read : (u v t' : ℤ) (u2 v2 t2 : ℤ) (n m l : ℕ) → u ≡ u2 → v ≡ v2 → t' ≡ t2 → IsAxisKept u v t' n m l ↔ IsAxisKept u2 v2 t2 n m l
  axis_read u v t' u2 v2 t2 n m l p q r = (
    (λ k. subst (λ x. IsAxisKept x v2 t2 n m l) p (subst (λ y. IsAxisKept u y t2 n m l) q (subst (λ z. IsAxisKept u v z n m l) r k))),
    (λ k. subst (λ x. IsAxisKept x v t' n m l) (sym p) (subst (λ y. IsAxisKept u2 y t' n m l) (sym q) (subst (λ z. IsAxisKept u2 v2 z n m l) (sym r) k))),
  )

  pub x_axis : (n m l : ℕ) → IsAxisKept (entry 1) (entry 2) (part 0) n m l ↔ IsAxisKept f.w.xy f.w.xz f.t.x n m l
  x_axis n m l = let r = are_read in axis_read _ _ _ _ _ _ n m l r.xy r.xz r.x

  pub y_axis : (n m l : ℕ) → IsAxisKept (entry 3) (entry 5) (part 1) n m l ↔ IsAxisKept f.w.yx f.w.yz f.t.y n m l
  y_axis n m l = let r = are_read in axis_read _ _ _ _ _ _ n m l r.yx r.yz r.y

  pub z_axis : (n m l : ℕ) → IsAxisKept (entry 6) (entry 7) (part 2) n m l ↔ IsAxisKept f.w.zx f.w.zy f.t.z n m l
  z_axis n m l = let r = are_read in axis_read _ _ _ _ _ _ n m l r.zx r.zy r.z

-- ---- images

pub turned_read : (s v : Grid) (r : Ratios) (w : List ℤ) (p : Triple) (i j k : ℕ) → v ≡ s → r ≡ ratios_of s → HasEntriesWithin 2 (matrix_of w)
    → i ≡ turned_coordinate (back w32 (get_or w 0 (pos 0))) (back w32 (get_or w 1 (pos 0))) (back w32 (get_or w 2 (pos 0))) v.a r.ab r.ac p.i p.j p.k
    → j ≡ turned_coordinate (back w32 (get_or w 4 (pos 0))) (back w32 (get_or w 3 (pos 0))) (back w32 (get_or w 5 (pos 0))) v.b r.ba r.bc p.j p.i p.k
    → k ≡ turned_coordinate (back w32 (get_or w 8 (pos 0))) (back w32 (get_or w 6 (pos 0))) (back w32 (get_or w 7 (pos 0))) v.c r.ca r.cb p.k p.i p.j
    → record { i = i; j = j; k = k } ≡ turned s (matrix_of w) p
unfolding turned
turned_read s v r w p i j k e q n a b c =
    let read : (x : ℕ) → unsigned_abs (get_or w x (pos 0)) ≤ 2 → back w32 (get_or w x (pos 0)) ≡ get_or w x (pos 0) = λ x l. kept w32 2 (get_or w x (pos 0)) l tt in
    let xx = read 0 n.x.first in
    let xy = read 1 n.x.second in
    let xz = read 2 n.x.third in
    let yx = read 3 n.y.first in
    let yy = read 4 n.y.second in
    let yz = read 5 n.y.third in
    let zx = read 6 n.z.first in
    let zy = read 7 n.z.second in
    let zz = read 8 n.z.third in
    λ h. record {
      i = (a ∙ (λ g. turned_coordinate (xx g) (xy g) (xz g) (e g).a (q g).ab (q g).ac p.i p.j p.k)) h;
      j = (b ∙ (λ g. turned_coordinate (yy g) (yx g) (yz g) (e g).b (q g).ba (q g).bc p.j p.i p.k)) h;
      k = (c ∙ (λ g. turned_coordinate (zz g) (zx g) (zy g) (e g).c (q g).ca (q g).cb p.k p.i p.j)) h;
    }

-- ---- places

pub stored_place : (s v : Grid) (p : Triple) (i b j c k : ℕ) → v ≡ s → i ≡ p.i → b ≡ v.b → j ≡ p.j → c ≡ v.c → k ≡ p.k → (i * b + j) * c + k ≡ place_of s p
unfolding place_of
stored_place s v p i b j c k e x y z t u = (λ h. (x h * y h + z h) * t h + u h) ∙ ap (λ w. place_of w p) e

pub stored_point : (s v : Grid) (p c b b2 c2 : ℕ) → v ≡ s → c ≡ v.c → b ≡ v.b → b2 ≡ v.b → c2 ≡ v.c → place_of s (record { i = p / c / b; j = p / c % b2; k = p % c2 }) ≡ p
unfolding place_of
stored_point s v p c b b2 c2 e x y z t =
    let parts : (p / c / b * v.b + p / c % b2) * v.c + p % c2 ≡ (p / v.c / v.b * v.b + p / v.c % v.b) * v.c + p % v.c = λ h. (p / x h / y h * v.b + p / x h % z h) * v.c + p % t h in
    ap (λ (w : Grid). (p / c / b * w.b + p / c % b2) * w.c + p % c2) (sym e) ∙ parts ∙ place_back v.b v.c p

-- ---- the first members keep the grid

pub kept_more : (members : List Operator) (s : Grid) (i : ℕ) (f : Operator) → slice_get members i ≡ Some f → IsKept (take i members) s → IsKeptBy s f → IsKept (take (i + 1) members) s
kept_more members s i f e k h g c =
    let more : take (i + 1) members ≡ take i members ++ f ∷ [] = take_more members i f (slice_get_within members i f e) ∙ ap (λ (x : Operator). take i members ++ x ∷ []) (get_or_from_slice_get members i f f e) in
    ⊎_elim (λ d. k g d) (λ d. ⊎_elim (λ u. subst (IsKeptBy s) u h) (λ n. lists.not_in_nil g n) (lists.Contains-cases g f [] d)) (Contains-append_cases (take i members) (f ∷ []) g (subst (λ xs. Contains xs g) more c))
