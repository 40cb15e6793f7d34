-- Keys: two averages have one key exactly where an element carries the image of one onto that of the other.
use Rattle.std.proofs.Common.{◌≡◌, ◌++◌, ◌∷◌, [], ℕ, ◌*◌, ◌<◌, inl, inr, ⊎_elim, ◌↔◌, List, ℤ, pos, ◌*ℤ◌, ap, ap₂, sym, ◌∙◌, refl}
use Rattle.lattice_algebra.specs.Matrix.{Matrix, Column, entries, coordinates, ◌·◌, ◌·ᶜ◌, ◌+ᶜ◌, neg_column, times, scaled, origin, det, adjugate, matrix_of, column_of}
use Rattle.lattice_algebra.specs.Map.{Map, ◌∘◌, undo}
use Rattle.lattice_algebra.proofs.Ring.{var, con, ◌⊗◌}
use Rattle.lattice_algebra.proofs.MatrixRing.{SymColumn, matrix_at, column_at, ◌·ˢ◌, ◌·ˢᶜ◌, ◌+ˢᶜ◌, sym_times, sym_neg, sym_identity, sym_origin, column_ring}
use Rattle.lattice_algebra.proofs.Remainders.{modulo_is, modulo_same}
use Rattle.lattice_algebra.proofs.Maps.{map_path}
use Rattle.lattice_algebra.proofs.Numbers.{above, positive_product}
use Rattle.lattice_algebra.proofs.Columns.{cancel_column, difference}
use Rattle.finite_groups.proofs.Keys as first
use Rattle.space_groups.specs.Space.{IsElement, ScaledPoint, moved}
use Rattle.space_groups.specs.Averages.{Block, block_of, block_times, block_scaled, IsInImage}
use Rattle.space_groups.specs.Regions.{shift_by}
use Rattle.space_groups.specs.Keys.{carried, Key, key_of, IsBelow, ComesBefore, IsKey}
use Rattle.space_groups.proofs.BlockRing.{SymBlock, Values, block_at, ◌·ˢᵇ◌, block_value, block_ring}
use Rattle.space_groups.proofs.Blocks.{block_path, translation_part}
use Rattle.space_groups.proofs.Elements.{SpaceGroup, space}
use Rattle.space_groups.proofs.Means as means
use Rattle.space_groups.proofs.Means.{Averaged}
use Rattle.space_groups.proofs.Carried.{carried-∘, carried-number, on_blocks, image_along, carried_idempotent, IsOwn, carried_same}
use Rattle.space_groups.proofs.Regions.{shift_in}
use Rattle.space_groups.proofs.Ordered.{which_below}

-- ---- the order

same_lists : (xs ys : List ℤ) → (IsBelow xs ys → ⊥) → (IsBelow ys xs → ⊥) → xs ≡ ys
same_lists xs ys p q = ⊎_elim (λ b. absurd (p b)) (λ r. ⊎_elim (λ e. e) (λ b. absurd (q b)) r) (which_below xs ys)

pub same_entries : (m n : Matrix) → entries m ≡ entries n → m ≡ n
same_entries m n e = ap matrix_of e

pub same_coordinates : (c d : Column) → coordinates c ≡ coordinates d → c ≡ d
same_coordinates c d e = ap column_of e

pub one_of : (p q : Key) → (ComesBefore p q → ⊥) → (ComesBefore q p → ⊥) → p ≡ q
one_of p q f g =
    let m = same_entries p.m q.m (same_lists _ _ (λ l. g (inl l)) (λ l. f (inl l))) in
    let t = same_coordinates p.t q.t (same_lists _ _ (λ l. f (inr (m, l))) (λ l. g (inr (sym m, l)))) in
    λ i. record { m = m i; t = t i }

pub key_path : (p q : Key) → p.m ≡ q.m → p.t ≡ q.t → p ≡ q
key_path p q e f = λ i. record { m = e i; t = f i }

-- ---- what an element makes of a translation

-- blocks with one key have translations that differ by whole numbers
shift_between : (unit n : ℕ) → 0 < unit * n → (a b : Block) → key_of unit n a ≡ key_of unit n b → (k : Column) × (b.t ≡ a.t +ᶜ times (pos (unit * n)) k)
unfolding key_of
shift_between unit n h a b e =
    let i = modulo_is (unit * n) h a.t in
    let j = modulo_is (unit * n) h b.t in
    (i.0 +ᶜ neg_column j.0, difference b.t a.t j.0 i.0 (pos (unit * n)) (sym (sym i.1 ∙ ap (λ (v : Key). v.t) e ∙ j.1)))

rest_form : (w m : Matrix) (t s v k : Column) (n u : ℤ) → (w · m) ·ᶜ v +ᶜ times (pos 1) (w ·ᶜ (t +ᶜ times u k) +ᶜ times n s) ≡ (w · m) ·ᶜ v +ᶜ times (pos 1) (w ·ᶜ t +ᶜ times n s) +ᶜ times u (w ·ᶜ k)
unfolding ◌·◌ ◌·ᶜ◌ ◌+ᶜ◌ times
rest_form w m t s v k n u =
    let N = var 0 in
    let U = var 1 in
    let W = matrix_at 2 in
    let M = matrix_at 11 in
    let T = column_at 20 in
    let S = column_at 23 in
    let V = column_at 26 in
    let K = column_at 29 in
    let one = con (pos 1) in
    column_ring (n ∷ u ∷ (entries w ++ (entries m ++ (coordinates t ++ (coordinates s ++ (coordinates v ++ coordinates k))))))
    ((W ·ˢ M) ·ˢᶜ V +ˢᶜ sym_times one (W ·ˢᶜ (T +ˢᶜ sym_times U K) +ˢᶜ sym_times N S))
    ((W ·ˢ M) ·ˢᶜ V +ˢᶜ sym_times one (W ·ˢᶜ T +ˢᶜ sym_times N S) +ˢᶜ sym_times U (W ·ˢᶜ K))
    tt

-- so do those of the conjugates
pub carried_rest : (unit n : ℕ) → 0 < unit * n → (g : Map) (a b : Block) → a.n ≡ b.n → key_of unit n a ≡ key_of unit n b → key_of unit n (carried g a) ≡ key_of unit n (carried g b)
unfolding key_of carried block_times block_of
carried_rest unit n h g a b number e =
    let k = shift_between unit n h a b e in
    let m : a.m ≡ b.m = ap (λ (p : Key). p.m) e in
    let v = undo g in
    let split : b ≡ record { m = a.m; t = a.t +ᶜ times (pos (unit * n)) k.0; n = a.n } = block_path _ _ (sym m) k.1 (sym number) in
    sym (ap (λ c. key_of unit n (carried g c)) split ∙ key_path _ _ refl (modulo_same (unit * n) h _ _ (g.w ·ᶜ k.0) (rest_form g.w a.m a.t g.s v.s k.0 a.n (pos (unit * n)))))

-- ---- what a whole shift makes of an average

undo_shift : (unit : ℕ) (k : Column) → undo (shift_by unit k) ≡ shift_by unit (neg_column k)
unfolding undo det adjugate scaled neg_column ◌·ᶜ◌ times
undo_shift unit k = map_path _ _ refl (column_ring (pos unit ∷ coordinates k) (sym_neg (sym_identity ·ˢᶜ sym_times (var 0) (column_at 1))) (sym_times (var 0) (sym_neg (column_at 1))) tt)

-- t + u n k - u M k
unfoldable pub shifted_block : ℤ → Column → Block → Block
shifted_block u k a = record { m = a.m; t = a.t +ᶜ (times (u *ℤ a.n) k +ᶜ neg_column (times u (a.m ·ᶜ k))); n = a.n }

pub carried_shift : (unit : ℕ) (k : Column) (a : Block) → carried (shift_by unit k) a ≡ shifted_block (pos unit) k a
unfolding carried shifted_block block_value neg_column
carried_shift unit k a =
    let U = var 0 in
    let A = block_at 1 in
    let K = column_at 14 in
    let shift : SymColumn → SymBlock = λ c. record { m = sym_identity; t = sym_times U c; n = con (pos 1) } in
    ap (λ h. block_times (block_times (block_of (shift_by unit k)) a) (block_of h)) (undo_shift unit k)
    ∙ block_ring (pos unit ∷ (Values a ++ coordinates k)) (shift K ·ˢᵇ A ·ˢᵇ shift (sym_neg K)) (record { m = A.m; t = A.t +ˢᶜ (sym_times (U ⊗ A.n) K +ˢᶜ sym_neg (sym_times U (A.m ·ˢᶜ K))); n = A.n }) tt

spread : (m : Matrix) (t j : Column) (u : ℤ) → times u (m ·ᶜ j) ≡ m ·ᶜ (t +ᶜ times u j) +ᶜ neg_column (m ·ᶜ t)
unfolding ◌·ᶜ◌ ◌+ᶜ◌ times neg_column
spread m t j u =
    let M = matrix_at 1 in
    let T = column_at 10 in
    let J = column_at 13 in
    column_ring (u ∷ (entries m ++ (coordinates t ++ coordinates j))) (sym_times (var 0) (M ·ˢᶜ J)) (M ·ˢᶜ (T +ˢᶜ sym_times (var 0) J) +ˢᶜ sym_neg (M ·ˢᶜ T)) tt

no_change : (u : ℤ) → origin +ᶜ neg_column origin ≡ times u origin
unfolding ◌+ᶜ◌ times neg_column
no_change u = column_ring (u ∷ []) (sym_origin +ˢᶜ sym_neg sym_origin) (sym_times (var 0) sym_origin) tt

add_nothing : (t k : Column) (u : ℤ) → t +ᶜ (k +ᶜ neg_column (times u origin)) ≡ t +ᶜ k
unfolding ◌+ᶜ◌ times neg_column
add_nothing t k u = column_ring (u ∷ (coordinates t ++ coordinates k)) (column_at 1 +ˢᶜ (column_at 4 +ˢᶜ sym_neg (sym_times (var 0) sym_origin))) (column_at 1 +ˢᶜ column_at 4) tt

-- idempotent blocks that agree but for whole numbers are carried onto each other by a whole shift
pub same_by_shift : (unit n : ℕ) → 0 < unit → 0 < n → (a b : Block) → a.n ≡ pos n → b.n ≡ pos n → block_times a a ≡ block_scaled a.n a → block_times b b ≡ block_scaled b.n b → key_of unit n a ≡ key_of unit n b → (k : Column) × (carried (shift_by unit k) a ≡ b)
unfolding key_of shifted_block
same_by_shift unit n hu hn a b p q two two' e =
    let h = positive_product unit n hu hn in
    let un : ℤ = pos (unit * n) in
    let m : a.m ≡ b.m = ap (λ (v : Key). v.m) e in
    let between = shift_between unit n h a b e in
    let k : Column = between.0 in
    let t : b.t ≡ a.t +ᶜ times un k = between.1 in
    let there : a.m ·ᶜ (a.t +ᶜ times un k) ≡ origin = ap₂ (λ x y. x ·ᶜ y) m (sym t) ∙ translation_part b two' in
    let none : a.m ·ᶜ k ≡ origin = cancel_column un _ _ (above (unit * n) h) (spread a.m a.t k un ∙ ap₂ (λ x y. x +ᶜ neg_column y) there (translation_part a two) ∙ no_change un) in (
      k,
      carried_shift unit k a ∙ block_path _ _ m (ap₂ (λ x y. a.t +ᶜ (times (pos unit *ℤ x) k +ᶜ neg_column (times (pos unit) y))) p none ∙ add_nothing a.t (times un k) (pos unit) ∙ sym t) (p ∙ sym q),
    )

-- ---- averages with one key

module _ (L : SpaceGroup) where
  open L use {unit, some, members, closed}

  module _ (n : ℕ) (n_some : 0 < n) where
    same_key : (a b : Block) (p p' : Key) → a.n ≡ pos n → b.n ≡ pos n → IsKey unit members n a p → IsKey unit members n b p' → (p ≡ p') ↔ ((g : Map) × IsElement unit members g × (key_of unit n (carried g a) ≡ key_of unit n b))
    same_key a b p p' x y f h =
        first.same_key ComesBefore one_of (space L) (on_blocks L) (λ c. c.n ≡ pos n) (λ g c e. carried-number g c ∙ e) (key_of unit n)
        (λ g c d _ e e'. carried_rest unit n (positive_product unit n some n_some) g c d (e ∙ sym e')) a b p p' x y
        (record { by = f.by; element = f.element; gives = f.gives; first = f.first }) (record { by = h.by; element = h.element; gives = h.gives; first = h.first })

    same_rest_same_image : (a b : Block) → a.n ≡ pos n → b.n ≡ pos n → block_times a a ≡ block_scaled a.n a → block_times b b ≡ block_scaled b.n b → (g : Map) → IsElement unit members g → key_of unit n (carried g a) ≡ key_of unit n b
        → (h : Map) × IsElement unit members h × ((y : ScaledPoint) → IsInImage a y ↔ IsInImage b (moved h y))
    same_rest_same_image a b x y two two' g m e =
        let s = same_by_shift unit n some n_some (carried g a) b (carried-number g a ∙ x) y (carried_idempotent L g a m two) two' e in
        let h : Map = shift_by unit s.0 in
        let i : IsElement unit members h = shift_in L s.0 in
        let j : IsElement unit members (h ∘ g) = (space L).mul_in h g i m in
        (h ∘ g, j, image_along L (h ∘ g) a b j (carried-∘ L h g a i m ∙ s.1))

  -- averages of all that fixes their images have one key exactly where an element carries the image of one onto that of the other
  pub same_key_same_image : {n : ℕ} (v w : Averaged L n) (p q : Key) → IsOwn L v → IsOwn L w → IsKey unit members n v.average p → IsKey unit members n w.average q
      → (p ≡ q) ↔ ((g : Map) × IsElement unit members g × ((y : ScaledPoint) → IsInImage v.average y ↔ IsInImage w.average (moved g y)))
  same_key_same_image {n} v w p q own own' f h =
      let a = v.average in
      let b = w.average in
      let k = same_key n v.some a b p q (means.number v) (means.number w) f h in (
        (λ e. same_rest_same_image n v.some a b (means.number v) (means.number w) (means.idempotent_itself v) (means.idempotent_itself w) (k.0 e).0 (k.0 e).1 (k.0 e).2),
        (λ r. k.1 (r.0, r.1, ap (key_of unit n) (carried_same L v w own own' r.0 r.1 r.2))),
      )
