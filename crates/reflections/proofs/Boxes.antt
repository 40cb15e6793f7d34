-- Rows of a box and their places.
use Rattle.std.proofs.Common.{◌≡◌, ℕ, ◌+◌, ◌*◌, ◌-◌, ◌/◌, ◌%◌, ◌<◌, ◌≤◌, ◌⊎◌, inl, inr, ⊎_elim, ap, ap₂, sym, ◌∙◌, subst, arith, ℤ, pos, ◌-ℤ◌, ◌<ℤ◌, neg_ℤ, unsigned_abs, w32, le_trans, List, refl, Ordering, Less, Equal, Greater}
use Rattle.std.specs.Ordering.{int_cmp, MatchOrdering}
use Rattle.std.proofs.lemmas.Cmp.{int_ranked}
use Rattle.std.proofs.lemmas.Int.{ints}
use Rattle.lattice_algebra.proofs.Machine.{back, kept}
use Rattle.phase_rules.specs.Rows.{Row, row_of, neg_row}
use Rattle.phase_rules.proofs.Rows.{row_path, neg_row-neg_row}
use Rattle.reflections.specs.declared.TheConstants.{MAX_HALF, MAX_PLACES}
use Rattle.reflections.specs.Boxes.{Box, IsInBox, IsBoxInRange, ComesBefore, width, places, steps_down, place_of}
use Rattle.tag_walks.proofs.Digits.{digit_place, place_below, first_less, second_less, third_less, place_same, place_opposite, place_back, digits_below}

-- ---- steps down from n

pub steps_within : (n : ℕ) (x : ℤ) → unsigned_abs x ≤ n → steps_down n x < width n
steps_within n x h = omega (arith, ints)

steps_less : (n : ℕ) (x y : ℤ) → unsigned_abs x ≤ n → unsigned_abs y ≤ n → y <ℤ x → steps_down n x < steps_down n y
steps_less n x y h k l = omega (arith, ints)

back_down : (n s : ℕ) → s < width n → (x : ℤ) × (unsigned_abs x ≤ n) × (steps_down n x ≡ s)
back_down n s l = (pos n -ℤ pos s, omega (arith, ints, l), omega (arith, ints))

steps_same : (n : ℕ) (x y : ℤ) → unsigned_abs x ≤ n → unsigned_abs y ≤ n → steps_down n x ≡ steps_down n y → x ≡ y
steps_same n x y h k e = omega (arith, ints)

steps_opposite : (n : ℕ) (x : ℤ) → unsigned_abs x ≤ n → steps_down n x + steps_down n (neg_ℤ x) ≡ 2 * n
steps_opposite n x h = omega (arith, ints)

which_less : (x y : ℤ) → (y <ℤ x) ⊎ ((x ≡ y) ⊎ (x <ℤ y))
which_less x y = by (int_cmp x y) (int_ranked x y (int_cmp x y) refl)
  where
    by : (o : Ordering) → MatchOrdering o (x <ℤ y) (x ≡ y) (y <ℤ x) → (y <ℤ x) ⊎ ((x ≡ y) ⊎ (x <ℤ y))
    by Less m = inr (inr m)
    by Equal m = inr (inl m)
    by Greater m = inl m

-- ---- the order of rows

pub which_first : (g h : Row) → ComesBefore g h ⊎ ((g ≡ h) ⊎ ComesBefore h g)
which_first g h = first (which_less g.h h.h) (which_less g.k h.k) (which_less g.l h.l)
  where
    third : g.h ≡ h.h → g.k ≡ h.k → (h.l <ℤ g.l) ⊎ ((g.l ≡ h.l) ⊎ (g.l <ℤ h.l)) → ComesBefore g h ⊎ ((g ≡ h) ⊎ ComesBefore h g)
    third e f (inl l) = inl (inr (e, inr (f, l)))
    third e f (inr (inl p)) = inr (inl (row_path g h e f p))
    third e f (inr (inr l)) = inr (inr (inr (sym e, inr (sym f, l))))

    second : g.h ≡ h.h → (h.k <ℤ g.k) ⊎ ((g.k ≡ h.k) ⊎ (g.k <ℤ h.k)) → (h.l <ℤ g.l) ⊎ ((g.l ≡ h.l) ⊎ (g.l <ℤ h.l)) → ComesBefore g h ⊎ ((g ≡ h) ⊎ ComesBefore h g)
    second e (inl l) c = inl (inr (e, inl l))
    second e (inr (inl f)) c = third e f c
    second e (inr (inr l)) c = inr (inr (inr (sym e, inl l)))

    first : (h.h <ℤ g.h) ⊎ ((g.h ≡ h.h) ⊎ (g.h <ℤ h.h)) → (h.k <ℤ g.k) ⊎ ((g.k ≡ h.k) ⊎ (g.k <ℤ h.k)) → (h.l <ℤ g.l) ⊎ ((g.l ≡ h.l) ⊎ (g.l <ℤ h.l)) → ComesBefore g h ⊎ ((g ≡ h) ⊎ ComesBefore h g)
    first (inl l) b c = inl (inl l)
    first (inr (inl e)) b c = second e b c
    first (inr (inr l)) b c = inr (inr (inl l))

-- ---- places

module _ (b : Box) where
  pub place_within : (r : Row) → IsInBox b r → place_of b r < places b
  unfolding place_of
  place_within r i = place_below (width b.h) (width b.k) (width b.l) _ _ _ (steps_within b.h r.h i.h) (steps_within b.k r.k i.k) (steps_within b.l r.l i.l)

  pub same_row : (g h : Row) → IsInBox b g → IsInBox b h → place_of b g ≡ place_of b h → g ≡ h
  unfolding place_of
  same_row g h i j e =
      let d = place_same (width b.k) (width b.l) (steps_down b.h g.h) (steps_down b.k g.k) (steps_down b.l g.l) (steps_down b.h h.h) (steps_down b.k h.k) (steps_down b.l h.l) (steps_within b.k g.k i.k) (steps_within b.l g.l i.l) (steps_within b.k h.k j.k) (steps_within b.l h.l j.l) e in
      row_path g h (steps_same b.h g.h h.h i.h j.h d.0) (steps_same b.k g.k h.k i.k j.k d.1) (steps_same b.l g.l h.l i.l j.l d.2)

  -- places keep the order
  pub place_before : (g h : Row) → IsInBox b g → IsInBox b h → ComesBefore g h → place_of b g < place_of b h
  unfolding place_of
  place_before g h i j (inl p) = first_less (width b.k) (width b.l) _ _ _ _ _ _ (steps_within b.k g.k i.k) (steps_within b.l g.l i.l) (steps_less b.h g.h h.h i.h j.h p)
  place_before g h i j (inr (e, inl p)) =
      subst (λ x. digit_place (width b.k) (width b.l) (steps_down b.h g.h) (steps_down b.k g.k) (steps_down b.l g.l) < digit_place (width b.k) (width b.l) (steps_down b.h x) (steps_down b.k h.k) (steps_down b.l h.l)) e
      (second_less (width b.k) (width b.l) _ _ _ _ _ (steps_within b.l g.l i.l) (steps_less b.k g.k h.k i.k j.k p))
  place_before g h i j (inr (e, inr (f, p))) =
      subst (λ x. digit_place (width b.k) (width b.l) (steps_down b.h g.h) (steps_down b.k g.k) (steps_down b.l g.l) < digit_place (width b.k) (width b.l) (steps_down b.h x) (steps_down b.k h.k) (steps_down b.l h.l)) e
      (subst (λ x. digit_place (width b.k) (width b.l) (steps_down b.h g.h) (steps_down b.k g.k) (steps_down b.l g.l) < digit_place (width b.k) (width b.l) (steps_down b.h g.h) (steps_down b.k x) (steps_down b.l h.l)) f
      (third_less (width b.k) (width b.l) _ _ _ _ (steps_less b.l g.l h.l i.l j.l p)))

  pub before_place : (g h : Row) → IsInBox b g → IsInBox b h → place_of b g < place_of b h → ComesBefore g h
  before_place g h i j l = ⊎_elim (λ p. p) (λ r. ⊎_elim (λ e. let q : place_of b g ≡ place_of b h = ap (place_of b) e in absurd (omega (arith, l, q))) (λ p. let q = place_before h g j i p in absurd (omega (arith, l, q))) r) (which_first g h)

  -- the row at a place
  pub row_at : (p : ℕ) → p < places b → (r : Row) × IsInBox b r × (place_of b r ≡ p)
  unfolding place_of
  row_at p l =
      let d = digits_below (width b.h) (width b.k) (width b.l) p (omega arith) (omega arith) l in
      let x = back_down b.h _ d.0 in
      let y = back_down b.k _ d.1 in
      let z = back_down b.l _ d.2 in
      (record { h = x.0; k = y.0; l = z.0 }, record { h = x.1; k = y.1; l = z.1 }, digits_to (width b.k) (width b.l) p _ _ _ x.2 y.2 z.2)
    where
      digits_to : (n m p x y z : ℕ) → x ≡ p / m / n → y ≡ p / m % n → z ≡ p % m → digit_place n m x y z ≡ p
      digits_to n m p x y z e f g = (λ h. (e h * n + f h) * m + g h) ∙ place_back n m p

  size_opposite : (x : ℤ) (n : ℕ) → unsigned_abs x ≤ n → unsigned_abs (neg_ℤ x) ≤ n
  size_opposite x n h = omega (arith, ints)

  pub opposite_in : (r : Row) → IsInBox b r → IsInBox b (neg_row r)
  unfolding neg_row
  opposite_in r i = record { h = size_opposite r.h b.h i.h; k = size_opposite r.k b.k i.k; l = size_opposite r.l b.l i.l }

  pub opposite_back : (r : Row) → IsInBox b (neg_row r) → IsInBox b r
  opposite_back r i = subst (IsInBox b) (neg_row-neg_row r) (opposite_in (neg_row r) i)

  pub opposite_place : (r : Row) (p n : ℕ) → IsInBox b r → place_of b r ≡ p → n ≡ places b → n - 1 - p ≡ place_of b (neg_row r)
  unfolding place_of neg_row
  opposite_place r p n i e f =
      let s = place_opposite b.h b.k b.l _ _ _ _ _ _ (steps_opposite b.h r.h i.h) (steps_opposite b.k r.k i.k) (steps_opposite b.l r.l i.l) in
      taken_off _ _ p n (places b) s e f
    where
      taken_off : (u v q m t : ℕ) → u + v + 1 ≡ t → u ≡ q → m ≡ t → m - 1 - q ≡ v
      taken_off u v q m t s e f = omega arith

-- ---- what the machine computes

half_back : (b : ℕ) (x : ℤ) → b ≤ MAX_HALF → unsigned_abs x ≤ b → back w32 x ≡ x
half_back b x l h = kept w32 MAX_HALF x (le_trans h l) tt

pub stored_place : (b v : Box) (row : List ℤ) (a n c m d : ℕ) → v ≡ b → IsBoxInRange v → IsInBox b (row_of row)
    → a ≡ steps_down v.h (back w32 (row_of row).h) → n ≡ width v.k → c ≡ steps_down v.k (back w32 (row_of row).k) → m ≡ width v.l → d ≡ steps_down v.l (back w32 (row_of row).l)
    → (a * n + c) * m + d ≡ place_of b (row_of row)
unfolding place_of
stored_place b v row a n c m d e g i p q s t u =
    let j : IsInBox v (row_of row) = subst (λ x. IsInBox x (row_of row)) (sym e) i in
    let x : a ≡ steps_down v.h (row_of row).h = p ∙ ap (steps_down v.h) (half_back v.h _ g.h j.h) in
    let y : c ≡ steps_down v.k (row_of row).k = s ∙ ap (steps_down v.k) (half_back v.k _ g.k j.k) in
    let z : d ≡ steps_down v.l (row_of row).l = u ∙ ap (steps_down v.l) (half_back v.l _ g.l j.l) in
    digits_are x q y t z ∙ ap (λ w. place_of w (row_of row)) e
  where
    digits_are : {a n c m d a' n' c' m' d' : ℕ} → a ≡ a' → n ≡ n' → c ≡ c' → m ≡ m' → d ≡ d' → (a * n + c) * m + d ≡ (a' * n' + c') * m' + d'
    digits_are p q s t u = λ k. (p k * q k + s k) * t k + u k

pub stored_within : (b v : Box) (row : List ℤ) (p : ℕ) → v ≡ b → IsInBox b (row_of row) → p ≡ place_of b (row_of row) → p < places b
stored_within b v row p e i q = subst (λ n. n < places b) (sym q) (place_within b (row_of row) i)

pub stored_fits : (b v : Box) (p : ℕ) → v ≡ b → IsBoxInRange v → p < places b → p < MAX_PLACES
stored_fits b v p e g l = let few = subst (λ x. places x ≤ MAX_PLACES) e g.few in omega (arith, l, few)

pub stored_index : (b v : Box) (x y z : ℤ) (p n m n2 m2 : ℕ) → v ≡ b → IsBoxInRange v → unsigned_abs x ≤ v.h → unsigned_abs y ≤ v.k → unsigned_abs z ≤ v.l
    → m ≡ width v.l → n ≡ width v.k → n2 ≡ width v.k → m2 ≡ width v.l
    → steps_down v.h x ≡ p / m / n → steps_down v.k y ≡ p / m % n2 → steps_down v.l z ≡ p % m2
    → place_of b (record { h = back w32 x; k = back w32 y; l = back w32 z }) ≡ p
unfolding place_of
stored_index b v x y z p n m n2 m2 e g i j k f h f2 h2 q s t =
    let row : Row = record { h = x; k = y; l = z } in
    let kept_row : record { h = back w32 x; k = back w32 y; l = back w32 z } ≡ row = row_path _ row (half_back v.h x g.h i) (half_back v.k y g.k j) (half_back v.l z g.l k) in
    let a : steps_down v.h x ≡ p / width v.l / width v.k = q ∙ ap₂ (λ (u w : ℕ). p / u / w) f h in
    let c : steps_down v.k y ≡ p / width v.l % width v.k = s ∙ ap₂ (λ (u w : ℕ). p / u % w) f f2 in
    let d : steps_down v.l z ≡ p % width v.l = t ∙ ap (λ (u : ℕ). p % u) h2 in
    ap₂ place_of (sym e) kept_row ∙ digits_same (width v.k) (width v.l) _ _ _ _ _ _ a c d ∙ place_back (width v.k) (width v.l) p
  where
    digits_same : (n m a c d a' c' d' : ℕ) → a ≡ a' → c ≡ c' → d ≡ d' → digit_place n m a c d ≡ digit_place n m a' c' d'
    digits_same n m a c d a' c' d' p q s = ap₂ (λ (u w : ℕ). (u * n + w) * m + d) p q ∙ ap (λ u. digit_place n m a' c' u) s
