-- Finite lists: of all columns and matrices of numbers of bounded size, of what a function gives at each member, and the first of a list in an order.
use Rattle.std.proofs.Common.{◌≡◌, ◌∷◌, [], ◌⊎◌, inl, inr, ⊎_elim, ℕ, zero, suc, ◌≤◌, ℤ, pos, negsuc, unsigned_abs, List, Contains, map, sym, subst, arith}
use Rattle.std.specs.List.{flat_map}
use Rattle.std.proofs.lemmas.Int.{ints}
use Rattle.std.proofs.lemmas.Bool.{cases_lt}
use Rattle.std.proofs.lemmas.List.Elements.{Contains-append_left, Contains-append_right, Contains-append_cases}
use Rattle.lattice_algebra.specs.Matrix.{Matrix, Column}
use Rattle.lattice_algebra.specs.Operator.{AreWithin, HasEntriesWithin}
use Rattle.finite_groups.proofs.Members as lists

-- ---- what can be decided

-- both, or not both
pub both : {P Q R : Type 0} → (P → Q → R) → (R → P × Q) → P ⊎ (P → ⊥) → Q ⊎ (Q → ⊥) → R ⊎ (R → ⊥)
both make parts (inl p) (inl q) = inl (make p q)
both make parts (inl p) (inr n) = inr (λ r. n (parts r).1)
both make parts (inr n) q = inr (λ r. n (parts r).0)

-- ---- lists of lists

pub Contains-flat_map : {X A : Type 0} (f : X → List A) (xs : List X) (x : X) (a : A) → Contains xs x → Contains (f x) a → Contains (flat_map f xs) a
Contains-flat_map f [] x a c d = lists.not_in_nil x c
Contains-flat_map f (y ∷ ys) x a c d =
    ⊎_elim
    (λ e. Contains-append_left (f y) (flat_map f ys) a (subst (λ v. Contains (f v) a) (sym e) d))
    (λ r. Contains-append_right (f y) (flat_map f ys) a (Contains-flat_map f ys x a r d))
    (lists.Contains-cases x y ys c)

pub Contains-from_flat_map : {X A : Type 0} (f : X → List A) (xs : List X) (a : A) → Contains (flat_map f xs) a → (x : X) × Contains xs x × Contains (f x) a
Contains-from_flat_map f [] a c = lists.not_in_nil a c
Contains-from_flat_map {X} f (y ∷ ys) a c =
    ⊎_elim
    (λ d. (y, lists.Contains-here y ys, d))
    (λ d. let r : (x : X) × Contains ys x × Contains (f x) a = Contains-from_flat_map f ys a d in (r.0, lists.Contains-later r.0 y ys r.1, r.2))
    (Contains-append_cases (f y) (flat_map f ys) a c)

-- where each of xs gives some a with G, or is none of those with P: a list of such a for all of xs with P
pub gathered : {X A : Type 0} (P : X → Type 0) (G : X → A → Type 0) → ((x : X) → ((a : A) × G x a) ⊎ (P x → ⊥)) → (xs : List X) → (found : List A) × ((x : X) → Contains xs x → P x → (a : A) × Contains found a × G x a)
gathered P G which [] = ([], λ x c p. lists.not_in_nil x c)
gathered {X} {A} P G which (x ∷ xs) = by (which x) (gathered P G which xs)
  where
    AreGathered : List X → Type 0
    AreGathered ys = (found : List A) × ((y : X) → Contains ys y → P y → (a : A) × Contains found a × G y a)

    by : ((a : A) × G x a) ⊎ (P x → ⊥) → AreGathered xs → AreGathered (x ∷ xs)
    by (inl r) s = (
      r.0 ∷ s.0,
      λ y c p. ⊎_elim
          (λ e. (r.0, lists.Contains-here r.0 s.0, subst (λ v. G v r.0) e r.1))
          (λ d. let q = s.1 y d p in (q.0, lists.Contains-later q.0 r.0 s.0 q.1, q.2))
          (lists.Contains-cases y x xs c),
    )
    by (inr n) s = (s.0, λ y c p. ⊎_elim (λ e. absurd (n (subst P (sym e) p))) (λ d. s.1 y d p) (lists.Contains-cases y x xs c))

-- ---- columns and matrices of numbers of size at most n

abbrev numbers_within : ℕ → List ℤ
numbers_within zero = pos 0 ∷ []
numbers_within (suc n) = pos (suc n) ∷ negsuc n ∷ numbers_within n

number_within : (n : ℕ) (z : ℤ) → unsigned_abs z ≤ n → Contains (numbers_within n) z
number_within zero z l = let e : pos 0 ≡ z = omega (arith, ints) in subst (Contains (pos 0 ∷ [])) e (lists.Contains-here (pos 0) [])
number_within (suc n) z l =
    ⊎_elim
    (λ m. ⊎_elim
    (λ e. subst (Contains (numbers_within (suc n))) e (lists.Contains-here (pos (suc n)) (negsuc n ∷ numbers_within n)))
    (λ e. subst (Contains (numbers_within (suc n))) e (lists.Contains-later (negsuc n) (pos (suc n)) (negsuc n ∷ numbers_within n) (lists.Contains-here (negsuc n) (numbers_within n))))
    (of_size n z (omega arith)))
    (λ m. lists.Contains-later z (pos (suc n)) (negsuc n ∷ numbers_within n) (lists.Contains-later z (negsuc n) (numbers_within n) (number_within n z m)))
    (cases_lt n (unsigned_abs z))
  where
    of_size : (n : ℕ) (z : ℤ) → unsigned_abs z ≡ suc n → (pos (suc n) ≡ z) ⊎ (negsuc n ≡ z)
    of_size n (pos k) e = inl (omega (arith, ints))
    of_size n (negsuc k) e = inr (omega (arith, ints))

abbrev pub columns_within : ℕ → List Column
columns_within n = let ks = numbers_within n in flat_map (λ x. flat_map (λ y. map (λ z. record { x = x; y = y; z = z }) ks) ks) ks

pub column_within : (n : ℕ) (c : Column) → AreWithin n c.x c.y c.z → Contains (columns_within n) c
column_within n c p =
    let ks = numbers_within n in
    Contains-flat_map (λ x. flat_map (λ y. map (λ z. record { x = x; y = y; z = z }) ks) ks) ks c.x c (number_within n c.x p.first)
    (Contains-flat_map (λ y. map (λ z. record { x = c.x; y = y; z = z }) ks) ks c.y c (number_within n c.y p.second)
    (lists.Contains-map (λ z. record { x = c.x; y = c.y; z = z }) c.z ks (number_within n c.z p.third)))

-- the matrix of three rows
abbrev of_rows : Column → Column → Column → Matrix
of_rows a b c = record { xx = a.x; xy = a.y; xz = a.z; yx = b.x; yy = b.y; yz = b.z; zx = c.x; zy = c.y; zz = c.z }

abbrev pub matrices_within : ℕ → List Matrix
matrices_within n = let rs = columns_within n in flat_map (λ a. flat_map (λ b. map (of_rows a b) rs) rs) rs

pub matrix_within : (n : ℕ) (m : Matrix) → HasEntriesWithin n m → Contains (matrices_within n) m
matrix_within n m p =
    let rs = columns_within n in
    let a : Column = record { x = m.xx; y = m.xy; z = m.xz } in
    let b : Column = record { x = m.yx; y = m.yy; z = m.yz } in
    let c : Column = record { x = m.zx; y = m.zy; z = m.zz } in
    Contains-flat_map (λ a. flat_map (λ b. map (of_rows a b) rs) rs) rs a m (column_within n a p.x)
    (Contains-flat_map (λ b. map (of_rows a b) rs) rs b m (column_within n b p.y) (lists.Contains-map (of_rows a b) c rs (column_within n c p.z)))

-- ---- the first in an order

-- p is in the list, and none of the list comes before it
pub record IsFirstOf {X : Type 0} (Before : X → X → Type 0) (xs : List X) (p : X) : Type 0 where
  pub listed : Contains xs p
  pub first : (x : X) → Contains xs x → Before x p → ⊥

module _ {X : Type 0} (Before : X → X → Type 0) (never : (x : X) → Before x x → ⊥) (on : (x y z : X) → Before x y → Before y z → Before x z) (which : (x y : X) → Before x y ⊎ ((x ≡ y) ⊎ Before y x)) where
  some_first : (x : X) (xs : List X) → (p : X) × IsFirstOf Before (x ∷ xs) p
  some_first x [] = (x, record { listed = lists.Contains-here x []; first = λ y c b. ⊎_elim (λ e. never x (subst (λ v. Before v x) (sym e) b)) (λ d. lists.not_in_nil y d) (lists.Contains-cases y x [] c) })
  some_first x (y ∷ ys) = by (some_first y ys)
    where
      by : (p : X) × IsFirstOf Before (y ∷ ys) p → (p : X) × IsFirstOf Before (x ∷ y ∷ ys) p
      by r = decide (which x r.0)
        where
          decide : Before x r.0 ⊎ ((x ≡ r.0) ⊎ Before r.0 x) → (p : X) × IsFirstOf Before (x ∷ y ∷ ys) p
          decide (inl b) = (x, record { listed = lists.Contains-here x (y ∷ ys); first = λ z c d. ⊎_elim (λ e. never x (subst (λ v. Before v x) (sym e) d)) (λ m. r.1.first z m (on z x r.0 d b)) (lists.Contains-cases z x (y ∷ ys) c) })
          decide (inr o) = (r.0, record { listed = lists.Contains-later r.0 x (y ∷ ys) r.1.listed; first = λ z c d. ⊎_elim (λ e. absurd (not_before o (subst (λ v. Before v r.0) (sym e) d))) (λ m. r.1.first z m d) (lists.Contains-cases z x (y ∷ ys) c) })
            where
              not_before : (x ≡ r.0) ⊎ Before r.0 x → Before x r.0 → ⊥
              not_before q b = ⊎_elim (λ e. never x (subst (Before x) (sym e) b)) (λ l. never x (on x r.0 x b l)) q

  pub first_listed : (xs : List X) (x : X) → Contains xs x → (p : X) × IsFirstOf Before xs p
  first_listed [] x c = lists.not_in_nil x c
  first_listed (y ∷ ys) x c = some_first y ys
