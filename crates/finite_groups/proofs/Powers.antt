-- The powers of a member of a closed list: one of them above 0, no later than the list is long, is the unit, and the
-- least such power divides the length of the list.
use Rattle.std.proofs.Common.{◌≡◌, ℕ, zero, suc, ◌+◌, ◌*◌, ◌/◌, ◌%◌, ◌<◌, ◌≤◌, ◌⊎◌, inl, inr, ⊎_elim, List, [], ◌∷◌, length, refl, sym, ap, ap₂, ◌∙◌, subst, arith, Contains}
use Rattle.std.specs.List.{IsDistinct, list_any}
use Rattle.std.proofs.lemmas.Bool.{cases_Bool, cases_lt, false≢true}
use Rattle.std.proofs.lemmas.List.Elements.{All-contains}
use Rattle.std.proofs.lemmas.Map.Keys.{IsDistinct-from_apart}
use Rattle.finite_groups.specs.Groups.{Group}
use Rattle.finite_groups.specs.Words.{IsClosedList}
use Rattle.finite_groups.proofs.Basics as basics
use Rattle.finite_groups.proofs.Members as members
use Rattle.finite_groups.proofs.Cosets as cosets

module _ (F : Group) where
  open F use {X, eq, same, In, mul, one, one_in, mul_in, assoc, left, right}

  abbrev pub power : X → ℕ → X
  power x zero = one
  power x (suc k) = mul x (power x k)

  pub power_in : (x : X) (k : ℕ) → In x → In (power x k)
  power_in x zero v = one_in
  power_in x (suc k) v = mul_in x (power x k) v (power_in x k v)

  pub Contains-power : (xs : List X) (x : X) (k : ℕ) → IsClosedList F xs → Contains xs x → Contains xs (power x k)
  Contains-power xs x zero c m = c.has_one
  Contains-power xs x (suc k) c m = c.closed x (power x k) m (Contains-power xs x k c m)

  -- x^m x^k, where n is m + k
  power-add : (x : X) (m k n : ℕ) → In x → n ≡ m + k → power x n ≡ mul (power x m) (power x k)
  power-add x zero k n v e = ap (power x) (let same : n ≡ k = omega arith in same) ∙ sym (left (power x k) (power_in x k v))
  power-add x (suc m) k zero v e = absurd (omega arith)
  power-add x (suc m) k (suc n) v e = ap (mul x) (power-add x m k n v (omega arith)) ∙ sym (assoc x (power x m) (power x k) v (power_in x m v) (power_in x k v))

  -- the powers below x^n
  abbrev powers : X → ℕ → List X
  powers x zero = []
  powers x (suc n) = power x n ∷ powers x n

  length-powers : (x : X) (n : ℕ) → length (powers x n) ≡ n
  length-powers x zero = refl
  length-powers x (suc n) = omega (arith, length-powers x n)

  which_power : (x y : X) (n : ℕ) → Contains (powers x n) y → (j : ℕ) × (j < n) × (power x j ≡ y)
  which_power x y zero c = members.not_in_nil y c
  which_power x y (suc n) c = ⊎_elim (λ e. (n, omega arith, e)) (λ d. let r = which_power x y n d in (r.0, omega (arith, r.1), r.2)) (members.Contains-cases y (power x n) (powers x n) c)

  -- x has a power that is the unit, above 0 and at most n
  abbrev pub Returns : X → ℕ → Type 0
  Returns x n = (k : ℕ) × (0 < k) × (k ≤ n) × (power x k ≡ one)

  returns_later : (x : X) (n : ℕ) → Returns x n → Returns x (suc n)
  returns_later x n r = (r.0, r.1, omega (arith, r.2), r.3)

  -- two equal powers differ by a power that is the unit
  returns_by : (x : X) (j d n : ℕ) → In x → n ≡ j + suc d → power x j ≡ power x n → Returns x n
  returns_by x j d n v s e = (
    suc d,
    omega arith,
    omega arith,
    basics.cancel_left F (power x j) (power x (suc d)) one (power_in x j v) (power_in x (suc d) v) one_in (sym (power-add x j (suc d) n v s) ∙ sym e ∙ sym (right (power x j) (power_in x j v))),
  )

  difference : (j n : ℕ) → j < n → (d : ℕ) × (n ≡ j + suc d)
  difference j zero l = absurd (omega arith)
  difference zero (suc n) l = (n, omega arith)
  difference (suc j) (suc n) l = let r = difference j n (omega arith) in (r.0, omega (arith, r.1))

  returns_or_apart : (x : X) (n : ℕ) → In x → Returns x n ⊎ IsDistinct eq (powers x (suc n))
  returns_or_apart x zero v = inr (members.distinct-cons eq same one [] (λ c. members.not_in_nil one c) (IsDistinct-from_apart eq [] (λ i j e l m. absurd (omega arith))))
  returns_or_apart x (suc n) v = ⊎_elim (λ r. inl (returns_later x n r)) next (returns_or_apart x n v)
    where
      next : IsDistinct eq (powers x (suc n)) → Returns x (suc n) ⊎ IsDistinct eq (powers x (suc (suc n)))
      next d =
          elim (cases_Bool (list_any (eq (power x (suc n))) (powers x (suc n)))) [
            | inl e ↦ inl (
                let r = which_power x (power x (suc n)) (suc n) (members.has_back eq same (power x (suc n)) (powers x (suc n)) e) in
                let b = difference r.0 (suc n) r.1 in
                returns_by x r.0 b.0 (suc n) v b.1 r.2
                )
            | inr e ↦ inr (members.distinct-cons eq same (power x (suc n)) (powers x (suc n)) (λ c. false≢true (sym e ∙ members.has eq same (power x (suc n)) (powers x (suc n)) c)) d)
          ]

  pub returns : (xs : List X) (x : X) → IsClosedList F xs → Contains xs x → Returns x (length xs)
  returns xs x c m = ⊎_elim (λ r. r) (λ d. absurd (too_long d)) (returns_or_apart x (length xs) (All-contains In xs x c.valid m))
    where
      too_long : IsDistinct eq (powers x (suc (length xs))) → ⊥
      too_long d =
          let le : length (powers x (suc (length xs))) ≤ length xs = members.pigeonhole eq same (powers x (suc (length xs))) xs d (λ y h. let r = which_power x y (suc (length xs)) h in subst (λ v. Contains xs v) r.2 (Contains-power xs x r.0 c m)) in
          let long : length (powers x (suc (length xs))) ≡ suc (length xs) = length-powers x (suc (length xs)) in
          omega arith

  -- ---- the order of a member

  -- k is the least power of x above 0 that is the unit
  pub record IsOrder (x : X) (k : ℕ) : Type 0 where
    pub positive : 0 < k
    pub returns : power x k ≡ one
    pub least : (j : ℕ) → 0 < j → power x j ≡ one → k ≤ j

  power-multiple : (x : X) (k q n : ℕ) → In x → power x k ≡ one → n ≡ q * k → power x n ≡ one
  power-multiple x k zero n v e s = ap (power x) (let none : n ≡ 0 = omega arith in none)
  power-multiple x k (suc q) n v e s = power-add x k (q * k) n v (omega arith) ∙ ap (λ y. mul y (power x (q * k))) e ∙ left (power x (q * k)) (power_in x (q * k) v) ∙ power-multiple x k q (q * k) v e refl

  -- where x^k is the unit, x^n and x^r are equal if r is what n leaves
  power-rest : (x : X) (k q r n : ℕ) → In x → power x k ≡ one → n ≡ q * k + r → power x n ≡ power x r
  power-rest x k q r n v e s = power-add x (q * k) r n v s ∙ ap (λ y. mul y (power x r)) (power-multiple x k q (q * k) v e refl) ∙ left (power x r) (power_in x r v)

  quotient : (k n : ℕ) → 0 < k → n ≡ n / k * k + n % k
  quotient k n p = omega arith

  below : (k n : ℕ) → 0 < k → n % k < k
  below k n p = omega arith

  is_power : (x : X) (n j : ℕ) → j < n → Contains (powers x n) (power x j)
  is_power x zero j l = absurd (omega arith)
  is_power x (suc n) j l =
      elim (cases_lt j n) [
        | inl e ↦ members.Contains-later (power x j) (power x n) (powers x n) (is_power x n j e)
        | inr e ↦ subst (λ i. Contains (power x n ∷ powers x n) (power x i)) (let last : n ≡ j = omega arith in last) (members.Contains-here (power x n) (powers x n))
      ]

  -- the powers below the order are distinct
  powers_apart : (x : X) (k : ℕ) → In x → IsOrder x k → IsDistinct eq (powers x k)
  powers_apart x zero v o = absurd (let p : 0 < 0 = o.positive in omega arith)
  powers_apart x (suc n) v o = ⊎_elim (λ r. absurd (let le : suc n ≤ r.0 = o.least r.0 r.1 r.3 in omega (arith, r.2))) (λ d. d) (returns_or_apart x n v)

  -- the order of a member divides the length of the list
  pub order_divides : (xs : List X) (x : X) (k : ℕ) → IsClosedList F xs → Contains xs x → IsOrder x k → (q : ℕ) × (length xs ≡ q * k)
  order_divides xs x k c m o =
      let r = cosets.part_divides F xs (powers x k) c (powers_apart x k v o) one (is_power x k 0 o.positive) inside closed in
      (r.0, r.1 ∙ ap (λ n. r.0 * n) (length-powers x k))
    where
      v : In x
      v = All-contains In xs x c.valid m

      inside : (y : X) → Contains (powers x k) y → Contains xs y
      inside y h = let r = which_power x y k h in subst (λ z. Contains xs z) r.2 (Contains-power xs x r.0 c m)

      closed : (a b : X) → Contains (powers x k) a → Contains (powers x k) b → Contains (powers x k) (mul a b)
      closed a b h i =
          let r = which_power x a k h in
          let s = which_power x b k i in
          let n = r.0 + s.0 in
          subst (λ z. Contains (powers x k) z)
          (sym (power-rest x k (n / k) (n % k) n v o.returns (quotient k n o.positive)) ∙ power-add x r.0 s.0 n v refl ∙ ap₂ mul r.2 s.2)
          (is_power x k (n % k) (below k n o.positive))

  -- where a power above 0 and at most n is the unit, x has an order
  order_or_none : (x : X) (n : ℕ) → (Returns x n → ⊥) ⊎ ((k : ℕ) × IsOrder x k)
  order_or_none x zero = inl (λ r. omega (arith, r.1, r.2))
  order_or_none x (suc n) = ⊎_elim later inr (order_or_none x n)
    where
      later : (Returns x n → ⊥) → (Returns x (suc n) → ⊥) ⊎ ((k : ℕ) × IsOrder x k)
      later none =
          elim (cases_Bool (eq (power x (suc n)) one)) [
            | inl e ↦ inr (
              suc n,
              record {
                positive = omega arith;
                returns = (same (power x (suc n)) one).0 e;
                least = λ j p b. elim (cases_lt n j) [
                  | inl l ↦ omega arith
                  | inr l ↦ absurd (none (j, p, l, b))
                ];
              },
            )
            | inr e ↦ inl (λ r. elim (cases_lt n r.0) [
              | inl l ↦ absurd (false≢true (sym e ∙ (same (power x (suc n)) one).1 (subst (λ i. power x i ≡ one) (let last : r.0 ≡ suc n = omega (arith, r.2) in last) r.3)))
              | inr l ↦ absurd (none (r.0, r.1, l, r.3))
            ])
          ]

  -- each member has an order
  pub some_order : (xs : List X) (x : X) → IsClosedList F xs → Contains xs x → (k : ℕ) × IsOrder x k
  some_order xs x c m = ⊎_elim (λ none. absurd (none (returns xs x c m))) (λ o. o) (order_or_none x (length xs))

  -- a member to the power of the length of the list is the unit
  pub power-length : (xs : List X) (x : X) → IsClosedList F xs → Contains xs x → power x (length xs) ≡ one
  power-length xs x c m =
      let o = some_order xs x c m in
      let r = order_divides xs x o.0 c m o.1 in
      power-multiple x o.0 r.0 (length xs) (All-contains In xs x c.valid m) o.1.returns r.1
