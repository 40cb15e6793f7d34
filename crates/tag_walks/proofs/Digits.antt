-- Three digits, each below its width, as one place: (a n + b) m + c. Places keep the order of the digits.
use Rattle.std.proofs.Common.{◌≡◌, ℕ, ◌+◌, ◌*◌, ◌/◌, ◌%◌, ◌<◌, ◌≤◌, ◌⊎◌, suc, inl, inr, ap, ap₂, sym, ◌∙◌, subst, arith, mul-le-mul_right}
use Rattle.std.proofs.lemmas.Bool.{cases_order}
use Rattle.std.proofs.lemmas.Nat.{mul-add-lt, div-add-mod'}
use Rattle.std.proofs.Math.Nat.{mod-lt, div-lt_iff_lt-mul}

pair_less : (m q r q' r' : ℕ) → r < m → q < q' → q * m + r < q' * m + r'
pair_less m q r q' r' h l =
    let up : suc q * m ≤ q' * m = mul-le-mul_right m l in
    omega (arith, up)

pair_same : (m q r q' r' : ℕ) → r < m → r' < m → q * m + r ≡ q' * m + r' → (q ≡ q') × (r ≡ r')
pair_same m q r q' r' h k e =
    let less : q < q' → ⊥ = λ l. let p = pair_less m q r q' r' h l in omega (arith, p, e) in
    let more : q' < q → ⊥ = λ l. let p = pair_less m q' r' q r k l in omega (arith, p, e) in
    let same : q ≡ q' = omega (arith, less, more) in
    (same, omega (arith, e, ap (λ v. v * m) same))

abbrev pub digit_place : ℕ → ℕ → ℕ → ℕ → ℕ → ℕ
digit_place n m a b c = (a * n + b) * m + c

pub place_below : (k n m a b c : ℕ) → a < k → b < n → c < m → digit_place n m a b c < k * n * m
place_below k n m a b c p q r =
    let first : a * n + b < k * n = omega (arith, mul-add-lt a n b k p q) in
    omega (arith, mul-add-lt (a * n + b) m c (k * n) first r)

pub first_less : (n m a b c a' b' c' : ℕ) → b < n → c < m → a < a' → digit_place n m a b c < digit_place n m a' b' c'
first_less n m a b c a' b' c' q r l = pair_less m (a * n + b) c (a' * n + b') c' r (pair_less n a b a' b' q l)

pub second_less : (n m a b c b' c' : ℕ) → c < m → b < b' → digit_place n m a b c < digit_place n m a b' c'
second_less n m a b c b' c' r l = pair_less m (a * n + b) c (a * n + b') c' r (omega (arith, l))

pub third_less : (n m a b c c' : ℕ) → c < c' → digit_place n m a b c < digit_place n m a b c'
third_less n m a b c c' l = omega (arith, l)

pub place_same : (n m a b c a' b' c' : ℕ) → b < n → c < m → b' < n → c' < m → digit_place n m a b c ≡ digit_place n m a' b' c' → (a ≡ a') × (b ≡ b') × (c ≡ c')
place_same n m a b c a' b' c' q r q' r' e =
    let outer = pair_same m (a * n + b) c (a' * n + b') c' r r' e in
    let inner = pair_same n a b a' b' q q' outer.0 in
    (inner.0, inner.1, outer.1)

-- the digits of a place
pub place_back : (n m p : ℕ) → digit_place n m (p / m / n) (p / m % n) (p % m) ≡ p
place_back n m p = ap (λ v. v * m + p % m) (div-add-mod' (p / m) n) ∙ div-add-mod' p m

-- they are below their widths
pub digits_below : (k n m p : ℕ) → 0 < n → 0 < m → p < k * n * m → (p / m / n < k) × (p / m % n < n) × (p % m < m)
digits_below k n m p a b l = ((div-lt_iff_lt-mul a).1 ((div-lt_iff_lt-mul b).1 l), mod-lt (p / m) a, mod-lt p b)

-- opposite digits have opposite places
pub place_opposite : (h k l a b c a' b' c' : ℕ) → a + a' ≡ 2 * h → b + b' ≡ 2 * k → c + c' ≡ 2 * l
    → digit_place (2 * k + 1) (2 * l + 1) a b c + digit_place (2 * k + 1) (2 * l + 1) a' b' c' + 1 ≡ (2 * h + 1) * (2 * k + 1) * (2 * l + 1)
place_opposite h k l a b c a' b' c' p q r =
    let n = 2 * k + 1 in
    let m = 2 * l + 1 in
    joined n m ∙ ap₂ (λ (u v : ℕ). (u * n + v) * m + (c + c') + 1) p q ∙ ap (λ u. (2 * h * n + 2 * k) * m + u + 1) r ∙ last
  where
    joined : (n m : ℕ) → digit_place n m a b c + digit_place n m a' b' c' + 1 ≡ ((a + a') * n + (b + b')) * m + (c + c') + 1
    joined n m = omega arith

    last : (2 * h * (2 * k + 1) + 2 * k) * (2 * l + 1) + 2 * l + 1 ≡ (2 * h + 1) * (2 * k + 1) * (2 * l + 1)
    last = omega arith

-- the lexicographic order of digits, and of places
abbrev pub DigitsBefore : ℕ → ℕ → ℕ → ℕ → ℕ → ℕ → Type 0
DigitsBefore a b c a' b' c' = (a < a') ⊎ ((a ≡ a') × ((b < b') ⊎ ((b ≡ b') × (c < c'))))

pub place_before : (n m a b c a' b' c' : ℕ) → b < n → c < m → DigitsBefore a b c a' b' c' → digit_place n m a b c < digit_place n m a' b' c'
place_before n m a b c a' b' c' q r (inl l) = first_less n m a b c a' b' c' q r l
place_before n m a b c a' b' c' q r (inr (e, inl l)) = subst (λ x. digit_place n m a b c < digit_place n m x b' c') e (second_less n m a b c b' c' r l)
place_before n m a b c a' b' c' q r (inr (e, inr (f, l))) =
    subst (λ x. digit_place n m a b c < digit_place n m x b' c') e (subst (λ y. digit_place n m a b c < digit_place n m a y c') f (third_less n m a b c c' l))

pub before_place : (n m a b c a' b' c' : ℕ) → b < n → c < m → b' < n → c' < m → digit_place n m a b c < digit_place n m a' b' c' → DigitsBefore a b c a' b' c'
before_place n m a b c a' b' c' q r q' r' l = first (cases_order a a')
  where
    back : DigitsBefore a' b' c' a b c → ⊥
    back d = let p = place_before n m a' b' c' a b c q' r' d in omega (arith, l, p)

    third : a ≡ a' → b ≡ b' → (c ≡ c') ⊎ ((c < c') ⊎ (c' < c)) → DigitsBefore a b c a' b' c'
    third e f (inl x) = absurd (let p = ap (λ v. v + c) (ap₂ (λ (u v : ℕ). (u * n + v) * m) e f) in omega (arith, l, p, x))
    third e f (inr (inl x)) = inr (e, inr (f, x))
    third e f (inr (inr x)) = absurd (back (inr (sym e, inr (sym f, x))))

    second : a ≡ a' → (b ≡ b') ⊎ ((b < b') ⊎ (b' < b)) → DigitsBefore a b c a' b' c'
    second e (inl x) = third e x (cases_order c c')
    second e (inr (inl x)) = inr (e, inl x)
    second e (inr (inr x)) = absurd (back (inr (sym e, inl x)))

    first : (a ≡ a') ⊎ ((a < a') ⊎ (a' < a)) → DigitsBefore a b c a' b' c'
    first (inl x) = second x (cases_order b b')
    first (inr (inl x)) = inl x
    first (inr (inr x)) = absurd (back (inl x))
