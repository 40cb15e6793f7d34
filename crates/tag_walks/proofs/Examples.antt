-- Worked examples: the definitions for the numbers 0, 1 and 2, equivalent where both are even or both odd; nothing cites these.
use Rattle.std.proofs.Common.{◌≡◌, ◌≢◌, ◌<◌, ◌≤◌, ◌%◌, ◌↔◌, ℕ, zero, suc, Bool, true, false, List, [], ◌∷◌, get_or, sum_by, ⊎_elim, Contains, ap, sym, ◌∙◌, subst, refl, arith}
use Rattle.std.proofs.lemmas.Bool.{false≢true, true≢false}
use Rattle.std.proofs.lemmas.List.Kept.{AllPairs-cons}
use Rattle.std.proofs.lemmas.List.Elements.{All-from_recursion}
use Rattle.std.proofs.lemmas.List.Sums.{get_or-le-sum_by}
use Rattle.finite_groups.proofs.Members as lists
use Rattle.tag_walks.specs.Regions.{Region, IsRegion, IsAt, IsFull, AreEquivalents, HasEquivalents, IsClassOf, IsListed, IsFirstOf, AreFirstPlaces, Lines, IsFirstList, IsOnlyLine, IsFirstFree, IsTagged, IsTaken, IsTagWalk}

-- numbers below 3, each at the place that is given, among so many places
abbrev numbers : (ℕ → ℕ) → ℕ → Region
numbers place count = record { X = ℕ; In = λ (n : ℕ). n < 3; Before = λ (m n : ℕ). m < n; Equivalent = λ (m n : ℕ). m % 2 ≡ n % 2; place = place; count = count }

abbrev region : Region
region = numbers (λ n. n) 3

-- what holds of 0, 1 and 2 holds of each
each : (P : ℕ → Type 0) → P 0 → P 1 → P 2 → (n : ℕ) → n < 3 → P n
each P a b c zero l = a
each P a b c (suc zero) l = b
each P a b c (suc (suc zero)) l = c
each P a b c (suc (suc (suc n))) l = absurd (omega (arith, l))

zero_in : 0 < 3
zero_in = omega arith

one_in : 1 < 3
one_in = omega arith

two_in : 2 < 3
two_in = omega arith

abbrev Same : ℕ → ℕ → Type 0
Same m n = m ≡ n

one_even : {A : Type 0} → Same 1 0 → A
one_even e = absurd (omega (arith, e))

zero_odd : {A : Type 0} → Same 0 1 → A
zero_odd e = absurd (omega (arith, e))

is_region : IsRegion region
is_region = record {
  within = λ x i. i;
  one = λ x y i j e. e;
  order = λ x y i j. ((λ l. l), (λ l. l));
  itself = λ x i. refl;
  back = λ x y i j e. sym e;
  on = λ x y z i j k p q. p ∙ q;
}

-- not all at the place 0
no_region : IsRegion (numbers (λ n. 0) 3) → ⊥
no_region r = zero_odd (r.one 0 1 zero_in one_in refl)

at_one : IsAt region 1 1
at_one = record { in_region = one_in; at_place = refl }

not_at_zero : IsAt region 0 1 → ⊥
not_at_zero a = one_even a.at_place

is_full : IsFull region
is_full p l = (p, record { in_region = l; at_place = refl })

-- the place 3 is that of no number
not_full : IsFull (numbers (λ n. n) 4) → ⊥
not_full f = by (f 3 (omega arith))
  where
    beyond : (x : ℕ) → x < 3 → x ≡ 3 → ⊥
    beyond x l e = omega (arith, l, e)

    by : (x : ℕ) × IsAt (numbers (λ n. n) 4) 3 x → ⊥
    by r = beyond r.0 r.1.in_region r.1.at_place

-- ---- classes: 0 and 2 are equivalent, 1 is alone

in_pair : (y : ℕ) → Contains (0 ∷ 2 ∷ []) y → (P : ℕ → Type 0) → P 0 → P 2 → P y
in_pair y c P a b = ⊎_elim (λ e. subst P e a) (λ d. ⊎_elim (λ e. subst P e b) (λ n. lists.not_in_nil y n) (lists.Contains-cases y 2 [] d)) (lists.Contains-cases y 0 (2 ∷ []) c)

abbrev IsEquivalentTo : ℕ → ℕ → Type 0
IsEquivalentTo x y = (y < 3) × (x % 2 ≡ y % 2)

even : AreEquivalents region 0 (0 ∷ 2 ∷ [])
even y = (
  (λ c. in_pair y c (IsEquivalentTo 0) (zero_in, refl) (two_in, refl)),
  (λ h. each (λ y. 0 ≡ y % 2 → Contains (0 ∷ 2 ∷ []) y) (λ e. (0, omega arith, refl)) (λ e. zero_odd e) (λ e. (1, omega arith, refl)) y h.0 h.1),
)

odd : AreEquivalents region 1 (1 ∷ [])
odd y = (
  (λ c. ⊎_elim (λ e. subst (IsEquivalentTo 1) e (one_in, refl)) (λ n. lists.not_in_nil y n) (lists.Contains-cases y 1 [] c)),
  (λ h. each (λ y. 1 ≡ y % 2 → Contains (1 ∷ []) y) (λ e. one_even e) (λ e. (0, omega arith, refl)) (λ e. one_even e) y h.0 h.1),
)

also_even : AreEquivalents region 2 (0 ∷ 2 ∷ [])
also_even y = ((λ c. (even y).0 c), (λ h. (even y).1 h))

two_missing : AreEquivalents region 0 (0 ∷ []) → ⊥
two_missing a = ⊎_elim (λ e. by e) (λ n. lists.not_in_nil 2 n) (lists.Contains-cases 2 0 [] ((a 2).1 (two_in, refl)))
  where
    by : Same 0 2 → ⊥
    by e = omega (arith, e)

has_equivalents : HasEquivalents region
has_equivalents = each (λ x. (list : List ℕ) × AreEquivalents region x list) (0 ∷ 2 ∷ [], even) (1 ∷ [], odd) (0 ∷ 2 ∷ [], also_even)

-- all numbers, each equivalent to each: no list has them all
abbrev unending : Region
unending = record { X = ℕ; In = λ (n : ℕ). Unit {0}; Before = λ (m n : ℕ). m < n; Equivalent = λ (m n : ℕ). Unit {0}; place = λ (n : ℕ). n; count = 0 }

no_equivalents : HasEquivalents unending → ⊥
no_equivalents h = by (h 0 tt)
  where
    greatest : (list : List ℕ) → Contains list (suc (sum_by (λ n. n) list)) → ⊥
    greatest list c = let l = get_or-le-sum_by (λ n. n) list c.0 (suc (sum_by (λ n. n) list)) c.1 in omega (arith, l, c.2)

    by : (list : List ℕ) × AreEquivalents unending 0 list → ⊥
    by r = greatest r.0 ((r.1 _).1 (tt, tt))

apart : Same 0 2 → ⊥
apart e = omega (arith, e)

class_of_zero : IsClassOf region 0 (0 ∷ 2 ∷ [])
class_of_zero = record { exactly = even; once = AllPairs-cons (λ (a b : ℕ). a ≢ b) 0 (2 ∷ []) (All-from_recursion (λ b. 0 ≢ b) (2 ∷ []) (apart, tt)) (λ i j d l m. absurd (omega arith)) }

two_twice : IsClassOf region 0 (0 ∷ 2 ∷ 2 ∷ []) → ⊥
two_twice c = c.once 1 2 0 (omega arith) (omega arith) refl

-- ---- lists: 0 and 1 have no earlier equivalent, and 2 has one

zero_first : IsListed region 0
zero_first = record { in_region = zero_in; first = λ y i e l. omega (arith, l) }

one_first : IsListed region 1
one_first = record { in_region = one_in; first = each (λ y. 1 ≡ y % 2 → y < 1 → ⊥) (λ e l. one_even e) (λ e l. omega (arith, l)) (λ e l. omega (arith, l)) }

two_later : IsListed region 2 → ⊥
two_later l = l.first 0 zero_in refl (omega arith)

zero_of_two : IsFirstOf region 2 0
zero_of_two = record { listed = zero_first; equivalent = refl }

zero_not_of_one : IsFirstOf region 1 0 → ⊥
zero_not_of_one f = zero_odd f.equivalent

first_places : AreFirstPlaces region (0 ∷ 1 ∷ 0 ∷ [])
first_places = record {
  len = refl;
  first = each (λ x. (y : ℕ) × IsFirstOf region x y × (get_or (0 ∷ 1 ∷ 0 ∷ []) x 0 ≡ y))
      (0, record { listed = zero_first; equivalent = refl }, refl)
      (1, record { listed = one_first; equivalent = refl }, refl)
      (0, zero_of_two, refl);
}

-- 2 is no first
not_first_places : AreFirstPlaces region (0 ∷ 1 ∷ 2 ∷ []) → ⊥
not_first_places a = let r = a.first 2 two_in in two_later (subst (IsListed region) (sym r.2) r.1.listed)

-- a line is a number, and whether it is odd
abbrev lines : Lines region
lines = record { L = ℕ × ℕ; at = λ (line : ℕ × ℕ). line.0; IsLine = λ (line : ℕ × ℕ). line.1 ≡ line.0 % 2 }

abbrev two_lines : List (ℕ × ℕ)
two_lines = (0, 0) ∷ (1, 1) ∷ []

first_list : IsFirstList region lines two_lines
first_list = record {
  exactly = λ x. (
    (λ c. ⊎_elim (λ e. subst (IsListed region) e zero_first) (λ d. ⊎_elim (λ e. subst (IsListed region) e one_first) (λ n. lists.not_in_nil x n) (lists.Contains-cases x 1 [] d)) (lists.Contains-cases x 0 (1 ∷ []) c)),
    (λ l. each (λ x. IsListed region x → Contains (0 ∷ 1 ∷ []) x) (λ m. (0, omega arith, refl)) (λ m. (1, omega arith, refl)) (λ m. absurd (two_later m)) x l.in_region l),
  );
  lines = All-from_recursion (λ (line : ℕ × ℕ). line.1 ≡ line.0 % 2) two_lines (refl, (refl, tt));
  ordered = AllPairs-cons (λ (a b : ℕ × ℕ). a.0 < b.0) (0, 0) ((1, 1) ∷ []) (All-from_recursion (λ (b : ℕ × ℕ). 0 < b.0) ((1, 1) ∷ []) (omega arith, tt)) (λ i j d l m. absurd (omega arith));
}

one_missing : IsFirstList region lines ((0, 0) ∷ []) → ⊥
one_missing f = ⊎_elim (λ e. zero_odd e) (λ n. lists.not_in_nil 1 n) (lists.Contains-cases 1 0 [] ((f.exactly 1).1 one_first))

-- of both lines the first alone has an equivalent of 2
its_line : IsOnlyLine region lines two_lines 2 (0, 0)
its_line = record {
  listed = (0, omega arith, refl);
  equivalent = refl;
  only = λ other c e. ⊎_elim (λ p. sym p) (λ d. ⊎_elim (λ p. by other p e) (λ n. lists.not_in_nil other n) (lists.Contains-cases other (1, 1) [] d)) (lists.Contains-cases other (0, 0) ((1, 1) ∷ []) c);
}
  where
    by : (other : ℕ × ℕ) → (1, 1) ≡ other → other.0 % 2 ≡ 0 → other ≡ (0, 0)
    by other p e = one_even (ap (λ (line : ℕ × ℕ). line.0 % 2) p ∙ e)

not_its_line : IsOnlyLine region lines two_lines 2 (1, 1) → ⊥
not_its_line l = one_even l.equivalent

-- ---- walks

-- of a tagged place and a free one, the second is the first free one
second_free : IsFirstFree (true ∷ false ∷ []) 0 1
second_free = record { later = omega arith; within = omega arith; free = refl; tagged_before = before }
  where
    before : (k : ℕ) → 0 ≤ k → k < 1 → get_or (true ∷ false ∷ []) k false ≡ true
    before zero l m = refl
    before (suc k) l m = absurd (omega (arith, m))

first_not_free : IsFirstFree (true ∷ false ∷ []) 0 0 → ⊥
first_not_free f = true≢false f.free

-- 0 and 2 have a tag
abbrev tags : List Bool
tags = true ∷ false ∷ true ∷ []

tagged : IsTagged region tags 2
tagged = refl

not_tagged : IsTagged region tags 1 → ⊥
not_tagged t = false≢true t

-- the line of 0 was taken
abbrev first_line : List (ℕ × ℕ)
first_line = (0, 0) ∷ []

taken : (x : ℕ) → 0 ≡ x % 2 → IsTaken region lines first_line x
taken x e = record { line = (0, 0); member = (0, omega arith, refl); equivalent = e }

not_taken : IsTaken region lines first_line 1 → ⊥
not_taken t = ⊎_elim (λ e. zero_odd (ap (λ (line : ℕ × ℕ). line.0 % 2) e ∙ t.equivalent)) (λ n. lists.not_in_nil t.line n) (lists.Contains-cases t.line (0, 0) [] t.member)

walk : IsTagWalk region lines 1 tags first_line
walk = record {
  tagged = each (λ x. IsTagged region tags x ↔ IsTaken region lines first_line x) ((λ t. taken 0 refl), (λ t. refl)) ((λ t. absurd (false≢true t)), (λ t. absurd (not_taken t))) ((λ t. taken 2 refl), (λ t. refl));
  passed = each (λ x. x < 1 → IsTagged region tags x) (λ l. refl) (λ l. absurd (omega (arith, l))) (λ l. refl);
  listed = All-from_recursion (λ (line : ℕ × ℕ). IsListed region line.0) first_line (zero_first, tt);
  before = All-from_recursion (λ (line : ℕ × ℕ). line.0 < 1) first_line (omega arith, tt);
  lines = All-from_recursion (λ (line : ℕ × ℕ). line.1 ≡ line.0 % 2) first_line (refl, tt);
  ordered = λ i j d l m. absurd (omega arith);
}

-- and not where 2 has none
no_walk : IsTagWalk region lines 1 (true ∷ false ∷ false ∷ []) first_line → ⊥
no_walk w = false≢true ((w.tagged 2 two_in).1 (taken 2 refl))
