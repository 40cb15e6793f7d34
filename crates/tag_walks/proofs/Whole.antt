-- The list of the first elements as a whole: each element has one line, the classes have together as many elements as the region,
-- and there is such a list.
use Rattle.std.proofs.Common.{◌≡◌, ◌≢◌, ℕ, zero, suc, ◌+◌, ◌<◌, ◌≤◌, ◌↔◌, ◌⊎◌, Bool, true, false, ◌||◌, ltb, eqb, List, [], ◌∷◌, ◌++◌, map, length, inl, inr, ⊎_elim, ap, sym, ◌∙◌, subst, refl, arith, Contains, All, AllPairs, sum_by, length-append}
use Rattle.std.specs.List.{list_any}
use Rattle.std.proofs.lemmas.Bool.{cases_Bool, cases_lt, false≢true}
use Rattle.std.proofs.lemmas.Bool.Decides.{Decides-ltb, Decides-eqb}
use Rattle.std.proofs.lemmas.List.{length-map}
use Rattle.std.proofs.lemmas.List.Kept.{AllPairs-cons}
use Rattle.std.proofs.lemmas.List.Elements.{All-contains, All-nil, All-push, Contains-get_or, Contains-append_left, Contains-append_right, Contains-append_cases}
use Rattle.std.proofs.lemmas.List.Sums.{sum_by-cons}
use Rattle.std.proofs.lemmas.Map.Made.{IsDistinct-from_AllPairs}
use Rattle.finite_groups.proofs.Members as lists
use Rattle.finite_groups.proofs.Pairs.{AllPairs-append_one, AllPairs-first, AllPairs-rest}
use Rattle.tag_walks.specs.Regions.{Region, IsRegion, IsFull, HasEquivalents, IsClassOf, IsListed, IsAt, Lines, IsFirstList, IsOnlyLine}
use Rattle.tag_walks.proofs.Walks.{one_listed}

-- ---- a search in a list

pub any_found : {X : Type 0} (p : X → Bool) (xs : List X) → list_any p xs ≡ true → (x : X) × Contains xs x × (p x ≡ true)
any_found p [] e = cc
any_found p (x ∷ xs) e = by (λ f. any_found p xs f) (p x) refl e
  where
    by : (list_any p xs ≡ true → (y : _) × Contains xs y × (p y ≡ true)) → (b : Bool) → p x ≡ b → (b || list_any p xs) ≡ true → (y : _) × Contains (x ∷ xs) y × (p y ≡ true)
    by ih true q f = (x, lists.Contains-here x xs, q)
    by ih false q f = let r = ih f in (r.0, lists.Contains-later r.0 x xs r.1, r.2)

pub any_none : {X : Type 0} (p : X → Bool) (xs : List X) → list_any p xs ≡ false → (x : X) → Contains xs x → p x ≡ true → ⊥
any_none p [] e x c t = lists.not_in_nil x c
any_none p (y ∷ ys) e x c t = by (λ f d. any_none p ys f x d t) (p y) refl e (lists.Contains-cases x y ys c)
  where
    by : (list_any p ys ≡ false → Contains ys x → ⊥) → (b : Bool) → p y ≡ b → (b || list_any p ys) ≡ false → (y ≡ x) ⊎ Contains ys x → ⊥
    by ih true q f s = false≢true (sym f)
    by ih false q f (inl s) = false≢true (sym q ∙ ap p s ∙ t)
    by ih false q f (inr s) = ih f s

-- ---- one line of each class, and a list

module _ (R : Region) (M : Lines R) (region : IsRegion R) (classes : HasEquivalents R) where
  open R use {X, In, Before, Equivalent, place, count}
  open M use {L, at, IsLine}

  first_or_not : (x : X) → In x → IsListed R x ⊎ ((y : X) × In y × Equivalent x y × (place y < place x))
  first_or_not x i =
      let class = classes x i in
      let earlier : X → Bool = λ y. ltb (place y) (place x) in
      elim (cases_Bool (list_any earlier class.0)) [
        | inl t ↦
            let r = any_found earlier class.0 t in
            let d = (class.1 r.0).0 r.1 in
            inr (r.0, d.0, d.1, (Decides-ltb (place r.0) (place x)).0 r.2)
        | inr t ↦ inl (record {
          in_region = i;
          first = λ y j a b. any_none earlier class.0 t y ((class.1 y).1 (j, a)) ((Decides-ltb (place y) (place x)).1 ((region.order y x j i).0 b));
        })
      ]

  -- the first equivalent of x
  first_of : (n : ℕ) (x : X) → In x → place x < n → (y : X) × IsListed R y × Equivalent y x
  first_of zero x i l = absurd (omega (arith, l))
  first_of (suc n) x i l = by (λ y j k. first_of n y j k) (first_or_not x i)
    where
      by : ((y : X) → In y → place y < n → (z : X) × IsListed R z × Equivalent z y) → IsListed R x ⊎ ((y : X) × In y × Equivalent x y × (place y < place x)) → (y : X) × IsListed R y × Equivalent y x
      by ih (inl f) = (x, f, region.itself x i)
      by ih (inr e) =
          let s = ih e.0 e.1 (omega (arith, e.3, l)) in
          (s.0, s.1, region.on s.0 e.0 x s.1.in_region e.1 i s.2 (region.back x e.0 i e.1 e.2))

  listed_in : (list : List L) → IsFirstList R M list → (line : L) → Contains list line → IsListed R (at line)
  listed_in list whole line c = (whole.exactly (at line)).0 (lists.Contains-map at line list c)

  -- exactly one line of each class
  pub one_line_each : ((a b : L) → IsLine a → IsLine b → at a ≡ at b → a ≡ b) → (list : List L) (x : X) → IsFirstList R M list → In x
      → (line : L) × IsOnlyLine R M list x line
  one_line_each one_line list x whole i =
      let f = first_of (suc (place x)) x i (omega arith) in
      let r = lists.Contains-from_map at f.0 list ((whole.exactly f.0).1 f.1) in
      let a : Equivalent (at r.0) x = subst (λ y. Equivalent y x) (sym r.2) f.2 in (
        r.0,
        record {
          listed = r.1;
          equivalent = a;
          only = λ other c b.
              let p = listed_in list whole other c in
              let q = listed_in list whole r.0 r.1 in
              let e = one_listed R region (at other) (at r.0) p q (region.on (at other) x (at r.0) p.in_region i q.in_region b (region.back (at r.0) x q.in_region i a)) in
              one_line other r.0 (All-contains IsLine list other whole.lines c) (All-contains IsLine list r.0 whole.lines r.1) e;
        },
      )

  -- the lines of the listed elements before the place n
  record AreFirst (n : ℕ) (list : List L) : Type 0 where
    pub exactly : (x : X) → Contains (map at list) x ↔ (IsListed R x × (place x < n))
    pub lines : All IsLine list
    pub ordered : AllPairs (λ (a b : L). Before (at a) (at b)) list

  first_none : AreFirst 0 []
  first_none = record {
    exactly = λ x. ((λ c. lists.not_in_nil x c), (λ h. absurd (omega (arith, h.1))));
    lines = All-nil _;
    ordered = λ i j d l m. absurd (omega (arith, m));
  }

  first_all : (list : List L) → AreFirst count list → IsFirstList R M list
  first_all list first = record {
    exactly = λ x. ((λ c. ((first.exactly x).0 c).0), (λ h. (first.exactly x).1 (h, region.within x h.in_region)));
    lines = first.lines;
    ordered = first.ordered;
  }

  last_place : (n : ℕ) (x y : X) → In x → In y → place x ≡ n → place y < n + 1 → (place y < n) ⊎ (y ≡ x)
  last_place n x y i j e l = ⊎_elim (λ m. inl m) (λ m. inr (region.one y x j i (omega (arith, e, l, m)))) (cases_lt (place y) n)

  -- where x at the place n has an earlier equivalent
  first_kept : (n : ℕ) (x : X) (list : List L) → In x → place x ≡ n → (IsListed R x → ⊥) → AreFirst n list → AreFirst (n + 1) list
  first_kept n x list i e none first = record {
    exactly = λ y. (
      (λ c. let h = (first.exactly y).0 c in (h.0, omega (arith, h.1))),
      (λ h. (first.exactly y).1 (h.0, ⊎_elim (λ l. l) (λ s. absurd (none (subst (IsListed R) s h.0))) (last_place n x y i h.0.in_region e h.1))),
    );
    lines = first.lines;
    ordered = first.ordered;
  }

  -- where it has none
  first_more : (n : ℕ) (line : L) (list : List L) → place (at line) ≡ n → IsListed R (at line) → IsLine line → AreFirst n list → AreFirst (n + 1) (list ++ line ∷ [])
  first_more n line list e listed is first = record {
    exactly = λ y. (
      (λ c.
          let r = lists.Contains-from_map at y (list ++ line ∷ []) c in
          ⊎_elim (λ d. let h = (first.exactly y).0 (subst (Contains (map at list)) r.2 (lists.Contains-map at r.0 list d)) in (h.0, omega (arith, h.1)))
          (λ d. ⊎_elim (λ s. there y (ap at s ∙ r.2)) (λ d. lists.not_in_nil r.0 d) (lists.Contains-cases r.0 line [] d))
          (Contains-append_cases list (line ∷ []) r.0 r.1)),
      (λ h. ⊎_elim
          (λ l. let r = lists.Contains-from_map at y list ((first.exactly y).1 (h.0, l)) in subst (Contains (map at (list ++ line ∷ []))) r.2 (lists.Contains-map at r.0 (list ++ line ∷ []) (Contains-append_left list (line ∷ []) r.0 r.1)))
          (λ s. subst (Contains (map at (list ++ line ∷ []))) (sym s) (lists.Contains-map at line (list ++ line ∷ []) (Contains-append_right list (line ∷ []) line (lists.Contains-here line []))))
          (last_place n (at line) y listed.in_region h.0.in_region e h.1)),
    );
    lines = All-push IsLine list line first.lines is;
    ordered = AllPairs-append_one (λ (a b : L). Before (at a) (at b)) list line first.ordered (λ z c.
        let h = (first.exactly (at z)).0 (lists.Contains-map at z list c) in
        (region.order (at z) (at line) h.0.in_region listed.in_region).1 (omega (arith, h.1, e)));
  }
    where
      there : (y : X) → at line ≡ y → IsListed R y × (place y < n + 1)
      there y s = (subst (IsListed R) s listed, subst (λ z. place z < n + 1) s (omega (arith, e)))

  module _ (full : IsFull R) (some_line : (x : X) → In x → (line : L) × (at line ≡ x) × IsLine line) where
    first_up_to : (n : ℕ) → n ≤ count → (list : List L) × AreFirst n list
    first_up_to zero l = ([], first_none)
    first_up_to (suc n) l = by (first_up_to n (omega (arith, l))) (full n (omega (arith, l)))
      where
        one_up : (list : List L) → AreFirst (n + 1) list → AreFirst (suc n) list
        one_up list a = let e : n + 1 ≡ suc n = omega arith in subst (λ m. AreFirst m list) e a

        by : (list : List L) × AreFirst n list → (x : X) × IsAt R n x → (list : List L) × AreFirst (suc n) list
        by r x = ⊎_elim
            (λ f. let line = some_line x.0 x.1.in_region in (r.0 ++ line.0 ∷ [], one_up (r.0 ++ line.0 ∷ []) (first_more n line.0 r.0 (ap place line.1 ∙ x.1.at_place) (subst (IsListed R) (sym line.1) f) line.2 r.1)))
            (λ y. (r.0, one_up r.0 (first_kept n x.0 r.0 x.1.in_region x.1.at_place (λ f. f.first y.0 y.1 y.2 ((region.order y.0 x.0 y.1 x.1.in_region).1 y.3)) r.1)))
            (first_or_not x.0 x.1.in_region)

    -- there is such a list
    pub some_first_list : (list : List L) × IsFirstList R M list
    some_first_list = let r = first_up_to count (omega arith) in (r.0, first_all r.0 r.1)

-- ---- the sum of the classes

abbrev pub upto : ℕ → List ℕ
upto zero = []
upto (suc n) = upto n ++ n ∷ []

pub length-upto : (n : ℕ) → length (upto n) ≡ n
length-upto zero = refl
length-upto (suc n) = length-append (upto n) (n ∷ []) ∙ (let e = length-upto n in omega (arith, e))

pub Contains-upto : (n k : ℕ) → k < n → Contains (upto n) k
Contains-upto zero k l = absurd (omega (arith, l))
Contains-upto (suc n) k l = ⊎_elim
    (λ m. Contains-append_left (upto n) (n ∷ []) k (Contains-upto n k m))
    (λ m. let e : n ≡ k = omega (arith, l, m) in Contains-append_right (upto n) (n ∷ []) k (subst (Contains (n ∷ [])) e (lists.Contains-here n [])))
    (cases_lt k n)

pub Contains-from_upto : (n k : ℕ) → Contains (upto n) k → k < n
Contains-from_upto zero k c = lists.not_in_nil k c
Contains-from_upto (suc n) k c = ⊎_elim
    (λ d. let l = Contains-from_upto n k d in omega (arith, l))
    (λ d. ⊎_elim (λ e. omega (arith, e)) (λ d. lists.not_in_nil k d) (lists.Contains-cases k n [] d))
    (Contains-append_cases (upto n) (n ∷ []) k c)

pub AllPairs-upto : (n : ℕ) → AllPairs (λ (a b : ℕ). a ≢ b) (upto n)
AllPairs-upto zero = λ i j d l m. absurd (omega (arith, m))
AllPairs-upto (suc n) = AllPairs-append_one (λ (a b : ℕ). a ≢ b) (upto n) n (AllPairs-upto n) (λ k c e. let l = Contains-from_upto n k c in omega (arith, l, e))

pub all_of : {X : Type 0} (P : X → Type 0) (xs : List X) → ((x : X) → Contains xs x → P x) → All P xs
all_of P xs h = λ k d l. h _ (Contains-get_or xs k d l)

AllPairs-append : {X : Type 0} (P : X → X → Type 0) (xs ys : List X) → AllPairs P xs → AllPairs P ys → ((x y : X) → Contains xs x → Contains ys y → P x y) → AllPairs P (xs ++ ys)
AllPairs-append P [] ys s t h = t
AllPairs-append P (x ∷ xs) ys s t h =
    AllPairs-cons P x (xs ++ ys)
    (all_of (P x) (xs ++ ys) (λ z c. ⊎_elim (λ d. AllPairs-first P x z xs s d) (λ d. h x z (lists.Contains-here x xs) d) (Contains-append_cases xs ys z c)))
    (AllPairs-append P xs ys (AllPairs-rest P x xs s) t (λ a b c d. h a b (lists.Contains-later a x xs c) d))

-- the lists of all members, one after another
abbrev pub gathered : {X Y : Type 0} → (Y → List X) → List Y → List X
gathered f [] = []
gathered f (y ∷ ys) = f y ++ gathered f ys

length-gathered : {X Y : Type 0} (f : Y → List X) (ys : List Y) → length (gathered f ys) ≡ sum_by (λ y. length (f y)) ys
length-gathered f [] = refl
length-gathered f (y ∷ ys) = length-append (f y) (gathered f ys) ∙ ap (λ n. length (f y) + n) (length-gathered f ys) ∙ sym (sum_by-cons (λ z. length (f z)) y ys)

Contains-gathered : {X Y : Type 0} (f : Y → List X) (ys : List Y) (y : Y) (x : X) → Contains ys y → Contains (f y) x → Contains (gathered f ys) x
Contains-gathered f [] y x c d = lists.not_in_nil y c
Contains-gathered f (z ∷ ys) y x c d = ⊎_elim
    (λ e. Contains-append_left (f z) (gathered f ys) x (subst (λ w. Contains (f w) x) (sym e) d))
    (λ e. Contains-append_right (f z) (gathered f ys) x (Contains-gathered f ys y x e d))
    (lists.Contains-cases y z ys c)

pub Contains-from_gathered : {X Y : Type 0} (f : Y → List X) (ys : List Y) (x : X) → Contains (gathered f ys) x → (y : Y) × Contains ys y × Contains (f y) x
Contains-from_gathered f [] x c = lists.not_in_nil x c
Contains-from_gathered f (y ∷ ys) x c = ⊎_elim
    (λ d. (y, lists.Contains-here y ys, d))
    (λ d. let r = Contains-from_gathered f ys x d in (r.0, lists.Contains-later r.0 y ys r.1, r.2))
    (Contains-append_cases (f y) (gathered f ys) x c)

AllPairs-gathered : {X Y : Type 0} (P : X → X → Type 0) (Q : Y → Y → Type 0) (f : Y → List X) (ys : List Y) → ((y : Y) → Contains ys y → AllPairs P (f y)) → AllPairs Q ys
    → ((y z : Y) → Contains ys y → Contains ys z → Q y z → (a b : X) → Contains (f y) a → Contains (f z) b → P a b) → AllPairs P (gathered f ys)
AllPairs-gathered P Q f [] s t h = λ i j d l m. absurd (omega (arith, m))
AllPairs-gathered P Q f (y ∷ ys) s t h =
    AllPairs-append P (f y) (gathered f ys) (s y (lists.Contains-here y ys))
    (AllPairs-gathered P Q f ys (λ z c. s z (lists.Contains-later z y ys c)) (AllPairs-rest Q y ys t) (λ u v c d. h u v (lists.Contains-later u y ys c) (lists.Contains-later v y ys d)))
    (λ a b c d. let r = Contains-from_gathered f ys b d in h y r.0 (lists.Contains-here y ys) (lists.Contains-later r.0 y ys r.1) (AllPairs-first Q y r.0 ys t r.1) a b c r.2)

pub AllPairs-agree : {X : Type 0} (P Q : X → X → Type 0) (xs : List X) → ((a b : X) → Contains xs a → Contains xs b → P a b → Q a b) → AllPairs P xs → AllPairs Q xs
AllPairs-agree P Q xs h p = λ i j d l m. h _ _ (Contains-get_or xs i d (omega (arith, l, m))) (Contains-get_or xs j d m) (p i j d l m)

module _ (R : Region) (M : Lines R) (region : IsRegion R) (full : IsFull R) where
  open R use {X, In, Before, Equivalent, place, count}
  open M use {L, at, IsLine}

  -- with all lines' classes
  module _ (class : L → List X) (list : List L) (whole : IsFirstList R M list) (right : (line : L) → Contains list line → IsClassOf R (at line) (class line)) (each : (x : X) → In x → (line : L) × Contains list line × Equivalent (at line) x) where
    elements : List X
    elements = gathered class list

    listed_at : (line : L) → Contains list line → IsListed R (at line)
    listed_at line c = (whole.exactly (at line)).0 (lists.Contains-map at line list c)

    pub no_two : (x y : X) → In x → In y → x ≢ y → (k : ℕ) → place x ≡ k → place y ≡ k → ⊥
    no_two x y i j n k e f = n (region.one x y i j (e ∙ sym f))

    pub apart : AllPairs (λ (x y : X). (k : ℕ) → place x ≡ k → place y ≡ k → ⊥) (gathered class list)
    apart = AllPairs-gathered (λ (x y : X). (k : ℕ) → place x ≡ k → place y ≡ k → ⊥) (λ (a b : L). Before (at a) (at b)) class list
        (λ y c. let r = right y c in AllPairs-agree (λ (a b : X). a ≢ b) (λ (x z : X). (k : ℕ) → place x ≡ k → place z ≡ k → ⊥) (class y) (λ a b d e n. no_two a b ((r.exactly a).0 d).0 ((r.exactly b).0 e).0 n) r.once)
        whole.ordered
        (λ y z c d before a b p q k e f.
        let u = ((right y c).exactly a).0 p in
        let v = ((right z d).exactly b).0 q in
        let i = (listed_at y c).in_region in
        let j = (listed_at z d).in_region in
        let same : a ≡ b = region.one a b u.0 v.0 (e ∙ sym f) in
        let on : Equivalent (at z) (at y) = region.on (at z) b (at y) j v.0 i v.1 (region.back (at y) b i v.0 (subst (Equivalent (at y)) same u.1)) in
        (listed_at z d).first (at y) i on before)

    pub in_all : (k : ℕ) → k < count → Contains (map place (gathered class list)) k
    in_all k l =
        let x = full k l in
        let r = each x.0 x.1.in_region in
        subst (Contains (map place (gathered class list))) x.1.at_place (lists.Contains-map place x.0 (gathered class list) (Contains-gathered class list r.0 x.0 r.1 (((right r.0 r.1).exactly x.0).1 (x.1.in_region, r.2))))

    not_more : length (gathered class list) ≤ count
    not_more = subst (λ n. length (gathered class list) ≤ n) (length-upto count) (lists.no_longer eqb Decides-eqb (λ (x : X) (k : ℕ). place x ≡ k) (upto count) (gathered class list) apart (λ x c.
        let r = Contains-from_gathered class list x c in
        (place x, Contains-upto count (place x) (region.within x (((right r.0 r.1).exactly x).0 r.2).0), refl)))

    not_less : count ≤ length (gathered class list)
    not_less =
        let l = lists.pigeonhole eqb Decides-eqb (upto count) (map place (gathered class list)) (IsDistinct-from_AllPairs Decides-eqb (upto count) (AllPairs-upto count)) (λ k c. in_all k (Contains-from_upto count k c)) in
        omega (arith, l, length-upto count, length-map {B = ℕ} (gathered class list))

    sum_of_classes : sum_by (λ (line : L). length (class line)) list ≡ count
    sum_of_classes = sym (length-gathered class list) ∙ (let a = not_more in let b = not_less in omega (arith, a, b))

  -- the lengths of the classes of all lines have the number of elements as their sum
  pub sum_of_sizes : ((a b : L) → IsLine a → IsLine b → at a ≡ at b → a ≡ b) → (class_at : (x : X) → List X) → ((x : X) → In x → IsClassOf R x (class_at x))
      → (size : L → ℕ) (list : List L) → IsFirstList R M list → ((line : L) → Contains list line → (class : List X) → IsClassOf R (at line) class → size line ≡ length class) → sum_by size list ≡ count
  sum_of_sizes one_line class_at right size list whole h =
      lists.sum_by-agree size (λ (line : L). length (class_at (at line))) list (λ line c. h line c (class_at (at line)) (right (at line) (listed_at_ line c).in_region))
      ∙ sum_of_classes (λ line. class_at (at line)) list whole (λ line c. right (at line) (listed_at_ line c).in_region)
      (λ x i. let r = one_line_each R M region (λ y j. (class_at y, (right y j).exactly)) one_line list x whole i in (r.0, r.1.listed, r.1.equivalent))
    where
      listed_at_ : (line : L) → Contains list line → IsListed R (at line)
      listed_at_ line c = (whole.exactly (at line)).0 (lists.Contains-map at line list c)
