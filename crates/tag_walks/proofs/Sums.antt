-- Values at the places of a region: a class has one total, whatever list has it, and the totals of the classes of all lines have
-- the total of all values as theirs.
use Rattle.std.proofs.Common.{◌≡◌, ◌≢◌, ℕ, ◌↔◌, eqb, Bool, true, false, cond, List, [], ◌∷◌, ◌++◌, map, filter, get_or, ap, sym, ◌∙◌, subst, refl, arith, Contains, AllPairs}
use Rattle.std.specs.List.{IsDistinct}
use Rattle.std.proofs.lemmas.Bool.Decides.{Decides-eqb}
use Rattle.std.proofs.lemmas.List.Kept.{AllPairs-cons}
use Rattle.std.proofs.lemmas.Map.Made.{IsDistinct-from_AllPairs}
use Rattle.finite_groups.specs.Groups.{Addition}
use Rattle.finite_groups.proofs.Members as lists
use Rattle.finite_groups.proofs.Pairs.{AllPairs-first, AllPairs-rest}
use Rattle.finite_groups.proofs.Permuted.{total-map}
use Rattle.finite_groups.proofs.Totals.{total, total-same}
use Rattle.tag_walks.specs.Regions.{Region, IsRegion, IsFull, IsClassOf, AreFirstPlaces, Lines, IsFirstList}
use Rattle.tag_walks.proofs.FirstPlaces.{one_first_place}
use Rattle.tag_walks.proofs.Whole.{all_of, upto, Contains-upto, Contains-from_upto, AllPairs-upto, AllPairs-agree, gathered, Contains-from_gathered, apart, in_all, one_line_each}

AllPairs-map : {X Y : Type 0} (P : Y → Y → Type 0) (f : X → Y) (xs : List X) → AllPairs (λ (a b : X). P (f a) (f b)) xs → AllPairs P (map f xs)
AllPairs-map P f [] h = λ i j d l m. absurd (omega (arith, m))
AllPairs-map P f (x ∷ xs) h =
    AllPairs-cons P (f x) (map f xs)
    (all_of (P (f x)) (map f xs) (λ y c. let r = lists.Contains-from_map f y xs c in subst (P (f x)) r.2 (AllPairs-first (λ a b. P (f a) (f b)) x r.0 xs h r.1)))
    (AllPairs-map P f xs (AllPairs-rest (λ a b. P (f a) (f b)) x xs h))

pub distinct-upto : (n : ℕ) → IsDistinct eqb (upto n)
distinct-upto n = IsDistinct-from_AllPairs Decides-eqb (upto n) (AllPairs-upto n)

module _ (A : Addition) where
  open A use {M, plus, none, assoc, unit}

  pub total-append : {X : Type 0} (f : X → M) (xs ys : List X) → total A f (xs ++ ys) ≡ plus (total A f xs) (total A f ys)
  total-append f [] ys = sym (unit (total A f ys))
  total-append f (x ∷ xs) ys = ap (plus (f x)) (total-append f xs ys) ∙ sym (assoc (f x) (total A f xs) (total A f ys))

  total-gathered : {X Y : Type 0} (f : X → M) (g : Y → List X) (ys : List Y) → total A f (gathered g ys) ≡ total A (λ y. total A f (g y)) ys
  total-gathered f g [] = refl
  total-gathered f g (y ∷ ys) = total-append f (g y) (gathered g ys) ∙ ap (plus (total A f (g y))) (total-gathered f g ys)

  -- with nothing for those that a test leaves out
  pub total-filter : {X : Type 0} (f : X → M) (p : X → Bool) (xs : List X) → total A f (filter p xs) ≡ total A (λ x. cond (p x) (f x) none) xs
  total-filter f p [] = refl
  total-filter f p (x ∷ xs) = step (p x) (total-filter f p xs)
    where
      step : (b : Bool) → total A f (filter p xs) ≡ total A (λ x. cond (p x) (f x) none) xs → total A f (cond b (x ∷ filter p xs) (filter p xs)) ≡ plus (cond b (f x) none) (total A (λ x. cond (p x) (f x) none) xs)
      step true e = ap (plus (f x)) e
      step false e = e ∙ sym (unit _)

module _ (R : Region) (region : IsRegion R) (A : Addition) (value : ℕ → A.M) where
  open R use {X, In, Equivalent, place, count}

  -- the total of the values at these elements
  abbrev pub total_at : List X → A.M
  total_at xs = total A (λ (x : X). value (place x)) xs

  -- may be taken over their places
  by_places : (xs : List X) (ks : List ℕ) → AllPairs (λ (x y : X). place x ≢ place y) xs → IsDistinct eqb ks → ((k : ℕ) → Contains (map place xs) k ↔ Contains ks k) → total_at xs ≡ total A value ks
  by_places xs ks apart distinct same =
      sym (total-map A value place xs)
      ∙ total-same A eqb Decides-eqb value (map place xs) ks (IsDistinct-from_AllPairs Decides-eqb (map place xs) (AllPairs-map (λ (i j : ℕ). i ≢ j) place xs apart)) distinct same

  -- the total of a class, over all places that its elements have
  pub total_of_class : (x : X) (class : List X) (ks : List ℕ) → IsClassOf R x class → IsDistinct eqb ks → ((y : X) → In y → Equivalent x y ↔ Contains ks (place y)) → ((k : ℕ) → Contains ks k → (y : X) × In y × (place y ≡ k)) → total_at class ≡ total A value ks
  total_of_class x class ks is distinct same some = by_places class ks
      (AllPairs-agree (λ (a b : X). a ≢ b) (λ (a b : X). place a ≢ place b) class (λ a b c d n e. n (region.one a b ((is.exactly a).0 c).0 ((is.exactly b).0 d).0 e)) is.once)
      distinct
      (λ k. (
        (λ c. let r = lists.Contains-from_map place k class c in let h = (is.exactly r.0).0 r.1 in subst (Contains ks) r.2 ((same r.0 h.0).0 h.1)),
        (λ c. let r = some k c in subst (Contains (map place class)) r.2 (lists.Contains-map place r.0 class ((is.exactly r.0).1 (r.1, (same r.0 r.1).1 (subst (Contains ks) (sym r.2) c))))),
      ))

  -- over all places that have one first place with the element's
  pub total_of_firsts : IsFull R → (firsts : List ℕ) → AreFirstPlaces R firsts → (x : X) → In x → (class : List X) → IsClassOf R x class
      → total_at class ≡ total A value (filter (λ k. eqb (get_or firsts k 0) (get_or firsts (place x) 0)) (upto count))
  total_of_firsts full firsts are x i class is =
      let test : ℕ → Bool = λ k. eqb (get_or firsts k 0) (get_or firsts (place x) 0) in
      total_of_class x class (filter test (upto count)) is (lists.distinct-filter eqb Decides-eqb test (upto count) (distinct-upto count))
      (λ y j.
      let one = one_first_place R firsts region are x y i j in
      let d = Decides-eqb (get_or firsts (place y) 0) (get_or firsts (place x) 0) in (
        (λ e. lists.Contains-filter test (place y) (upto count) (Contains-upto count (place y) (region.within y j)) (d.1 (sym (one.0 e)))),
        (λ c. one.1 (sym (d.0 (lists.Contains-from_filter test (place y) (upto count) c).1))),
      ))
      (λ k c. let r = full k (Contains-from_upto count k (lists.Contains-from_filter test k (upto count) c).0) in (r.0, r.1.in_region, r.1.at_place))

  -- a class has one total
  pub one_total : (x y : X) (a b : List X) → In x → In y → Equivalent x y → IsClassOf R x a → IsClassOf R y b → total_at a ≡ total_at b
  one_total x y a b i j e p q =
      by_places a (map place b) (apart_in x a p) (IsDistinct-from_AllPairs Decides-eqb (map place b) (AllPairs-map (λ (m n : ℕ). m ≢ n) place b (apart_in y b q)))
      (λ k. (
        (λ c. let r = lists.Contains-from_map place k a c in let h = (p.exactly r.0).0 r.1 in subst (Contains (map place b)) r.2 (lists.Contains-map place r.0 b ((q.exactly r.0).1 (h.0, region.on y x r.0 j i h.0 (region.back x y i j e) h.1)))),
        (λ c. let r = lists.Contains-from_map place k b c in let h = (q.exactly r.0).0 r.1 in subst (Contains (map place a)) r.2 (lists.Contains-map place r.0 a ((p.exactly r.0).1 (h.0, region.on x y r.0 i j h.0 e h.1)))),
      ))
      ∙ total-map A value place b
    where
      apart_in : (z : X) (c : List X) → IsClassOf R z c → AllPairs (λ (x y : X). place x ≢ place y) c
      apart_in z c is = AllPairs-agree (λ (a b : X). a ≢ b) (λ (a b : X). place a ≢ place b) c (λ a b m n d s. d (region.one a b ((is.exactly a).0 m).0 ((is.exactly b).0 n).0 s)) is.once

  module _ (M : Lines R) (full : IsFull R) where
    open M use {L, at, IsLine}

    -- the totals of the classes of all lines have the total of all values as theirs
    pub total_of_classes : ((a b : L) → IsLine a → IsLine b → at a ≡ at b → a ≡ b) → (class_at : (x : X) → List X) → ((x : X) → In x → IsClassOf R x (class_at x))
        → (list : List L) → IsFirstList R M list → total A (λ (line : L). total_at (class_at (at line))) list ≡ total A value (upto count)
    total_of_classes one_line class_at right list whole =
        sym (total-gathered A (λ (x : X). value (place x)) class list)
        ∙ by_places (gathered class list) (upto count)
        (AllPairs-agree (λ (x y : X). (k : ℕ) → place x ≡ k → place y ≡ k → ⊥) (λ (x y : X). place x ≢ place y) (gathered class list) (λ x y c d n e. n (place x) refl (sym e)) (apart R M region full class list whole is_class each))
        (distinct-upto count)
        (λ k. (
          (λ c. let r = lists.Contains-from_map place k (gathered class list) c in subst (Contains (upto count)) r.2 (Contains-upto count (place r.0) (region.within r.0 (inside r.0 r.1)))),
          (λ c. in_all R M region full class list whole is_class each k (Contains-from_upto count k c)),
        ))
      where
        class : L → List X
        class line = class_at (at line)

        is_class : (line : L) → Contains list line → IsClassOf R (at line) (class line)
        is_class line c = right (at line) ((whole.exactly (at line)).0 (lists.Contains-map at line list c)).in_region

        each : (x : X) → In x → (line : L) × Contains list line × Equivalent (at line) x
        each x i = let r = one_line_each R M region (λ y j. (class_at y, (right y j).exactly)) one_line list x whole i in (r.0, r.1.listed, r.1.equivalent)

        inside : (x : X) → Contains (gathered class list) x → In x
        inside x c = let r = Contains-from_gathered class list x c in (((is_class r.0 r.1).exactly x).0 r.2).0
