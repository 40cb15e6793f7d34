-- The places of first equivalents, found from place to place: each element begins as its own first, and the class of an element
-- that is still its own first when its place is come to is given that place.
use Rattle.std.proofs.Common.{◌≡◌, ◌≢◌, ℕ, ◌+◌, ◌<◌, ◌≤◌, ◌⊎◌, List, length, get_or, inl, inr, ⊎_elim, sym, ◌∙◌, subst, refl, arith}
use Rattle.std.proofs.lemmas.Bool.{cases_lt}
use Rattle.tag_walks.specs.Regions.{Region, IsRegion, IsListed, IsFirstOf, AreFirstPlaces}
use Rattle.tag_walks.proofs.Walks.{one_listed}

module _ (R : Region) where
  open R use {X, In, Before, Equivalent, place, count}

  -- x has its first equivalent before the place k, and its place
  pub record IsFound (k : ℕ) (firsts : List ℕ) (x : X) : Type 0 where
    pub y : X
    pub first : IsFirstOf R x y
    pub before : place y < k
    pub at_place : get_or firsts (place x) 0 ≡ place y

  -- x has no equivalent before the place k, and its own place
  pub record IsOwn (k : ℕ) (firsts : List ℕ) (x : X) : Type 0 where
    pub at_place : get_or firsts (place x) 0 ≡ place x
    pub none_before : (y : X) → In y → Equivalent x y → k ≤ place y

  -- all places before k were come to
  abbrev pub AreUpTo : ℕ → List ℕ → Type 0
  AreUpTo k firsts = (x : X) → In x → IsFound k firsts x ⊎ IsOwn k firsts x

  -- the class of x was given the place k, and no other element another place
  abbrev pub IsGiven : X → ℕ → List ℕ → List ℕ → Type 0
  IsGiven x k old new = (y : X) → In y → (Equivalent x y × (get_or new (place y) 0 ≡ k)) ⊎ ((¬ Equivalent x y) × (get_or new (place y) 0 ≡ get_or old (place y) 0))

  pub up_to_none : (firsts : List ℕ) → ((x : X) → In x → get_or firsts (place x) 0 ≡ place x) → AreUpTo 0 firsts
  up_to_none firsts own x i = inr (record { at_place = own x i; none_before = λ y j e. omega arith })

  module _ (region : IsRegion R) (k : ℕ) (x : X) (i : In x) (at : place x ≡ k) where
    -- x is listed where it has its own place
    own_listed : (firsts : List ℕ) → AreUpTo k firsts → get_or firsts k 0 ≡ k → IsListed R x
    own_listed firsts up own = ⊎_elim
        (λ f. absurd (omega (arith, f.before, f.at_place, own, subst (λ n. get_or firsts n 0 ≡ get_or firsts k 0) (sym at) refl)))
        (λ o. record {
          in_region = i;
          first = λ y j e before. let l = (region.order y x j i).0 before in let m = o.none_before y j e in omega (arith, l, m, at);
        })
        (up x i)

    -- an element without an equivalent before k that is not equivalent to x has none before k + 1
    none_later : (y : X) → In y → ((z : X) → In z → Equivalent y z → k ≤ place z) → (Equivalent x y → ⊥) → (z : X) → In z → Equivalent y z → k + 1 ≤ place z
    none_later y j none apart z l e =
        let m = none z l e in
        ⊎_elim
        (λ n. omega (arith, n))
        (λ n. let same : z ≡ x = region.one z x l i (omega (arith, m, n, at)) in absurd (apart (subst (λ w. Equivalent w y) same (region.back y z j l e))))
        (cases_lt k (place z))

    found_later : (firsts new : List ℕ) (y : X) → get_or new (place y) 0 ≡ get_or firsts (place y) 0 → IsFound k firsts y → IsFound (k + 1) new y
    found_later firsts new y e f = record { y = f.y; first = f.first; before = omega (arith, f.before); at_place = e ∙ f.at_place }

    -- where x has its own place, its class is given it
    pub up_to_more : (firsts new : List ℕ) → AreUpTo k firsts → get_or firsts k 0 ≡ k → IsGiven x k firsts new → AreUpTo (k + 1) new
    up_to_more firsts new up own given y j =
        let listed = own_listed firsts up own in
        ⊎_elim
        (λ g. inl (record { y = x; first = record { listed = listed; equivalent = g.0 }; before = omega (arith, at); at_place = g.1 ∙ sym at }))
        (λ g. ⊎_elim
        (λ f. inl (found_later firsts new y g.1 f))
        (λ o. inr (record { at_place = g.1 ∙ o.at_place; none_before = none_later y j o.none_before g.0 }))
        (up y j))
        (given y j)

    -- where x has another, its class was given that before
    pub up_to_kept : (firsts : List ℕ) → AreUpTo k firsts → get_or firsts k 0 ≢ k → AreUpTo (k + 1) firsts
    up_to_kept firsts up other y j = ⊎_elim
        (λ f. inl (found_later firsts firsts y refl f))
        (λ o. inr (record {
          at_place = o.at_place;
          none_before = none_later y j o.none_before (λ e. ⊎_elim
              (λ f. let m = o.none_before f.y f.first.listed.in_region (region.back f.y y f.first.listed.in_region j (region.on f.y x y f.first.listed.in_region i j f.first.equivalent e)) in omega (arith, m, f.before))
              (λ own. other (subst (λ n. get_or firsts n 0 ≡ n) at own.at_place))
              (up x i));
        }))
        (up y j)

  pub up_to_all : (firsts : List ℕ) → IsRegion R → length firsts ≡ count → AreUpTo count firsts → AreFirstPlaces R firsts
  up_to_all firsts region len up = record {
    len = len;
    first = λ x i. ⊎_elim
        (λ f. (f.y, f.first, f.at_place))
        (λ o. let l = o.none_before x i (region.itself x i) in let m = region.within x i in absurd (omega (arith, l, m)))
        (up x i);
  }

  -- two elements have one first place exactly where they are equivalent
  pub one_first_place : (firsts : List ℕ) → IsRegion R → AreFirstPlaces R firsts → (x y : X) → In x → In y → (Equivalent x y → get_or firsts (place x) 0 ≡ get_or firsts (place y) 0) × (get_or firsts (place x) 0 ≡ get_or firsts (place y) 0 → Equivalent x y)
  one_first_place firsts region are x y i j =
      let p = are.first x i in
      let q = are.first y j in
      let pi = p.1.listed.in_region in
      let qi = q.1.listed.in_region in (
        (λ e.
            let on : Equivalent p.0 q.0 = region.on p.0 y q.0 pi j qi (region.on p.0 x y pi i j p.1.equivalent e) (region.back q.0 y qi j q.1.equivalent) in
            p.2 ∙ (λ h. place (one_listed R region p.0 q.0 p.1.listed q.1.listed on h)) ∙ sym q.2),
        (λ e.
            let same : p.0 ≡ q.0 = region.one p.0 q.0 pi qi (sym p.2 ∙ e ∙ q.2) in
            region.on x q.0 y i qi j (region.back q.0 x qi i (subst (λ z. Equivalent z x) same p.1.equivalent)) q.1.equivalent),
      )
