-- A list of kept sets, each with its fixed points and the elements that fix them all: every point has one of these groups up to conjugation.
use Rattle.std.proofs.Common.{◌≡◌, ℕ, ◌+◌, ◌*◌, ◌<◌, ◌≤◌, ◌⊎◌, ◌↔◌, Bool, List, [], ◌∷◌, length, sym, ap, ◌∙◌, subst, arith, Contains, Decides, inl, inr, ⊎_elim, zero, suc}
use Rattle.std.specs.List.{IsDistinct, list_any}
use Rattle.std.proofs.lemmas.Bool.{false≢true, cases_Bool, cases_lt}
use Rattle.finite_groups.proofs.Members as members
use Rattle.finite_groups.proofs.Conjugates as conjugates
use Rattle.finite_groups.specs.Groups.{Group, Action}

pub same_factor : (a b c : ℕ) → 0 < a → a * b ≡ a * c → b ≡ c
same_factor a b c p e = grind arith

first_lacking : {X : Type 0} (eq : X → X → Bool) (same : (a b : X) → Decides (eq a b) (a ≡ b)) (xs ys : List X) → ((y : X) × Contains ys y × (Contains xs y → ⊥)) ⊎ ((y : X) → Contains ys y → Contains xs y)
first_lacking eq same xs [] = inr (λ y c. members.not_in_nil y c)
first_lacking eq same xs (y ∷ ys) = elim (cases_Bool (list_any (eq y) xs)) [
  | inr e ↦ inl (y, members.Contains-here y ys, λ c. false≢true (sym e ∙ members.has eq same y xs c))
  | inl e ↦ ⊎_elim
      (λ r. inl (r.0, members.Contains-later r.0 y ys r.1, r.2))
      (λ h. inr (λ z c. ⊎_elim (λ p. subst (λ v. Contains xs v) p (members.has_back eq same y xs e)) (h z) (members.Contains-cases z y ys c)))
      (first_lacking eq same xs ys)
]

-- of two lists the shorter lacks a member of the longer
lacking : {X : Type 0} (eq : X → X → Bool) (same : (a b : X) → Decides (eq a b) (a ≡ b)) (xs ys : List X) → IsDistinct eq ys → length xs < length ys → (y : X) × Contains ys y × (Contains xs y → ⊥)
lacking eq same xs ys d l = ⊎_elim (λ r. r) (λ h. absurd (let n : length ys ≤ length xs = members.pigeonhole eq same ys xs d h in omega arith)) (first_lacking eq same xs ys)

module _ (F : Group) (A : Action F) where
  open F use {X, eq, In as G}
  open A use {Y, act}

  -- for each point the list of the elements that fix it
  pub record Sites : Type 0 where
    pub site : Y → List X
    pub distinct : (y : Y) → IsDistinct eq (site y)
    pub exactly : (y : Y) (e : X) → Contains (site y) e ↔ (G e × (act e y ≡ y))

  -- the kept sets: the fixed points of each, and the list of the elements that fix them all
  pub record Cover : Type 1 where
    pub sites : Sites
    pub K : Type 0
    pub In : K → Y → Type 0
    pub full : K → List X
    pub distinct : (k : K) → IsDistinct eq (full k)
    pub fixes : (k : K) (e : X) → Contains (full k) e → G e × ((y : Y) → In k y → act e y ≡ y)
    pub all : (k : K) (e : X) → G e → ((y : Y) → In k y → act e y ≡ y) → Contains (full k) e
    -- some fixed point is fixed by no other element
    pub generic : (k : K) → (y : Y) × In k y × ((e : X) → G e → act e y ≡ y → Contains (full k) e)
    -- with an element that fixes a fixed point of k: some kept set has the common fixed points, up to an element
    pub grows : (k : K) (y : Y) → In k y → (e : X) → G e → act e y ≡ y → (t : K) × (h : X) × G h × ((z : Y) → (In k z × (act e z ≡ z)) ↔ In t (act h z))
    -- one set has every point for a fixed point
    pub first : K
    pub everywhere : (y : Y) → In first y

module _ {F : Group} {A : Action F} (sites : Sites F A) where
  open F use {X, eq, same, In as G, inv, inv_in}
  open A use {Y, act}
  open sites use {site, distinct as site_distinct, exactly as site_is}

  site_no_longer : (g : X) (y : Y) → G g → length (site y) ≤ length (site (act g y))
  site_no_longer g y a =
      let at : (s : X) → Contains (site y) s → G s × (act s y ≡ y) = λ s c. (site_is y s).0 c in
      members.pigeonhole-map eq same (conjugates.conj F A g) (site y) (site (act g y)) (site_distinct y)
      (λ s t c d p. conjugates.conj_apart F A g s t a (at s c).0 (at t d).0 p)
      (λ s c. (site_is (act g y) (conjugates.conj F A g s)).1 ((conjugates.site_moved F A g s y a (at s c).0).0 (at s c)))

  -- as many elements fix an image of a point as fix the point
  pub site_length : (g : X) (y : Y) → G g → length (site (act g y)) ≡ length (site y)
  site_length g y a =
      let back = subst (λ v. length (site (act g y)) ≤ length (site v)) (conjugates.act_back F A g y a) (site_no_longer (inv g) (act g y) (inv_in g a)) in
      omega (arith, site_no_longer g y a, back)

module _ {F : Group} {A : Action F} (T : Cover F A) where
  open F use {X, eq, same, In as G, mul, one, one_in, mul_in, inv}
  open A use {Y, act, act_one, act_mul}
  open T use {sites, K, In, full, distinct, fixes, all, generic, grows, first, everywhere}
  open sites use {site, distinct as site_distinct, exactly as site_is}

  -- some image of x has exactly the elements of k
  abbrev pub HasGroup : K → Y → Type 0
  HasGroup k x = (g : X) × G g × ((e : X) → Contains (site (act g x)) e ↔ Contains (full k) e)

  full_in_site : (k : K) (y : Y) → In k y → (e : X) → Contains (full k) e → Contains (site y) e
  full_in_site k y i e c = let f = fixes k e c in (site_is y e).1 (f.0, f.1 y i)

  group_from_length : (k : K) (x : Y) (g : X) → G g → In k (act g x) → length (site (act g x)) ≤ length (full k) → HasGroup k x
  group_from_length k x g a i l = (g, a, λ e. ((λ c. members.onto eq same (full k) (site (act g x)) (distinct k) (full_in_site k (act g x) i) l e c), (λ c. full_in_site k (act g x) i e c)))

  -- growing makes the list of the elements longer
  longer : (k t : K) (e h : X) → G e → G h → (Contains (full k) e → ⊥) → ((z : Y) → (In k z × (act e z ≡ z)) ↔ In t (act h z)) → length (full k) < length (full t)
  longer k t e h a b new onto =
      let cg : X → X = conjugates.conj F A h in
      let es : List X = e ∷ full k in
      let into : (f : X) → Contains es f → G f × ((z : Y) → In k z × (act e z ≡ z) → act f z ≡ z) = λ f c. ⊎_elim
      (λ p. (subst G p a, λ z w. subst (λ v. act v z ≡ z) p w.1))
      (λ d. let r = fixes k f d in (r.0, λ z w. r.1 z w.0))
      (members.Contains-cases f e (full k) c) in
      let in_t : (f : X) → Contains es f → Contains (full t) (cg f) = λ f c.
      let q = into f c in
      all t (cg f) (conjugates.conj_in F A h f b q.0) (λ y i.
      let z : Y = act (inv h) y in
      let back : act h z ≡ y = conjugates.act_there F A h y b in
      subst (λ v. act (cg f) v ≡ v) back (conjugates.act_conj F A h f z b q.0 ∙ ap (act h) (q.1 z ((onto z).1 (subst (In t) (sym back) i))))) in
      members.pigeonhole-map eq same cg es (full t) (members.distinct-cons eq same e (full k) new (distinct k)) (λ f f' c c' p. conjugates.conj_apart F A h f f' b (into f c).0 (into f' c').0 p) in_t

  -- a fixed point of k that is fixed by more elements: it is one of a longer kept set, up to an element
  next : (k : K) (y : Y) → In k y → length (full k) < length (site y) → (t : K) × (h : X) × G h × In t (act h y) × (length (full k) < length (full t))
  next k y i s =
      let e = lacking eq same (full k) (site y) (site_distinct y) s in
      let f = (site_is y e.0).0 e.1 in
      let r = grows k y i e.0 f.0 f.1 in
      (r.0, r.1, r.2, (r.3 y).0 (i, f.1), longer k r.0 e.0 r.1 f.0 r.2 e.2 r.3)

  cover_from : (n : ℕ) (k : K) (x : Y) (g : X) → G g → In k (act g x) → length (site x) ≤ length (full k) + n → (t : K) × HasGroup t x
  cover_from zero k x g a i l = (k, group_from_length k x g a i (omega (arith, site_length sites g x a)))
  cover_from (suc n) k x g a i l = elim (cases_lt (length (full k)) (length (site x))) [
    | inr s ↦ (k, group_from_length k x g a i (omega (arith, site_length sites g x a)))
    | inl s ↦ let r = next k (act g x) i (omega (arith, s, site_length sites g x a)) in cover_from n r.0 x (mul r.1 g) (mul_in r.1 g r.2 a) (subst (In r.0) (sym (act_mul r.1 g x r.2 a)) r.3) (omega (arith, l, r.4))
  ]

  -- every point has the group of some kept set
  pub group_of_point : (x : Y) → (t : K) × HasGroup t x
  group_of_point x = cover_from (length (site x)) first x one one_in (everywhere (act one x)) (omega arith)

  -- each kept set has the group of some point
  pub point_of_group : (k : K) → (y : Y) × HasGroup k y
  point_of_group k =
      let r = generic k in
      let is : (e : X) → Contains (site r.0) e ↔ Contains (full k) e = λ e. ((λ c. let s = (site_is r.0 e).0 c in r.2 e s.0 s.1), (λ c. full_in_site k r.0 r.1 e c)) in
      (r.0, (one, one_in, λ e. subst (λ v. Contains (site v) e ↔ Contains (full k) e) (sym (act_one r.0)) (is e)))

  -- so many elements fix a point
  pub group_length : (k : K) (x : Y) → HasGroup k x → length (site x) ≡ length (full k)
  group_length k x p =
      let le = members.pigeonhole eq same (site (act p.0 x)) (full k) (site_distinct (act p.0 x)) (λ e c. (p.2 e).0 c) in
      let ge = members.pigeonhole eq same (full k) (site (act p.0 x)) (distinct k) (λ e c. (p.2 e).1 c) in
      omega (arith, le, ge, site_length sites p.0 x p.1)
