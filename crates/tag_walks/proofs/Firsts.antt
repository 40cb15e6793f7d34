-- The lines taken from a walk are the first of the whole list.
use Rattle.std.proofs.Common.{◌≡◌, ℕ, ◌<◌, List, [], ◌∷◌, ◌++◌, ⊎_elim, ap₂, sym, subst, refl, arith, Contains, AllPairs}
use Rattle.std.proofs.lemmas.List.Elements.{All-contains}
use Rattle.finite_groups.proofs.Members as lists
use Rattle.finite_groups.proofs.Pairs.{AllPairs-first, AllPairs-rest}
use Rattle.tag_walks.specs.Regions.{Region, IsRegion, IsListed, Lines, IsFirstList, IsTagWalk}
use Rattle.tag_walks.proofs.Walks.{one_listed}

-- a list in order whose members are the first of another; of two members of the longer one, one stands before
first_part : {X : Type 0} (R : X → X → Type 0) (xs ys : List X) → ((a b : X) → Contains ys a → Contains ys b → R a b → R b a → ⊥) → AllPairs R xs → AllPairs R ys → ((x : X) → Contains xs x → Contains ys x)
    → ((y x : X) → Contains ys y → Contains xs x → R y x → Contains xs y) → (rest : List X) × (ys ≡ xs ++ rest)
first_part R [] ys n s t into down = (ys, refl)
first_part R (x ∷ xs) [] n s t into down = lists.not_in_nil x (into x (lists.Contains-here x xs))
first_part R (x ∷ xs) (y ∷ ys) n s t into down =
    let here = lists.Contains-here x xs in
    let there = lists.Contains-here y ys in
    let heads : y ≡ x = ⊎_elim (λ e. e) (λ c.
    let before = AllPairs-first R y x ys t c in
    ⊎_elim (λ e. sym e) (λ d. absurd (n x y (into x here) there (AllPairs-first R x y xs s d) before)) (lists.Contains-cases y x xs (down y x there here before)))
    (lists.Contains-cases x y ys (into x here)) in
    let t' : AllPairs R (x ∷ ys) = subst (λ v. AllPairs R (v ∷ ys)) heads t in
    let itself : (z : _) → x ≡ z → R x z → ⊥ = λ z e r. n x x (into x here) (into x here) (subst (R x) (sym e) r) (subst (R x) (sym e) r) in
    let later : (z : _) → Contains (x ∷ ys) z → Contains xs z → Contains ys z = λ z c d. ⊎_elim (λ e. absurd (itself z e (AllPairs-first R x z xs s d))) (λ q. q) (lists.Contains-cases z x ys c) in
    let r = first_part R xs ys (λ a b c d. n a b (lists.Contains-later a y ys c) (lists.Contains-later b y ys d)) (AllPairs-rest R x xs s) (AllPairs-rest R x ys t')
    (λ z c. later z (subst (λ v. Contains (v ∷ ys) z) heads (into z (lists.Contains-later z x xs c))) c)
    (λ z w c d l. ⊎_elim
    (λ e. absurd (itself z e (AllPairs-first R x z ys t' c)))
    (λ q. q)
    (lists.Contains-cases z x xs (down z w (lists.Contains-later z y ys c) (lists.Contains-later w x xs d) l))) in
    (r.0, ap₂ (λ a b. a ∷ b) {v = xs ++ r.0} heads r.1)

module _ (R : Region) (M : Lines R) (region : IsRegion R) where
  open R use {X, In, Before, Equivalent, place}
  open M use {L, at, IsLine}

  module _ (one_line : (a b : L) → IsLine a → IsLine b → at a ≡ at b → a ≡ b) (from : ℕ) (tags : List _) (taken list : List L) (walk : IsTagWalk R M from tags taken) (whole : IsFirstList R M list) where
    listed_of : (x : L) → Contains taken x → IsListed R (at x)
    listed_of x c = All-contains (λ (y : L). IsListed R (at y)) taken x walk.listed c

    listed_in : (x : L) → Contains list x → IsListed R (at x)
    listed_in x c = (whole.exactly (at x)).0 (lists.Contains-map at x list c)

    in_list : (x : L) → Contains taken x → Contains list x
    in_list x c =
        let r = lists.Contains-from_map at (at x) list ((whole.exactly (at x)).1 (listed_of x c)) in
        subst (Contains list) (one_line r.0 x (All-contains IsLine list r.0 whole.lines r.1) (All-contains IsLine taken x walk.lines c) r.2) r.1

    downward : (y x : L) → Contains list y → Contains taken x → Before (at y) (at x) → Contains taken y
    downward y x c d l =
        let p = listed_in y c in
        let less = (region.order (at y) (at x) p.in_region (listed_of x d).in_region).0 l in
        let there : place (at y) < from = omega (arith, less, All-contains (λ (z : L). place (at z) < from) taken x walk.before d) in
        let r = (walk.tagged (at y) p.in_region).0 (walk.passed (at y) p.in_region there) in
        let e = one_listed R region (at r.line) (at y) (listed_of r.line r.member) p r.equivalent in
        subst (Contains taken) (one_line r.line y (All-contains IsLine taken r.line walk.lines r.member) (All-contains IsLine list y whole.lines c) e) r.member

    both_before : (a b : L) → Contains list a → Contains list b → Before (at a) (at b) → Before (at b) (at a) → ⊥
    both_before a b c d l m =
        let i = (listed_in a c).in_region in
        let j = (listed_in b d).in_region in
        let p = (region.order (at a) (at b) i j).0 l in
        let q = (region.order (at b) (at a) j i).0 m in
        omega (arith, p, q)

    pub taken_first : (rest : List L) × (list ≡ taken ++ rest)
    taken_first = first_part (λ (a b : L). Before (at a) (at b)) taken list both_before walk.ordered whole.ordered in_list downward
