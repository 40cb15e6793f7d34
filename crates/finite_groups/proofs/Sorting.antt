-- The members of each list, in strict order.
use Rattle.std.proofs.Common.{◌≡◌, ◌∷◌, [], ◌⊎◌, inl, inr, ⊎_elim, ◌↔◌, List, Contains, AllPairs, get_or, sym, ◌∙◌, subst, arith}
use Rattle.std.proofs.lemmas.List.Elements.{Contains-get_or}
use Rattle.std.proofs.lemmas.List.Kept.{AllPairs-cons}
use Rattle.finite_groups.proofs.Members as lists
use Rattle.finite_groups.proofs.Pairs.{AllPairs-first, AllPairs-rest}

module _ {X : Type 0} (Before : X → X → Type 0) (on : (a b c : X) → Before a b → Before b c → Before a c) (which : (a b : X) → Before a b ⊎ ((a ≡ b) ⊎ Before b a)) where
  in_front : (x : X) (xs : List X) → ((y : X) → Contains xs y → Before x y) → AllPairs Before xs → AllPairs Before (x ∷ xs)
  in_front x xs h s = AllPairs-cons Before x xs (λ k d l. h (get_or xs k d) (Contains-get_or xs k d l)) s

  -- a list in strict order with the members of ys, and x
  abbrev With : X → List X → Type 0
  With x ys = (zs : List X) × AllPairs Before zs × ((z : X) → Contains zs z ↔ ((x ≡ z) ⊎ Contains ys z))

  insert : (x : X) (ys : List X) → AllPairs Before ys → With x ys
  insert x [] s = (x ∷ [], in_front x [] (λ y c. lists.not_in_nil y c) s, λ z. (lists.Contains-cases z x [], ⊎_elim (λ e. subst (Contains (x ∷ [])) e (lists.Contains-here x [])) (λ c. lists.not_in_nil z c)))
  insert x (y ∷ ys) s = step (insert x ys (AllPairs-rest Before y ys s)) (which x y)
    where
      step : With x ys → Before x y ⊎ ((x ≡ y) ⊎ Before y x) → With x (y ∷ ys)
      step r (inl b) = (
        x ∷ y ∷ ys,
        in_front x (y ∷ ys) (λ z c. ⊎_elim (λ e. subst (Before x) e b) (λ d. on x y z b (AllPairs-first Before y z ys s d)) (lists.Contains-cases z y ys c)) s,
        λ z. (lists.Contains-cases z x (y ∷ ys), ⊎_elim (λ e. subst (Contains (x ∷ y ∷ ys)) e (lists.Contains-here x (y ∷ ys))) (λ c. lists.Contains-later z x (y ∷ ys) c)),
      )
      step r (inr (inl e)) = (y ∷ ys, s, λ z. ((λ c. inr c), ⊎_elim (λ q. subst (Contains (y ∷ ys)) (sym e ∙ q) (lists.Contains-here y ys)) (λ c. c)))
      step r (inr (inr b)) = (
        y ∷ r.0,
        in_front y r.0 (λ z c. ⊎_elim (λ e. subst (Before y) e b) (λ d. AllPairs-first Before y z ys s d) ((r.2 z).0 c)) r.1,
        λ z. (
          (λ c. ⊎_elim (λ e. inr (subst (Contains (y ∷ ys)) e (lists.Contains-here y ys))) (λ d. ⊎_elim (λ e. inl e) (λ m. inr (lists.Contains-later z y ys m)) ((r.2 z).0 d)) (lists.Contains-cases z y r.0 c)),
          ⊎_elim (λ e. lists.Contains-later z y r.0 ((r.2 z).1 (inl e)))
              (λ c. ⊎_elim (λ e. subst (Contains (y ∷ r.0)) e (lists.Contains-here y r.0)) (λ m. lists.Contains-later z y r.0 ((r.2 z).1 (inr m))) (lists.Contains-cases z y ys c)),
        ),
      )

  pub sorted : (xs : List X) → (ys : List X) × AllPairs Before ys × ((z : X) → Contains xs z ↔ Contains ys z)
  sorted [] = ([], (λ i j d l m. absurd (omega arith)), λ z. ((λ c. c), (λ c. c)))
  sorted (x ∷ xs) =
      let r = sorted xs in
      let w = insert x r.0 r.1 in (
        w.0,
        w.1,
        λ z. (
          (λ c. (w.2 z).1 (⊎_elim (λ e. inl e) (λ d. inr ((r.2 z).0 d)) (lists.Contains-cases z x xs c))),
          (λ c. ⊎_elim (λ e. subst (Contains (x ∷ xs)) e (lists.Contains-here x xs)) (λ d. lists.Contains-later z x xs ((r.2 z).1 d)) ((w.2 z).0 c)),
        ),
      )
