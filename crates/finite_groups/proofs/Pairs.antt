-- Lists in which a relation holds of each element and each later one.
use Rattle.std.proofs.Common.{◌≡◌, ◌++◌, ◌∷◌, [], ◌+◌, ◌<◌, ◌↔◌, suc, List, length, get_or, Contains, AllPairs, inl, inr, ⊎_elim, ap, ap₂, sym, subst, refl, ◌∙◌, arith, length-append}
use Rattle.std.proofs.lemmas.Bool.{cases_lt}
use Rattle.std.proofs.lemmas.List.{get_or_append_left}
use Rattle.std.proofs.lemmas.List.Elements.{Contains-get_or}
use Rattle.std.proofs.Math.Seq.{get_or-append_seam}
use Rattle.finite_groups.proofs.Members as members

pub AllPairs-append_one : {X : Type 0} (R : X → X → Type 0) (xs : List X) (y : X) → AllPairs R xs → ((x : X) → Contains xs x → R x y) → AllPairs R (xs ++ y ∷ [])
AllPairs-append_one R xs y h k i j d l m = elim (cases_lt j (length xs)) [
  | inl p ↦
      let a = get_or_append_left xs (y ∷ []) d i (omega (arith, l, p)) in
      let b = get_or_append_left xs (y ∷ []) d j p in
      subst (λ v. R (get_or (xs ++ y ∷ []) i d) v) (sym b) (subst (λ v. R v (get_or xs j d)) (sym a) (h i j d l p))
  | inr p ↦
      let n : length (xs ++ y ∷ []) ≡ length xs + 1 = length-append xs (y ∷ []) in
      let last : j ≡ length xs = omega (arith, n, m, p) in
      let i_in : i < length xs = omega (arith, l, last) in
      let a = get_or_append_left xs (y ∷ []) d i i_in in
      let b : get_or (xs ++ y ∷ []) j d ≡ y = ap (λ q. get_or (xs ++ y ∷ []) q d) last ∙ get_or-append_seam xs y [] d in
      subst (λ v. R (get_or (xs ++ y ∷ []) i d) v) (sym b) (subst (λ v. R v y) (sym a) (k (get_or xs i d) (Contains-get_or xs i d i_in)))
]

-- what a list has besides its first, another list with this first has besides it too
pub in_rest : {X : Type 0} (x z : X) (xs ys : List X) → (Contains xs x → ⊥) → (Contains (x ∷ xs) z → Contains (x ∷ ys) z) → Contains xs z → Contains ys z
in_rest x z xs ys n h c = ⊎_elim (λ e. absurd (n (subst (Contains xs) (sym e) c))) (λ d. d) (members.Contains-cases z x ys (h (members.Contains-later z x xs c)))

module _ {X : Type 0} (R : X → X → Type 0) where
  pub AllPairs-first : (x y : X) (xs : List X) → AllPairs R (x ∷ xs) → Contains xs y → R x y
  AllPairs-first x y xs h c = subst (R x) c.2 (h 0 (suc c.0) y (omega arith) (omega (arith, c.1)))

  pub AllPairs-rest : (x : X) (xs : List X) → AllPairs R (x ∷ xs) → AllPairs R xs
  AllPairs-rest x xs h i j d l m = h (suc i) (suc j) d (omega arith) (omega arith)

  -- two lists in order with the same members are one, where no two members stand before each other
  pub one_list_in_order : (xs ys : List X) → ((a b : X) → Contains xs a → Contains xs b → R a b → R b a → ⊥) → AllPairs R xs → AllPairs R ys → ((x : X) → Contains xs x ↔ Contains ys x) → xs ≡ ys
  one_list_in_order [] [] n s t m = refl
  one_list_in_order [] (y ∷ ys) n s t m = members.not_in_nil y ((m y).1 (members.Contains-here y ys))
  one_list_in_order (x ∷ xs) [] n s t m = members.not_in_nil x ((m x).0 (members.Contains-here x xs))
  one_list_in_order (x ∷ xs) (y ∷ ys) n s t m =
      let here = members.Contains-here x xs in
      let once : (zs : List X) → AllPairs R (x ∷ zs) → Contains zs x → ⊥ = λ zs h c. let r = AllPairs-first x x zs h c in n x x here here r r in
      let heads : x ≡ y = ⊎_elim (λ e. e) (λ c. ⊎_elim (λ e. sym e) (λ d. absurd (n x y here (members.Contains-later y x xs c) (AllPairs-first x y xs s c) (AllPairs-first y x ys t d))) (members.Contains-cases x y ys ((m x).0 here)))
      (members.Contains-cases y x xs ((m y).1 (members.Contains-here y ys))) in
      let t' : AllPairs R (x ∷ ys) = subst (λ v. AllPairs R (v ∷ ys)) (sym heads) t in
      ap₂ ◌∷◌ heads (one_list_in_order xs ys (λ a b p q. n a b (members.Contains-later a x xs p) (members.Contains-later b x xs q)) (AllPairs-rest x xs s) (AllPairs-rest y ys t) (λ z. (
        in_rest x z xs ys (once xs s) (λ c. subst (λ v. Contains (v ∷ ys) z) (sym heads) ((m z).0 c)),
        in_rest x z ys xs (once ys t') (λ c. (m z).1 (subst (λ v. Contains (v ∷ ys) z) heads c)),
      )))
