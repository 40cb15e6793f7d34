-- Lists in strict order: two with the same members are one list.
use Rattle.std.proofs.Common.{◌≡◌, ◌≢◌, ◌↔◌, ◌+◌, List, ◌∷◌, refl, sym, ap, ◌∙◌, get_or, arith, false, Contains, AllPairs, IsSortedBy, Ordering, Less, Equal, Greater}
use Rattle.std.specs.Cmp.{IsTotalOrder}
use Rattle.std.specs.Ordering.{ordering_reverse, is_lt}
use Rattle.std.specs.List.Sorted.{IsStrictlySortedBy}
use Rattle.std.proofs.lemmas.Bool.{true≢false}
use Rattle.std.proofs.lemmas.Map.Keys.{Less-from_sorted, sorted_from_all_adjacent}
use Rattle.finite_groups.proofs.Pairs.{in_rest, one_list_in_order}

module _ {X : Type 0} (R : X → X → Ordering) (total : IsTotalOrder R) where
  both_below : (x y : X) → R x y ≡ Less → R y x ≡ Less → ⊥
  both_below x y p q = let e : Less ≡ ordering_reverse Less = sym p ∙ total.antisymm x y ∙ ap ordering_reverse q in cc

  pub one_order : (xs ys : List X) → IsStrictlySortedBy R xs → IsStrictlySortedBy R ys → ((x : X) → Contains xs x ↔ Contains ys x) → xs ≡ ys
  one_order xs ys s t m =
      one_list_in_order (λ x y. R x y ≡ Less) xs ys (λ x y c d l k. both_below x y l k) (λ i j d l k. Less-from_sorted R xs i j d s l k) (λ i j d l k. Less-from_sorted R ys i j d t l k) m

  -- two lists that begin alike, are in strict order from there on, lack their first later, and have the same members
  pub one_order_after : (x : X) (xs ys : List X) → (Contains xs x → ⊥) → (Contains ys x → ⊥) → IsStrictlySortedBy R xs → IsStrictlySortedBy R ys → ((z : X) → Contains (x ∷ xs) z ↔ Contains (x ∷ ys) z) → x ∷ xs ≡ x ∷ ys
  one_order_after x xs ys n m s t h = ap (λ v. x ∷ v) (one_order xs ys s t (λ z. (in_rest x z xs ys n (h z).0, in_rest x z ys xs m (h z).1)))

  -- sorted, with no two alike: in strict order
  pub strict_from_sorted : ((p q : X) → R p q ≡ Equal → p ≡ q) → (xs : List X) (d : X) → IsSortedBy (λ x y. is_lt (R x y)) xs → AllPairs (λ x y. x ≢ y) xs → IsStrictlySortedBy R xs
  strict_from_sorted ties xs d s a = sorted_from_all_adjacent total xs d (λ k l. less (R (get_or xs k d) (get_or xs (k + 1) d)) (get_or xs k d) (get_or xs (k + 1) d) refl (s k d (omega arith) l) (a k (k + 1) d (omega arith) l))
    where
      less : (o : Ordering) (p q : X) → R p q ≡ o → is_lt (R q p) ≡ false → p ≢ q → o ≡ Less
      less Less p q e f n = refl
      less Equal p q e f n = absurd (n (ties p q e))
      less Greater p q e f n = absurd (true≢false (sym (ap is_lt (total.antisymm q p ∙ ap ordering_reverse e)) ∙ f))
