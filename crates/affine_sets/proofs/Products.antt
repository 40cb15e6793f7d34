-- Products of given maps: each of these, and the products of two.
use Rattle.std.proofs.Common.{◌≡◌, ◌++◌, ◌∷◌, [], List, map, fold, Contains, inl, ap, sym, refl, ◌∙◌}
use Rattle.std.proofs.lemmas.List.Elements.{All-append, All-cons, All-nil}
use Rattle.std.proofs.lemmas.List.Sums.{fold-append}
use Rattle.finite_groups.proofs.Members as lists
use Rattle.lattice_algebra.specs.Operator.{Operator}
use Rattle.lattice_algebra.specs.Map.{Map, ◌∘◌, identity_map}
use Rattle.lattice_algebra.proofs.Maps.{∘_assoc, ∘-identity, identity-∘}
use Rattle.affine_sets.specs.declared.growth.Placed.{Placed}
use Rattle.affine_sets.specs.Growth.{placed_map, IsLetter, IsProduct, given_maps}

pub given_product : (given : List Map) (b : Map) → Contains given b → IsProduct given b
given_product given b c = (b ∷ [], All-cons (IsLetter given) b [] (inl c) (All-nil (IsLetter given)), identity-∘ b)

fold_after : (x y : Map) (word : List Map) → fold ◌∘◌ (x ∘ y) word ≡ x ∘ fold ◌∘◌ y word
fold_after x y [] = refl
fold_after x y (e ∷ word) = ap (λ u. fold ◌∘◌ u word) (∘_assoc x y e) ∙ fold_after x (y ∘ e) word

pub product_after : (given : List Map) (a b : Map) → IsProduct given a → IsProduct given b → IsProduct given (a ∘ b)
product_after given a b p q = (
  p.0 ++ q.0,
  All-append (IsLetter given) p.0 q.0 p.1 q.1,
  fold-append ◌∘◌ identity_map p.0 q.0 ∙ ap (λ u. fold ◌∘◌ u q.0) (p.2 ∙ sym (∘-identity a)) ∙ fold_after a identity_map q.0 ∙ ap (λ v. a ∘ v) q.2,
)

pub new_given : (members : List Operator) (old : List Placed) (e : Placed) → Contains (given_maps members old e) (placed_map members e)
new_given members old e = lists.Contains-here (placed_map members e) (map (placed_map members) old)

pub old_given : (members : List Operator) (old : List Placed) (e h : Placed) → Contains old h → Contains (given_maps members old e) (placed_map members h)
old_given members old e h c = lists.Contains-later (placed_map members h) (placed_map members e) (map (placed_map members) old) (lists.Contains-map (placed_map members) h old c)
