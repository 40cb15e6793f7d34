-- The loop over the first elements of the blocks: each is left when the products of its block by the given maps are held.
use Rattle.std.proofs.Common.{◌≡◌, ◌+◌, ◌<◌, ◌≤◌, ℕ, Option, Some, List, Contains, length, get_or, slice_get, inl, inr, ap, sym, ◌∙◌, subst, arith}
use Rattle.std.proofs.lemmas.Bool.{cases_lt}
use Rattle.std.proofs.lemmas.Option.{same_Some, slice_get-get_or}
use Rattle.lattice_algebra.specs.Operator.{Operator}
use Rattle.lattice_algebra.specs.Map.{Map, ◌∘◌}
use Rattle.lattice_algebra.proofs.Maps.{∘_assoc}
use Rattle.affine_sets.specs.declared.growth.Placed.{Placed}
use Rattle.affine_sets.specs.declared.numbers.Offset.{Offset}
use Rattle.affine_sets.specs.Growth.{placed_map, HoldsMap, IsGrowing, Extends}
use Rattle.affine_sets.proofs.PlacedMaps.{few_places}
use Rattle.affine_sets.proofs.Putting.{firsts_within}

module _ (members : List Operator) (old : List Placed) where
  -- there are no more blocks than members
  pub few_blocks : (held : List (Option Offset)) (firsts : List Placed) → IsGrowing members old held firsts → length firsts ≤ length members
  few_blocks held firsts g = few_places (length members) firsts (firsts_within members old firsts held g) g.apart

  -- the products by the given maps of the first n firsts are held
  abbrev pub AreDone : List Map → List (Option Offset) → List Placed → ℕ → Type 0
  AreDone given held firsts n = (j : ℕ) (r : Placed) (b : Map) → j < n → slice_get firsts j ≡ Some r → Contains given b → HoldsMap members held (placed_map members r ∘ b)

  pub one_done : (given : List Map) (held more : List (Option Offset)) (firsts longer : List Placed) (n : ℕ) (r : Placed) → AreDone given held firsts n → n < length firsts → slice_get firsts n ≡ Some r → Extends firsts longer
      → ((y : Map) → HoldsMap members held y → HoldsMap members more y) → ((b : Map) → Contains given b → HoldsMap members more (placed_map members r ∘ b)) → AreDone given more longer (n + 1)
  one_done given held more firsts longer n r was l at extends keeps times j x b m e c = elim (cases_lt j n) [
    | inl p ↦
        let d = slice_get-get_or firsts j x (omega (arith, p, l)) in
        let same : get_or firsts j x ≡ x = same_Some _ x (sym (extends j _ d) ∙ e) in
        keeps _ (was j x b p (d ∙ ap Some same) c)
    | inr p ↦
        let k : n ≡ j = omega (arith, p, m) in
        let same : r ≡ x = same_Some r x (sym (extends n r at) ∙ ap (slice_get longer) k ∙ e) in
        subst (λ (v : Placed). HoldsMap members more (placed_map members v ∘ b)) same (times b c)
  ]

  -- when all are done, what is held is closed under products by the given maps
  pub all_done : (given : List Map) (held : List (Option Offset)) (firsts : List Placed) (n : ℕ) → IsGrowing members old held firsts → AreDone given held firsts n → length firsts ≤ n
      → (y b : Map) → HoldsMap members held y → Contains given b → HoldsMap members held (y ∘ b)
  all_done given held firsts n g done l y b h c =
      let o = g.origin y h in
      let at : slice_get firsts o.1.0 ≡ Some o.0 = slice_get-get_or firsts o.1.0 o.0 o.1.1 ∙ ap Some o.1.2 in
      let first = done o.1.0 o.0 b (omega (arith, o.1.1, l)) at c in
      let block = g.blocks o.2.0 (placed_map members o.0 ∘ b) o.2.1 first in
      subst (HoldsMap members held) (sym (∘_assoc (placed_map members o.2.0) (placed_map members o.0) b) ∙ ap (λ m. m ∘ b) o.2.2) block
