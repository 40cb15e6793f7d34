-- The first points of orbits, found from place to place.
use Rattle.std.proofs.Common.{◌≡◌, ◌≢◌, ℕ, ◌+◌, ◌<◌, List, length, get_or, inl, inr, ⊎_elim, sym, ◌∙◌, subst}
use Rattle.std.proofs.lemmas.List.{get_or_default}
use Rattle.lattice_algebra.specs.Operator.{Operator}
use Rattle.group_closure.specs.GroupList.{IsGroup}
use Rattle.tag_walks.proofs.FirstPlaces.{AreUpTo, up_to_none, up_to_more, up_to_kept, up_to_all}
use Rattle.grid_tags.specs.Grids.{Grid, Triple, IsInGrid, IsGridInRange, IsKept, place_of, points}
use Rattle.grid_tags.specs.GridLists.{AreFirstPoints, grid_region}
use Rattle.grid_tags.specs.Steps.{AreOwnPlaces, AreTagged}
use Rattle.grid_tags.proofs.Tags.{sides_of, region, place_within, orbit_tagged}
use Rattle.grid_tags.proofs.Whole.{full}

-- a number that was read
read : (firsts : List ℕ) (k n : ℕ) → k < length firsts → n ≡ get_or firsts k n → get_or firsts k 0 ≡ n
read firsts k n l e = get_or_default firsts k 0 n l ∙ sym e

-- the places before k were come to
abbrev pub AreFirstUpTo : List Operator → Grid → ℕ → List ℕ → Type 0
AreFirstUpTo members s k firsts = AreUpTo (grid_region members s) k firsts

module _ (members : List Operator) (s : Grid) (group : IsGroup members) (range : IsGridInRange s) (kept : IsKept members s) where
  pub begun : (firsts : List ℕ) → AreOwnPlaces firsts (points s) → AreFirstUpTo members s 0 firsts
  begun firsts own = up_to_none (grid_region members s) firsts (λ p i. own (place_of s p) (place_within s p i))

  pub own_given : (firsts lent tags new : List ℕ) (k n : ℕ) (p : Triple) → AreFirstUpTo members s k firsts → k < length firsts → n ≡ get_or firsts k n → n ≡ k → IsInGrid s p → place_of s p ≡ k
      → lent ≡ firsts → AreTagged members s p k lent tags (length members) → new ≡ tags → AreFirstUpTo members s (k + 1) new
  own_given firsts lent tags new k n p up l e own i at was tagged same =
      subst (AreFirstUpTo members s (k + 1)) (sym same)
      (up_to_more (grid_region members s) (region members s (sides_of s range) group kept) k p i at firsts tags up (read firsts k n l e ∙ own)
      (λ q j. ⊎_elim (λ t. inl (t.0, t.1 0)) (λ t. inr (t.0, t.1 0)) (orbit_tagged members s (sides_of s range) group kept p k firsts tags (subst (λ old. AreTagged members s p k old tags (length members)) was tagged) q j)))

  pub other_kept : (firsts : List ℕ) (k n : ℕ) → AreFirstUpTo members s k firsts → k < points s → k < length firsts → n ≡ get_or firsts k n → n ≢ k → AreFirstUpTo members s (k + 1) firsts
  other_kept firsts k n up within l e other =
      let x = full members s group range kept k within in
      up_to_kept (grid_region members s) (region members s (sides_of s range) group kept) k x.0 x.1.in_region x.1.at_place firsts up (λ own. other (sym (read firsts k n l e) ∙ own))

  pub all_come_to : (firsts : List ℕ) → length firsts ≡ points s → AreFirstUpTo members s (points s) firsts → AreFirstPoints members s firsts
  all_come_to firsts len up = up_to_all (grid_region members s) firsts (region members s (sides_of s range) group kept) len up
