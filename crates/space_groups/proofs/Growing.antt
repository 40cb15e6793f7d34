-- What a closed list and one more element generate: the points that it fixes, and when it is finite.
-- For the search to come: what a kept set and one more element make.
use Rattle.std.proofs.Common.{◌≡◌, ◌∷◌, [], ◌↔◌, List, fold, All, Contains, ap, sym, ◌∙◌, subst, ⊎_elim}
use Rattle.std.proofs.lemmas.List.Elements.{All-contains, All-head, All-tail}
use Rattle.std.proofs.lemmas.Map.Made.{IsDistinct-from_AllPairs, AllPairs-from_IsDistinct}
use Rattle.lattice_algebra.specs.Map.{Map, ◌∘◌, identity_map, undo}
use Rattle.lattice_algebra.proofs.Maps.{map_eq-is}
use Rattle.finite_groups.specs.Words.{IsLetter, Span, IsClosedList}
use Rattle.finite_groups.proofs.Members as lists
use Rattle.finite_groups.proofs.Basics as basics
use Rattle.finite_groups.proofs.Closing as closing
use Rattle.finite_groups.proofs.Conjugates as conjugates
use Rattle.space_groups.specs.Space.{IsElement, ScaledPoint, moved}
use Rattle.space_groups.specs.Search.{IsSub, FixAll}
use Rattle.space_groups.proofs.ScaledPoints.{moved-∘, moved-identity}
use Rattle.space_groups.proofs.Elements.{SpaceGroup, space, on_points}
use Rattle.space_groups.proofs.Divided.{one_rotation}

module _ (L : SpaceGroup) where
  open L use {unit, some, members, closed}

  -- a finite group of elements is a closed list
  pub closed_sub : (list : List Map) → IsSub unit members list → IsClosedList (space L) list
  closed_sub list s = record { distinct = IsDistinct-from_AllPairs map_eq-is list s.once; valid = s.elements; has_one = s.identity; closed = s.products }

  pub sub_closed : (list : List Map) → IsClosedList (space L) list → IsSub unit members list
  sub_closed list c = record { elements = c.valid; once = AllPairs-from_IsDistinct map_eq-is list c.distinct; identity = c.has_one; products = c.closed }

  -- a letter fixes what all generators fix
  letter_fixes : (gens : List Map) → All (IsElement unit members) gens → (z : ScaledPoint) → FixAll gens z → (e : Map) → IsLetter (space L) gens e → moved e z ≡ z
  letter_fixes gens v z h e l = ⊎_elim (λ c. h e c)
      (λ r.
      let m = All-contains (IsElement unit members) gens r.0 v r.1 in
      let q : e ≡ undo r.0 = basics.inverse_once (space L) r.0 e m r.2 r.3 in
      ap (λ x. moved x z) q ∙ ap (moved (undo r.0)) (sym (h r.0 r.1)) ∙ conjugates.act_back (space L) (on_points L) r.0 z m) l

  word_fixes : (gens : List Map) → All (IsElement unit members) gens → (z : ScaledPoint) → FixAll gens z → (w : List Map) (x : Map) → moved x z ≡ z → All (IsLetter (space L) gens) w → moved (fold ◌∘◌ x w) z ≡ z
  word_fixes gens v z h [] x f l = f
  word_fixes gens v z h (e ∷ w) x f l =
      word_fixes gens v z h w (x ∘ e) (moved-∘ x e z ∙ ap (moved x) (letter_fixes gens v z h e (All-head (IsLetter (space L) gens) e w l)) ∙ f) (All-tail (IsLetter (space L) gens) e w l)

  -- what all generators fix, each value of a word fixes
  pub span_fixes : (gens : List Map) → All (IsElement unit members) gens → (z : ScaledPoint) → FixAll gens z → (x : Map) → Span (space L) gens x → moved x z ≡ z
  span_fixes gens v z h x s = subst (λ y. moved y z ≡ z) s.2 (word_fixes gens v z h s.0 identity_map (moved-identity z) s.1)

  -- so a list of all values fixes exactly what the old members and the new one fix
  pub generated_fixes : (ss list : List Map) (e : Map) → All (IsElement unit members) (e ∷ ss) → ((x : Map) → Contains list x ↔ Span (space L) (e ∷ ss) x) → (z : ScaledPoint) → FixAll list z ↔ (FixAll ss z × (moved e z ≡ z))
  generated_fixes ss list e v same z = (
    (λ h. ((λ s c. h s ((same s).1 (gen s (lists.Contains-later s e ss c)))), h e ((same e).1 (gen e (lists.Contains-here e ss))))),
    (λ p x c. span_fixes (e ∷ ss) v z (λ s d. ⊎_elim (λ q. subst (λ y. moved y z ≡ z) q p.1) (p.0 s) (lists.Contains-cases s e ss d)) x ((same x).0 c)),
  )
    where
      gen : (s : Map) → Contains (e ∷ ss) s → Span (space L) (e ∷ ss) s
      gen s c =
          let m = All-contains (IsElement unit members) (e ∷ ss) s v c in
          subst (Span (space L) (e ∷ ss)) ((space L).left s m) (closing.span_gen (space L) (e ∷ ss) identity_map s (closing.span_one (space L) (e ∷ ss)) c)

  -- where all fix a point, two values of words with one rotation are one; so a growing list that meets a second one has no common fixed point
  pub span_rotation : (gens : List Map) → All (IsElement unit members) gens → (z : ScaledPoint) → FixAll gens z → (x y : Map) → Span (space L) gens x → Span (space L) gens y → x.w ≡ y.w → x ≡ y
  span_rotation gens v z h x y s t e = one_rotation x y z (span_fixes gens v z h x s) (span_fixes gens v z h y t) e
