-- The group of the identity alone, with which the search begins.
use Rattle.std.proofs.Common.{◌≡◌, ◌≢◌, ◌<◌, ◌↔◌, List, [], ◌∷◌, length, Contains, AllPairs, ap, sym, ◌∙◌, subst, arith, ⊎_elim, refl}
use Rattle.std.proofs.lemmas.List.Elements.{All-cons}
use Rattle.std.proofs.lemmas.Option.{slice_get_within}
use Rattle.lattice_algebra.specs.Matrix.{Column, origin, ◌+ᶜ◌, times}
use Rattle.lattice_algebra.specs.Operator.{Operator, AreWithin, modulo}
use Rattle.lattice_algebra.specs.Map.{Map, ◌∘◌, identity_map, IsShift}
use Rattle.lattice_algebra.proofs.Maps.{identity-∘, one_shift}
use Rattle.finite_groups.proofs.Members as lists
use Rattle.exact_ops.specs.declared.TheConstants.{UNIT}
use Rattle.exact_ops.proofs.Narrow.{some_parts}
use Rattle.group_closure.specs.GroupList.{IsGroup}
use Rattle.site_symmetry.proofs.SpaceOfGroup.{space_of}
use Rattle.space_groups.specs.Space.{IsElement, ScaledPoint, moved}
use Rattle.space_groups.specs.Averages.{Block, block_of, IsMean, IsInImage}
use Rattle.space_groups.specs.Search.{IsSub, IsFull, FixAll}
use Rattle.space_groups.proofs.Elements.{SpaceGroup, space}
use Rattle.space_groups.proofs.ScaledPoints.{moved-identity}
use Rattle.space_groups.proofs.Means.{vec, vec-moved, same_on_points}
use Rattle.affine_sets.specs.declared.TheConstants.{MAX_NEAR_SHIFT}
use Rattle.affine_sets.specs.Subs.{AreElements, AreShiftsWithin}
use Rattle.wyckoff_rows.specs.Steps.{IsEntry, IsAverageNearOrigin, AreKept}
use Rattle.wyckoff_rows.specs.declared.entry.Entry.{Entry}
use Rattle.wyckoff_rows.proofs.Meeting.{kept_more}

pub only_one : (e : Map) → Contains (identity_map ∷ []) e → e ≡ identity_map
only_one e c = ⊎_elim (λ p. sym p) (λ p. absurd (lists.not_in_nil e p)) (lists.Contains-cases e identity_map [] c)

-- a list that has the identity alone, once
pub single : (xs : List Map) → AllPairs (λ e g. e ≢ g) xs → ((e : Map) → Contains xs e ↔ (e ≡ identity_map)) → xs ≡ identity_map ∷ []
single [] o h = absurd (lists.not_in_nil identity_map ((h identity_map).1 refl))
single (x ∷ []) o h = ap (λ y. y ∷ []) ((h x).0 (lists.Contains-here x []))
single (x ∷ y ∷ xs) o h = absurd (o 0 1 x (omega arith) (omega arith) ((h x).0 (lists.Contains-here x (y ∷ xs)) ∙ sym ((h y).0 (lists.Contains-later y x (y ∷ xs) (lists.Contains-here y xs)))))

module _ (members : List Operator) (group : IsGroup members) where
  abbrev L : SpaceGroup
  L = space_of members group

  pub trivial_elements : AreElements members (identity_map ∷ [])
  trivial_elements = All-cons (IsElement UNIT members) identity_map [] (space L).one_in (λ k d l. absurd (omega (arith, l)))

  pub trivial_sub : IsSub UNIT members (identity_map ∷ [])
  trivial_sub = record {
    elements = trivial_elements;
    once = λ i j d l b. absurd (omega (arith, l, b));
    identity = lists.Contains-here identity_map [];
    products = λ e f p q. subst (Contains (identity_map ∷ [])) (sym (ap (λ x. x ∘ f) (only_one e p) ∙ identity-∘ f ∙ only_one f q)) (lists.Contains-here identity_map []);
  }

  no_shift : IsShift UNIT identity_map origin
  unfolding modulo ◌+ᶜ◌ times
  no_shift = refl

  trivial_shifts : AreShiftsWithin MAX_NEAR_SHIFT (identity_map ∷ [])
  trivial_shifts = All-cons Small identity_map [] (λ k s. subst (λ (c : Column). AreWithin MAX_NEAR_SHIFT c.x c.y c.z) (one_shift UNIT some_parts identity_map origin k no_shift s) (record { first = omega arith; second = omega arith; third = omega arith })) (λ k d l. absurd (omega (arith, l)))
    where
      Small : Map → Type 0
      Small e = (k : Column) → IsShift UNIT e k → AreWithin MAX_NEAR_SHIFT k.x k.y k.z

  pub trivial_near : (a : Block) → IsMean (length members) (identity_map ∷ []) a → IsAverageNearOrigin members a
  trivial_near a m = record { group = identity_map ∷ []; is_group = trivial_sub; mean = m; shifts = trivial_shifts }

  -- what fixes every point is the identity
  pub fixes_all : (e : Map) → ((z : ScaledPoint) → moved e z ≡ z) → e ≡ identity_map
  unfolding block_of
  fixes_all e h = ap (λ (b : Block). let f : Map = record { w = b.m; s = b.t } in f) (same_on_points (block_of e) (block_of identity_map) refl (λ y. vec-moved e y ∙ ap vec (h y ∙ sym (moved-identity y)) ∙ sym (vec-moved identity_map y)))

  pub trivial_full : (a : Block) (set : List Map) → ((z : ScaledPoint) → IsInImage a z ↔ FixAll (identity_map ∷ []) z) → IsFull UNIT members a set → set ≡ identity_map ∷ []
  trivial_full a set image f = single set f.once (λ e. ((λ c. fixes_all e (λ z. ((f.exactly e).0 c).1 z ((image z).1 (λ x d. subst (λ m. moved m z ≡ z) (sym (only_one x d)) (moved-identity z))))), (λ p. (f.exactly e).1 (subst (IsElement UNIT members) (sym p) (space L).one_in, (λ y i. subst (λ m. moved m y ≡ y) (sym p) (moved-identity y))))))

  pub first_kept : (t : Entry) → IsEntry members t → AreKept members (t ∷ [])
  first_kept t h = kept_more members [] t (record { group = group; each = λ k d l. absurd (omega (arith, l)); apart = λ i j d l b. absurd (omega (arith, b)) }) h (λ s c. absurd (lists.not_in_nil s c))

pub some_in_group : (members : List Operator) → IsGroup members → 0 < length members
some_in_group members g = slice_get_within members 0 _ g.first
