-- Elements by their places: the operator, the whole shift, and that each element is kept in one way alone.
use Rattle.std.proofs.Common.{◌≡◌, ◌≢◌, ◌++◌, ◌∷◌, [], ◌<◌, ◌≤◌, ℕ, pos, Some, List, All, AllPairs, Contains, length, length-append, get_or, slice_get, eqb, ap, sym, refl, ◌∙◌, arith}
use Rattle.std.specs.List.{range_with_len}
use Rattle.std.proofs.lemmas.Bool.Decides.{Decides-eqb}
use Rattle.std.proofs.lemmas.Option.{slice_get-get_or}
use Rattle.std.proofs.lemmas.List.Elements.{All-contains, All-push}
use Rattle.std.proofs.lemmas.List.FromFn.{length-range_with_len, get_or-range_with_len}
use Rattle.finite_groups.proofs.Members as lists
use Rattle.finite_groups.proofs.Pairs.{AllPairs-append_one}
use Rattle.lattice_algebra.specs.Matrix.{◌+ᶜ◌, times}
use Rattle.lattice_algebra.specs.Operator.{Operator, identity_operator}
use Rattle.lattice_algebra.specs.Map.{Map, identity_map, operator_of, IsShift}
use Rattle.lattice_algebra.proofs.Columns.{cancel_column, same_right}
use Rattle.lattice_algebra.proofs.Numbers.{above}
use Rattle.exact_ops.specs.declared.TheConstants.{UNIT}
use Rattle.exact_ops.proofs.Narrow.{some_parts}
use Rattle.group_closure.specs.GroupList.{IsGroup}
use Rattle.group_closure.proofs.Places.{contains_at, one_place}
use Rattle.space_groups.specs.Space.{IsElement}
use Rattle.site_symmetry.proofs.Shifts.{operator_of_member}
use Rattle.affine_sets.specs.declared.growth.Placed.{Placed}
use Rattle.affine_sets.specs.Fields.{offset_in, stored_offset}
use Rattle.affine_sets.specs.Growth.{placed_map, no_shift}
use Rattle.affine_sets.proofs.Placing.{at_place, at_place_is}

module _ (members : List Operator) (g : IsGroup members) where
  member_at : (x : Placed) → x.place < length members → slice_get members x.place ≡ Some (at_place members x)
  member_at x l = slice_get-get_or members x.place identity_operator l

  operator_is : (x : Placed) → x.place < length members → operator_of UNIT (placed_map members x) ≡ at_place members x
  operator_is x l = operator_of_member members (at_place members x) x.place (offset_in x.shift) g (member_at x l)

  -- the member at the place is the operator of the map
  pub placed_operator : (x : Placed) → x.place < length members → slice_get members x.place ≡ Some (operator_of UNIT (placed_map members x))
  placed_operator x l = member_at x l ∙ ap Some (sym (operator_is x l))

  pub placed_element : (x : Placed) → x.place < length members → IsElement UNIT members (placed_map members x)
  placed_element x l = contains_at members (operator_of UNIT (placed_map members x)) x.place (placed_operator x l)

  pub placed_shift : (x : Placed) → x.place < length members → IsShift UNIT (placed_map members x) (offset_in x.shift)
  unfolding operator_of
  placed_shift x l = ap (λ (f : Operator). f.t +ᶜ times (pos UNIT) (offset_in x.shift)) (sym (operator_is x l))

  -- maps of one operator stand at one place
  pub placed_at : (x y : Placed) → x.place < length members → y.place < length members → operator_of UNIT (placed_map members x) ≡ operator_of UNIT (placed_map members y) → x.place ≡ y.place
  placed_at x y p q e = one_place members (operator_of UNIT (placed_map members x)) x.place y.place g.distinct (placed_operator x p) (placed_operator y q ∙ ap Some (sym e))

  -- and no two elements that are kept have one map
  pub placed_once : (x y : Placed) → x.place < length members → y.place < length members → placed_map members x ≡ placed_map members y → x ≡ y
  placed_once x y p q e =
      let place : x.place ≡ y.place = placed_at x y p q (ap (operator_of UNIT) e) in
      let back = ap (λ k. (get_or members k identity_operator).t +ᶜ times (pos UNIT) (offset_in y.shift)) (sym place) in
      let parts = same_right (at_place members x).t (times (pos UNIT) (offset_in x.shift)) (times (pos UNIT) (offset_in y.shift)) (ap (λ (f : Map). f.s) e ∙ back) in
      let shift : offset_in x.shift ≡ offset_in y.shift = cancel_column (pos UNIT) (offset_in x.shift) (offset_in y.shift) (above UNIT some_parts) parts in
      let stored : x.shift ≡ y.shift = ap stored_offset shift in
      λ i. record { place = place i; shift = stored i }

-- places below n that differ are at most n
pub few_places : (n : ℕ) (xs : List Placed) → All (λ (x : Placed). x.place < n) xs → AllPairs (λ (a b : Placed). a.place ≢ b.place) xs → length xs ≤ n
few_places n xs within apart =
    let numbers = range_with_len 0 n in
    let at : (p : ℕ) → p < n → Contains numbers p = λ p l. (p, omega (arith, l, length-range_with_len 0 n), get_or-range_with_len 0 n p p l ∙ omega arith) in
    let few = lists.no_longer eqb Decides-eqb (λ (x : Placed) p. x.place ≡ p) numbers xs (λ i j d l m y a b. apart i j d l m (a ∙ sym b)) (λ x c. (x.place, at x.place (All-contains (λ (x : Placed). x.place < n) xs x within c), refl)) in
    omega (arith, few, length-range_with_len 0 n)

-- where one more has a place of its own, they are fewer
pub room_for_one : (n : ℕ) (xs : List Placed) (x : Placed) → All (λ (y : Placed). y.place < n) xs → AllPairs (λ (a b : Placed). a.place ≢ b.place) xs → x.place < n → ((y : Placed) → Contains xs y → y.place ≢ x.place) → length xs < n
room_for_one n xs x within apart l other =
    omega (arith, length-append xs (x ∷ []), few_places n (xs ++ x ∷ []) (All-push (λ (y : Placed). y.place < n) xs x within l) (AllPairs-append_one (λ (a b : Placed). a.place ≢ b.place) xs x apart other))

-- ---- the identity

abbrev pub identity_place : Placed
identity_place = record { place = 0; shift = no_shift }

pub identity_placed : (members : List Operator) → IsGroup members → placed_map members identity_place ≡ identity_map
unfolding ◌+ᶜ◌ times
identity_placed members g = at_place_is members identity_place identity_operator g.first
