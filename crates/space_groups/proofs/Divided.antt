-- A closed list of maps has as many members as divides the number of operators; so its average over that number is whole.
use Rattle.std.proofs.Common.{◌≡◌, ℕ, ◌*◌, ◌<◌, List, length, map, pos, Contains, ap, sym, ◌∙◌, refl, subst, arith}
use Rattle.std.proofs.lemmas.List.{length-map}
use Rattle.std.proofs.lemmas.List.Elements.{All-contains, Contains-get_or}
use lib.IntN.{*ℤ_comm}
use Rattle.lattice_algebra.specs.Matrix.{origin}
use Rattle.lattice_algebra.specs.Operator.{Operator, IsOperator, product}
use Rattle.lattice_algebra.specs.Map.{Map, ◌∘◌, identity_map, operator_of}
use Rattle.lattice_algebra.proofs.Equality.{operator_eq}
use Rattle.lattice_algebra.proofs.Maps.{map_path, map_eq, map_eq-is, operator_of-∘}
use Rattle.lattice_algebra.proofs.Operators.{operators, one_is}
use Rattle.finite_groups.specs.Words.{IsClosedList}
use Rattle.finite_groups.proofs.Members as lists
use Rattle.finite_groups.proofs.Cosets as cosets
use Rattle.space_groups.specs.Space.{IsElement, ScaledPoint, moved}
use Rattle.space_groups.specs.Averages.{Block, block_scaled, sum_of, IsMean}
use Rattle.space_groups.proofs.Blocks.{scaled_product}
use Rattle.space_groups.proofs.Elements.{SpaceGroup, space}
use Rattle.space_groups.proofs.Means as means
use Rattle.space_groups.proofs.Means.{Averaged, made}
use Rattle.space_groups.proofs.Sites.{shift_for, shift_once}

same_rotation : (unit : ℕ) (e f : Map) → operator_of unit e ≡ operator_of unit f → e.w ≡ f.w
unfolding operator_of
same_rotation unit e f p = ap (λ (v : Operator). v.w) p

-- no two elements that fix a point have one rotation
pub one_rotation : (e f : Map) (y : ScaledPoint) → moved e y ≡ y → moved f y ≡ y → e.w ≡ f.w → e ≡ f
one_rotation e f y p q r = map_path e f r (sym (shift_once e y p) ∙ ap (λ w. shift_for w y) r ∙ shift_once f y q)

some_point : ScaledPoint
some_point = record { n = origin; d = 1; some = omega arith }

module _ (L : SpaceGroup) where
  open L use {unit, some, members, closed}

  -- the members of a closed list fix a common point
  pub common_point : (ss : List Map) → IsClosedList (space L) ss → (y : ScaledPoint) × ((e : Map) → Contains ss e → moved e y ≡ y)
  common_point ss c =
      let n = length ss in
      let a = sum_of ss in
      let h : 0 < length ss = omega (arith, c.has_one.1) in
      let m : Averaged L n = record { some = h; list = ss; closed = c; average = a; is_mean = refl } in
      let y = made n h a some_point in
      (y, λ e c. means.image_fixed m y (means.made_in_image n h a some_point (means.number m) (means.idempotent_itself m)) e c)

  operators_closed : (ss : List Map) → IsClosedList (space L) ss → IsClosedList (operators unit some) (map (operator_of unit) ss)
  operators_closed ss c =
      let fix = common_point ss c in
      record {
        distinct = lists.distinct-map_to map_eq map_eq-is operator_eq (operators unit some).same (operator_of unit) ss c.distinct
            (λ e f p q r. one_rotation e f fix.0 (fix.1 e p) (fix.1 f q) (same_rotation unit e f r));
        valid = λ k d l. let r = lists.Contains-from_map (operator_of unit) _ ss (Contains-get_or (map (operator_of unit) ss) k d l) in
            subst (IsOperator unit) r.2 (All-contains (IsOperator unit) members (operator_of unit r.0) closed.valid (All-contains (IsElement unit members) ss r.0 c.valid r.1));
        has_one = subst (Contains (map (operator_of unit) ss)) (one_is unit some) (lists.Contains-map (operator_of unit) identity_map ss c.has_one);
        closed = λ f g p q.
            let x = lists.Contains-from_map (operator_of unit) f ss p in
            let y = lists.Contains-from_map (operator_of unit) g ss q in
            subst (Contains (map (operator_of unit) ss)) (sym (operator_of-∘ unit some x.0 y.0) ∙ ap (λ v. product unit v (operator_of unit y.0)) x.2 ∙ ap (product unit f) y.2)
            (lists.Contains-map (operator_of unit) (x.0 ∘ y.0) ss (c.closed x.0 y.0 x.1 y.1));
      }

  pub divides : (ss : List Map) → IsClosedList (space L) ss → (q : ℕ) × (length members ≡ q * length ss)
  divides ss c =
      let d = cosets.cosets (operators unit some) members (map (operator_of unit) ss) closed (operators_closed ss c) (λ f m.
      let r = lists.Contains-from_map (operator_of unit) f ss m in subst (Contains members) r.2 (All-contains (IsElement unit members) ss r.0 c.valid r.1)) in
      (d.0, d.1 ∙ ap (λ k. d.0 * k) (length-map ss (operator_of unit)))

  -- the average over the number of members
  pub mean_exists : (ss : List Map) → IsClosedList (space L) ss → (a : Block) × IsMean (length members) ss a
  mean_exists ss c = let d = divides ss c in (block_scaled (pos d.0) (sum_of ss), scaled_product (pos (length ss)) (pos d.0) (sum_of ss) ∙ ap (λ k. block_scaled k (sum_of ss)) (*ℤ_comm (pos (length ss)) (pos d.0) ∙ ap pos (sym d.1)))
