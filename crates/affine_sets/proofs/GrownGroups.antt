-- What has grown: where the maps that are held are products of the given ones, and are closed under products by these, they are
-- exactly what these generate, and a group with a common fixed point.
use Rattle.std.proofs.Common.{◌≡◌, ◌∷◌, ◌≤◌, ◌↔◌, Option, List, Contains, length, map, inl, inr, get_or, ap, ap₂, sym, ◌∙◌, subst, le_refl}
use Rattle.std.proofs.lemmas.List.Elements.{All-contains, All-weaker, Contains-get_or}
use Rattle.std.specs.List.{IsDistinct}
use Rattle.std.proofs.lemmas.Option.{slice_get_within}
use Rattle.std.proofs.lemmas.Map.Made.{IsDistinct-from_AllPairs}
use Rattle.finite_groups.specs.Words.{Span}
use Rattle.finite_groups.specs.Words as words
use Rattle.finite_groups.proofs.Closing as closing
use Rattle.lattice_algebra.specs.Operator.{Operator, identity_operator}
use Rattle.lattice_algebra.specs.Map.{Map, ◌∘◌, identity_map, undo}
use Rattle.lattice_algebra.proofs.Maps.{map_eq, map_eq-is, ∘_assoc, identity-∘, ∘-identity}
use Rattle.exact_ops.specs.declared.TheConstants.{UNIT}
use Rattle.group_closure.specs.declared.TheConstants.{MAX_OPERATORS}
use Rattle.group_closure.specs.GroupList.{IsGroup}
use Rattle.space_groups.specs.Space.{IsElement, ScaledPoint}
use Rattle.space_groups.specs.Search.{FixAll}
use Rattle.space_groups.proofs.Divided.{common_point}
use Rattle.space_groups.proofs.Elements.{space}
use Rattle.space_groups.proofs.Growing.{span_rotation}
use Rattle.site_symmetry.proofs.SpaceOfGroup.{space_of}
use Rattle.affine_sets.specs.declared.growth.Placed.{Placed}
use Rattle.affine_sets.specs.declared.numbers.Offset.{Offset}
use Rattle.affine_sets.specs.Growth.{placed_map, no_shift, Holds, HoldsMap, AreHeld, AreListed, IsGrowing, IsLetter, IsProduct, IsGeneratedBy, given_maps, AreProducts, IsTorn}
use Rattle.affine_sets.specs.Subs.{IsSubList, AreElements}
use Rattle.affine_sets.proofs.Picked.{picked_apart, sub_list}
use Rattle.affine_sets.proofs.PlacedMaps.{placed_element, identity_place, identity_placed}
use Rattle.affine_sets.proofs.Products.{given_product, old_given}
use Rattle.affine_sets.proofs.HeldLists.{listed_picked}

-- ---- products

-- all that is held of a group that is to grow are products
pub first_products : (members : List Operator) (old : List Placed) (e : Placed) (held : List (Option Offset)) → AreHeld old held → AreProducts members (given_maps members old e) held
first_products members old e held are x r =
    given_product (given_maps members old e) x (subst (Contains (given_maps members old e)) r.3 (old_given members old e r.0 ((are r.0.place r.0.shift).0 r.2)))

-- what is held is listed, are products of the given maps, and all of them
pub record HasGrown (members : List Operator) (given : List Map) (held : List (Option Offset)) (list : List Map) : Type 0 where
  pub zero : Holds held 0 no_shift
  pub products : AreProducts members given held
  pub closed : (y b : Map) → HoldsMap members held y → Contains given b → HoldsMap members held (y ∘ b)
  pub listed : AreListed members held list

pub given_are : (members : List Operator) (old lent : List Placed) (e : Placed) (list : List Map) (m : Map) → lent ≡ old → map (placed_map members) old ≡ list → placed_map members e ≡ m → given_maps members lent e ≡ m ∷ list
given_are members old lent e list m q maps is = ap₂ ◌∷◌ is (ap (map (placed_map members)) q ∙ maps)

pub has_grown : (members : List Operator) (old firsts : List Placed) (e : Placed) (given : List Map) (held : List (Option Offset)) (list : List Map) → given_maps members old e ≡ given → IsGrowing members old held firsts → AreProducts members (given_maps members old e) held
    → ((y b : Map) → HoldsMap members held y → Contains (given_maps members old e) b → HoldsMap members held (y ∘ b)) → AreListed members held list → HasGrown members given held list
has_grown members old firsts e given held list same growing products closed listed = record {
  zero = growing.zero;
  products = subst (λ v. AreProducts members v held) same products;
  closed = λ y b h c. closed y b h (subst (λ v. Contains v b) (sym same) c);
  listed = listed;
}

module _ (members : List Operator) (g : IsGroup members) (given : List Map) (valid : AreElements members given) where
  -- a letter is one of the words of finite groups
  letter_there : (e : Map) → IsLetter given e → words.IsLetter (space (space_of members g)) given e
  letter_there e (inl c) = inl c
  letter_there e (inr r) =
      let S = space (space_of members g) in
      let m = All-contains (IsElement UNIT members) given r.0 valid r.1 in
      let is : undo r.0 ≡ e = sym (identity-∘ (undo r.0)) ∙ ap (λ x. x ∘ undo r.0) (sym r.2.left) ∙ ∘_assoc e r.0 (undo r.0) ∙ ap (λ x. e ∘ x) (S.inv_right r.0 m) ∙ ∘-identity e in
      inr (r.0, r.1, subst (IsElement UNIT members) is (S.inv_in r.0 m), r.2.right)

  product_span : (e : Map) → IsProduct given e → Span (space (space_of members g)) given e
  product_span e p = (p.0, All-weaker (IsLetter given) (words.IsLetter (space (space_of members g)) given) letter_there p.0 p.1, p.2)

  -- two products with one rotation part that differ: no point is fixed by all
  pub torn_fixes_none : IsTorn given → (z : ScaledPoint) → FixAll given z → ⊥
  torn_fixes_none t z f = t.differ (span_rotation (space_of members g) given valid z f t.one t.other (product_span t.one t.is_product) (product_span t.other t.is_product_too) t.rotation)

  -- ---- when the group has grown

  module _ (held : List (Option Offset)) (list : List Map) (h : HasGrown members given held list) where
    pub grown_elements : AreElements members list
    grown_elements = λ k d l.
        let r = (h.listed.exactly (get_or list k d)).0 (Contains-get_or list k d l) in
        subst (IsElement UNIT members) r.3 (placed_element members g r.0 r.1)

    identity_held : HoldsMap members held identity_map
    identity_held = (identity_place, slice_get_within members 0 identity_operator g.first, h.zero, identity_placed members g)

    grown_once : IsDistinct map_eq list
    grown_once = IsDistinct-from_AllPairs map_eq-is list (picked_apart members (HoldsMap members held) (length members) list (listed_picked members g held list h.listed))

    grown_span : (e : Map) → Contains list e ↔ Span (space (space_of members g)) given e
    grown_span e = (
      (λ c. product_span e (h.products e ((h.listed.exactly e).0 c))),
      (λ s. closing.spans (space (space_of members g)) given list valid grown_once grown_elements ((h.listed.exactly identity_map).1 identity_held)
          (λ y b c d. (h.listed.exactly (y ∘ b)).1 (h.closed y b ((h.listed.exactly y).0 c) d)) e s),
    )

    pub grown_generated : IsGeneratedBy given list
    grown_generated e = ((λ c. h.products e ((h.listed.exactly e).0 c)), (λ p. (grown_span e).1 (product_span e p)))

    pub grown_sub : length list ≤ MAX_OPERATORS → IsSubList list
    grown_sub within =
        let closed = closing.closed_from_span (space (space_of members g)) given list valid grown_once grown_span in
        let point = common_point (space_of members g) list closed in
        sub_list members (HoldsMap members held) (length members) list g (le_refl (length members)) (listed_picked members g held list h.listed) within identity_held
        (λ e f p q. (h.listed.exactly (e ∘ f)).0 (closed.closed e f ((h.listed.exactly e).1 p) ((h.listed.exactly f).1 q)))
        point.0 (λ e p. point.1 e ((h.listed.exactly e).1 p))
