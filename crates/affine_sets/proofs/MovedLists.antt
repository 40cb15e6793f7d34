-- A finite group of elements, as a list in order, moved by a whole shift.
use Rattle.std.proofs.Common.{◌≡◌, ◌∷◌, [], ◌<◌, ℕ, suc, List, Some, length, map, drop, slice_get, get_or, Contains, All, ap, ap₂, sym, refl, ◌∙◌, subst, arith}
use Rattle.std.specs.Ordering.{on}
use Rattle.std.specs.List.Sorted.{IsStrictlySortedBy}
use Rattle.std.proofs.lemmas.Option.{slice_get_within, get_or_from_slice_get}
use Rattle.std.proofs.lemmas.List.{length-map, get_or-map}
use Rattle.std.proofs.lemmas.List.Elements.{All-contains}
use Rattle.std.proofs.lemmas.Map.Keys.{Less-from_sorted}
use Rattle.lattice_algebra.specs.Matrix.{Column, neg_column, ◌+ᶜ◌, ◌·ᶜ◌}
use Rattle.lattice_algebra.specs.Operator.{Operator}
use Rattle.lattice_algebra.specs.Map.{Map, ◌∘◌, identity_map, undo, operator_of}
use Rattle.lattice_algebra.proofs.Maps.{shift_of, operator_of-shifted, ∘-identity}
use Rattle.finite_groups.proofs.Members as lists
use Rattle.exact_ops.specs.declared.TheConstants.{UNIT}
use Rattle.exact_ops.specs.Narrow.{IsNarrow}
use Rattle.exact_ops.proofs.Narrow.{some_parts}
use Rattle.group_closure.specs.Order.{operator_cmp}
use Rattle.group_closure.specs.GroupList.{IsGroup}
use Rattle.space_groups.specs.Space.{IsElement, moved}
use Rattle.space_groups.specs.Regions.{shift_by}
use Rattle.space_groups.proofs.Elements.{space}
use Rattle.space_groups.proofs.CarriedLists.{turned_closed, turned_fixes}
use Rattle.space_groups.proofs.Growing.{closed_sub}
use Rattle.space_groups.proofs.Regions.{shift_in}
use Rattle.site_symmetry.proofs.SpaceOfGroup.{space_of}
use Rattle.affine_sets.specs.Subs.{IsSubList, AreElements, conjugate_by}
use Rattle.affine_sets.proofs.Picked.{sorted_from_pairs}
use Rattle.affine_sets.proofs.Groups.{sub_of_list}
use Rattle.affine_sets.proofs.ShiftedSets.{conjugate_is}

module _ (members : List Operator) (g : IsGroup members) (f : Column) where
  abbrev pub by : Map → Map
  by s = conjugate_by (shift_by UNIT (neg_column f)) s

  -- the operator stays
  pub operator_kept : (s : Map) → IsElement UNIT members s → operator_of UNIT (by s) ≡ operator_of UNIT s
  operator_kept s m =
      let op = operator_of UNIT s in
      let k = shift_of UNIT some_parts op s refl in
      let n = All-contains IsNarrow members op g.narrow m in
      ap (operator_of UNIT) (ap by k.1 ∙ conjugate_is op k.0 f) ∙ operator_of-shifted UNIT some_parts op (k.0 +ᶜ op.w ·ᶜ f +ᶜ neg_column f) n.is_operator

  pub rotation_kept : (s : Map) → IsElement UNIT members s → (by s).w ≡ s.w
  unfolding operator_of
  rotation_kept s m = ap (λ (o : Operator). o.w) (operator_kept s m)

  sorted_map : (xs : List Map) → All (IsElement UNIT members) xs → IsStrictlySortedBy (on (operator_of UNIT) operator_cmp) xs → IsStrictlySortedBy (on (operator_of UNIT) operator_cmp) (map by xs)
  sorted_map xs v s = sorted_from_pairs (on (operator_of UNIT) operator_cmp) (map by xs) (λ j k d l m.
      let n : k < length xs = omega (arith, m, length-map xs by) in
      let o = Less-from_sorted (on (operator_of UNIT) operator_cmp) xs j k d s l n in
      let at : (i : ℕ) → i < length xs → operator_of UNIT (get_or (map by xs) i d) ≡ operator_of UNIT (get_or xs i d) = λ i h.
      ap (operator_of UNIT) (get_or-map by xs i d d h) ∙ operator_kept (get_or xs i d) (v i d h) in
      ap₂ operator_cmp (at j (omega (arith, l, n))) (at k n) ∙ o)

  identity_by : by identity_map ≡ identity_map
  identity_by =
      let L = space_of members g in
      let v = shift_by UNIT (neg_column f) in
      ap (λ x. x ∘ undo v) (∘-identity v) ∙ (space L).inv_right v (shift_in L (neg_column f))

  first_map : (list : List Map) → slice_get list 0 ≡ Some identity_map → slice_get (map by list) 0 ≡ Some identity_map
  first_map [] h = let w = slice_get_within [] 0 identity_map h in absurd (omega (arith, w))
  first_map (x ∷ xs) h = ap (λ e. Some (by e)) (get_or_from_slice_get (x ∷ xs) 0 identity_map identity_map h) ∙ ap Some identity_by

  rest_map : (list : List Map) → All (IsElement UNIT members) list → IsStrictlySortedBy (on (operator_of UNIT) operator_cmp) (drop 1 list) → IsStrictlySortedBy (on (operator_of UNIT) operator_cmp) (drop 1 (map by list))
  rest_map [] v s = s
  rest_map (x ∷ xs) v s = sorted_map xs (λ k d l. v (suc k) d (omega (arith, l))) s

  pub moved_elements : (list : List Map) → AreElements members list → AreElements members (map by list)
  moved_elements list v j d l =
      let n : j < length list = omega (arith, l, length-map list by) in
      let m = v j d n in
      subst (IsElement UNIT members) (sym (get_or-map by list j d d n)) (subst (Contains members) (sym (operator_kept (get_or list j d) m)) m)

  pub moved_list : (list : List Map) → IsSubList list → AreElements members list → IsSubList (map by list)
  moved_list list s v =
      let L = space_of members g in
      let m = shift_in L (neg_column f) in
      let shift = shift_by UNIT (neg_column f) in
      let at : (e : Map) → Contains list e → IsElement UNIT members e = λ e c. All-contains (IsElement UNIT members) list e v c in
      let closed = turned_closed L shift list m (closed_sub L list (sub_of_list members list s v)) in
      record {
        first = first_map list s.first;
        sorted = rest_map list v s.sorted;
        apart = λ j k d l h e.
            let n : k < length list = omega (arith, h, length-map list by) in
            let i : j < length list = omega (arith, l, n) in
            s.apart j k d l n (sym (rotation_kept (get_or list j d) (v j d i)) ∙ ap (λ (x : Map). x.w) (sym (get_or-map by list j d d i)) ∙ e ∙ ap (λ (x : Map). x.w) (get_or-map by list k d d n) ∙ rotation_kept (get_or list k d) (v k d n));
        products = closed.closed;
        common = (
          moved shift s.common.0,
          λ e c.
              let r = lists.Contains-from_map by e list c in
              subst (λ x. moved x (moved shift s.common.0) ≡ moved shift s.common.0) r.2 ((turned_fixes L shift r.0 s.common.0 m (at r.0 r.1)).0 (s.common.1 r.0 r.1)),
        );
        within = omega (arith, s.within, length-map list by);
      }
