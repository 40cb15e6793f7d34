-- The whole shifts of an operator that suffice.
use Rattle.std.proofs.Common.{◌≡◌, ◌*◌, ◌↔◌, ℕ, pos, ◌*ℤ◌, ◌<ℤ◌, List, length, Contains, ap, sym, ◌∙◌, subst, arith}
use Rattle.std.proofs.lemmas.List.Elements.{All-contains}
use Rattle.lattice_algebra.specs.Matrix.{Matrix, Column, ◌·ᶜ◌}
use Rattle.lattice_algebra.specs.Operator.{Operator, IsOperator, AreWithin, HasEntriesWithin, product, identity_operator}
use Rattle.lattice_algebra.specs.Map.{Map, ◌∘◌, undo, operator_of}
use Rattle.lattice_algebra.proofs.Maps.{shift_of, operator_of-∘, ∘_assoc, ∘-identity}
use Rattle.lattice_algebra.proofs.Operators.{operators}
use Rattle.lattice_algebra.proofs.Numbers.{above}
use Rattle.finite_groups.specs.Groups.{Group}
use Rattle.finite_groups.proofs.Conjugates as conjugates
use Rattle.exact_ops.specs.declared.TheConstants.{UNIT}
use Rattle.exact_ops.specs.Narrow.{IsNarrow}
use Rattle.exact_ops.proofs.Narrow.{some_parts}
use Rattle.group_closure.specs.GroupList.{IsGroup}
use Rattle.site_symmetry.proofs.SpaceOfGroup.{space_of}
use Rattle.space_groups.specs.Space.{IsElement, moved}
use Rattle.space_groups.specs.Regions.{shift_by, SpansImage}
use Rattle.space_groups.specs.Intervals.{differences, base_shift, AreBetweenEnds}
use Rattle.space_groups.specs.Keys.{carried}
use Rattle.space_groups.specs.Search.{Kept, IsKept}
use Rattle.space_groups.proofs.Elements.{SpaceGroup, space, on_points}
use Rattle.space_groups.proofs.Means as means
use Rattle.space_groups.proofs.Carried.{image_along}
use Rattle.space_groups.proofs.CarriedLists.{turned, turned_fixes}
use Rattle.space_groups.proofs.Regions.{shift_in, shift_operator}
use Rattle.space_groups.proofs.FirstCell.{carried_along, move_to_first_cell}
use Rattle.space_groups.proofs.OpenEnds.{shift_between_ends, ends_between}
use Rattle.space_groups.proofs.ShiftSizes.{shifts_within}
use Rattle.space_groups.proofs.Rows.{some_members}
use Rattle.affine_sets.specs.declared.TheConstants.{MAX_GROWN_SHIFT}
use Rattle.group_closure.specs.declared.TheConstants.{MAX_OPERATORS}
use Rattle.space_groups.proofs.Grown.{kept_average, kept_image}
use Rattle.wyckoff_rows.specs.Steps.{StandsFor, AreIn, AreRanges}
use Rattle.wyckoff_rows.specs.declared.ranges.Ranges.{Ranges}

module _ (members : List Operator) (group : IsGroup members) (k : Kept) (is_kept : IsKept UNIT members k) where
  abbrev L : SpaceGroup
  L = space_of members group

  abbrev O : Group
  O = operators UNIT some_parts

  valid : (f : Operator) → Contains members f → IsOperator UNIT f
  valid f c = (All-contains IsNarrow members f group.narrow c).is_operator

  pub number : k.average.n ≡ pos (length members)
  number = means.number (kept_average L k is_kept)

  pub above_number : pos 0 <ℤ k.average.n
  above_number = subst (λ v. pos 0 <ℤ v) (sym number) (above (length members) (some_members L))

  -- a conjugate by a whole shift has the same operator
  same_operator : (c : Column) (e : Map) → IsElement UNIT members e → operator_of UNIT (turned (shift_by UNIT c) e) ≡ operator_of UNIT e
  same_operator c e i =
      let v : Map = shift_by UNIT c in
      let m : IsElement UNIT members v = shift_in L c in
      let t : Map = turned v e in
      let j : IsElement UNIT members t = conjugates.conj_in (space L) (on_points L) v e m i in
      let one : operator_of UNIT v ≡ identity_operator = shift_operator UNIT some_parts c in
      let both : product UNIT (operator_of UNIT t) (operator_of UNIT v) ≡ product UNIT (operator_of UNIT v) (operator_of UNIT e) =
      operator_of-∘ UNIT some_parts t v ∙ ap (operator_of UNIT) (∘_assoc (v ∘ e) (undo v) v ∙ ap (λ x. (v ∘ e) ∘ x) ((space L).inv_left v m) ∙ ∘-identity (v ∘ e)) ∙ sym (operator_of-∘ UNIT some_parts v e) in
      sym (O.right (operator_of UNIT t) (valid (operator_of UNIT t) j)) ∙ ap (product UNIT (operator_of UNIT t)) (sym one) ∙ both ∙ ap (λ x. product UNIT x (operator_of UNIT e)) one ∙ O.left (operator_of UNIT e) (valid (operator_of UNIT e) i)

  -- an element stands for what a move makes of it that leaves the average as it is
  turned_stands : (v e : Map) → IsElement UNIT members v → IsElement UNIT members e → carried v k.average ≡ k.average → StandsFor members k.set (turned v e) e
  turned_stands v e m i stays = record {
    by = v;
    element = m;
    points = λ z.
        let s = image_along L v k.average k.average m stays z in
        let a = kept_image L k is_kept z in
        let b = kept_image L k is_kept (moved v z) in
        let t = turned_fixes L v e z m i in ((λ h. (b.0 (s.0 (a.1 h.0)), t.0 h.1)), (λ h. (a.0 (s.1 (b.1 h.0)), t.1 h.1)));
  }

  pub ranges_enough : (f : Operator) (r : Matrix) → SpansImage k.average r → (ranges : Ranges)
      → ((s : Column) → AreBetweenEnds (pos UNIT *ℤ k.average.n) (base_shift k.average f) (differences f.w r) s → AreIn ranges s) → AreRanges members k.set f ranges
  ranges_enough f r spans ranges inside e i is y h fix =
      let near = move_to_first_cell UNIT (length members) k.average r y some_parts (some_members L) number spans ((kept_image L k is_kept y).1 h) in
      let v : Map = shift_by UNIT (r ·ᶜ near.0) in
      let m : IsElement UNIT members v = shift_in L (r ·ᶜ near.0) in
      let t : Map = turned v e in
      let s = shift_of UNIT some_parts f t (same_operator (r ·ᶜ near.0) e i ∙ is) in
      let fixed : moved t (moved v y) ≡ moved v y = conjugates.act_conj (space L) (on_points L) v e y m i ∙ ap (moved v) fix in
      let there = inside s.0 (shift_between_ends UNIT k.average r f s.0 (moved v y) some_parts above_number near.2 (subst (λ x. moved x (moved v y) ≡ moved v y) s.1 fixed)) in
      (s.0, there, subst (λ x. StandsFor members k.set x e) s.1 (turned_stands v e m i (carried_along UNIT k.average r near.0 spans.along)))

  -- ---- the ends, as they are computed

  module _ (n : ℕ) (f : Operator) (r d : Matrix) (base : Column) (over : pos n ≡ k.average.n) (base_is : base ≡ base_shift k.average f) (d_is : d ≡ differences f.w r) where
    ends_are : (s : Column) → AreBetweenEnds (pos UNIT *ℤ pos n) base d s ≡ AreBetweenEnds (pos UNIT *ℤ k.average.n) (base_shift k.average f) (differences f.w r) s
    ends_are s = λ i. AreBetweenEnds (pos UNIT *ℤ over i) (base_is i) (d_is i) s

    pub ranges_are : SpansImage k.average r → (ranges : Ranges) → ((s : Column) → AreIn ranges s ↔ AreBetweenEnds (pos UNIT *ℤ pos n) base d s) → AreRanges members k.set f ranges
    ranges_are spans ranges h = ranges_enough f r spans ranges (λ s b. (h s).1 (subst (λ (T : Type 0). T) (sym (ends_are s)) b))

    pub ranges_small : Contains members f → HasEntriesWithin (2 * MAX_OPERATORS) r → AreWithin (length members * (UNIT * 51)) k.average.t.x k.average.t.y k.average.t.z
        → (ranges : Ranges) → ((s : Column) → AreIn ranges s ↔ AreBetweenEnds (pos UNIT *ℤ pos n) base d s) → (s : Column) → AreIn ranges s → AreWithin MAX_GROWN_SHIFT s.x s.y s.z
    ranges_small c w t ranges h s i =
        let m = All-contains IsNarrow members f group.narrow c in
        let near : AreWithin (UNIT * length members * 51) k.average.t.x k.average.t.y k.average.t.z = record { first = omega (arith, t.first); second = omega (arith, t.second); third = omega (arith, t.third) } in
        let v = shifts_within UNIT (length members) 51 (2 * MAX_OPERATORS) k.average r f s some_parts (some_members L) number near w m.within_two m.is_operator.in_cell
        (ends_between UNIT k.average r f s (subst (λ (T : Type 0). T) (ends_are s) ((h s).0 i))) in
        record { first = omega (arith, v.first); second = omega (arith, v.second); third = omega (arith, v.third) }
