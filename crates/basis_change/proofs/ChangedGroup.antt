-- What the calls promise of a group in other coordinates, from the laws of space groups.
use Rattle.std.proofs.Common.{◌≡◌, ◌↔◌, ◌≤◌, List, length, Contains, inl, inr, sym, subst, arith}
use Rattle.std.proofs.lemmas.List.Elements.{All-contains}
use Rattle.std.proofs.lemmas.Map.Made.{IsDistinct-from_AllPairs}
use Rattle.lattice_algebra.specs.Matrix.{Column, ◌·ᶜ◌, inverse_matrix}
use Rattle.lattice_algebra.specs.Operator.{Operator, IsOperator, HasEntriesWithin}
use Rattle.lattice_algebra.specs.Map.{Map, operator_of, map_of}
use Rattle.lattice_algebra.proofs.Operators.{operators}
use Rattle.exact_ops.specs.declared.TheConstants.{UNIT}
use Rattle.exact_ops.proofs.Narrow.{some_parts}
use Rattle.group_closure.specs.Words.{Span, Closes, IsUnclosed}
use Rattle.group_closure.specs.GroupList.{IsGroup, IsGroupList}
use Rattle.group_closure.specs.declared.TheConstants.{MAX_OPERATORS}
use Rattle.group_closure.proofs.Lists.{closed_list, group_of_closing, one_list}
use Rattle.group_closure.proofs.CellOperators.{cell_operators}
use Rattle.finite_groups.proofs.Members as lists
use Rattle.finite_groups.proofs.Closing as closing
use Rattle.space_groups.specs.Space.{IsElement}
use Rattle.lattice_algebra.proofs.Maps.{operator_of-map}
use Rattle.space_groups.specs.Regions.{shift_by}
use Rattle.space_groups.specs.Bases.{CoordinateChange, IsChange, IsBasisChange, IsChanged, IsChangedGroup, IsCell, AreNarrow, AreWhole, AreInParts, AreGenerators, IsInChanged, IsMoreThan, changed_map, x_cell, y_cell, z_cell}
use Rattle.space_groups.proofs.Regions.{shift_in}
use Rattle.space_groups.proofs.Changes.{changed_map-is}
use Rattle.space_groups.proofs.ChangedGroups.{changed_exactly, site_of_changed, conjugate_changed}
use Rattle.space_groups.proofs.ChangedLists.{orbit_as_long, shift_changed, there_and_back}
use Rattle.space_groups.proofs.ChangedCells.{generated_group, of_span, generators_valid}
use Rattle.basis_change.specs.Laws.{MovesSites, KeepsConjugates, KeepsOrbitSizes}
use Rattle.basis_change.proofs.Generators.{the_space, operator_w}

module _ (members : List Operator) (group : IsGroup members) (c : CoordinateChange) where
  module _ (i : IsChange c) (changed : List Operator) (e : IsChangedGroup UNIT members c changed) where
    pub moves_sites : MovesSites members c changed
    moves_sites x h p = site_of_changed (the_space members group) c i changed e x h

    pub keeps_conjugates : KeepsConjugates members c changed
    keeps_conjugates x y p q = conjugate_changed (the_space members group) c i changed e x y

    -- operators of changed maps are members of the changed group
    pub not_more : length changed ≤ MAX_OPERATORS → IsMoreThan MAX_OPERATORS UNIT members c → ⊥
    not_more within m =
        let le = lists.pigeonhole (operators UNIT some_parts).eq (operators UNIT some_parts).same m.0 changed (IsDistinct-from_AllPairs (operators UNIT some_parts).same m.0 m.2)
        (λ f k. let r = m.3 f k in subst (Contains changed) r.2 ((changed_exactly UNIT members c changed i e r.0).1 r.1)) in
        omega (arith, le, m.1, within)

    pub few : IsGroup changed → IsMoreThan MAX_OPERATORS UNIT members c → ⊥
    few there = not_more there.within

  -- ---- of a basis change

  module _ (b : IsBasisChange c) where
    pub keeps_orbit_sizes : (changed : List Operator) → IsGroup changed → IsChangedGroup UNIT members c changed → KeepsOrbitSizes members c changed
    keeps_orbit_sizes changed there e x orbit other p o t = orbit_as_long (the_space members group) c b changed (closed_list changed there) e x p orbit other o t

    -- one cell along each axis is in the changed group
    cell_of_basis : (e : Column) → IsInChanged UNIT members c (shift_by UNIT e)
    cell_of_basis e =
        let k = inverse_matrix c.w ·ᶜ e in
        record {
          from = shift_by UNIT k;
          element = shift_in (the_space members group) k;
          changed = subst (λ v. IsChanged c (shift_by UNIT k) (shift_by UNIT v)) (there_and_back c.w b.unimodular e) (shift_changed UNIT c b k);
        }

    pub is_cell : IsCell UNIT members c
    is_cell = record { x = cell_of_basis x_cell; y = cell_of_basis y_cell; z = cell_of_basis z_cell }

    pub are_whole : AreWhole UNIT members c
    are_whole g m = let r = (changed_map-is c b g).rotation in ((changed_map c g).w, r)

    pub are_in_parts : AreInParts UNIT members c
    are_in_parts g m = (changed_map c g, changed_map-is c b g)

  -- ---- what a list of changed generators generates

  module _ (i : IsChange c) (list : List Operator) (gens : AreGenerators UNIT members c list) (cell : IsCell UNIT members c) where
    pub changed_by_generators : (changed : List Operator) → IsGroupList list changed → IsChangedGroup UNIT members c changed
    changed_by_generators changed g = generated_group (the_space members group) c i list gens cell changed g.span

    pub group_by_generators : (changed : List Operator) → Closes list → IsGroupList list changed → IsGroup changed
    group_by_generators changed closes g = group_of_closing list changed (generators_valid (the_space members group) c i list gens) closes g

    narrow_span : AreNarrow UNIT members c → (f : Operator) → Span list f → HasEntriesWithin 2 f.w
    narrow_span n f s =
        let r = of_span (the_space members group) c i list gens f s in
        subst (λ (k : Operator). HasEntriesWithin 2 k.w) r.2 (subst (HasEntriesWithin 2) (sym (operator_w r.0)) (n r.1.from r.0.w r.1.element r.1.changed.rotation))

    -- where the list does not close, the changed group has too many members
    pub many_changed : AreNarrow UNIT members c → IsUnclosed list → IsMoreThan MAX_OPERATORS UNIT members c
    many_changed n (inl (many, m)) = (many, m.beyond, m.distinct, λ f k. of_span (the_space members group) c i list gens f (All-contains (Span list) many f m.spanned k))
    many_changed n (inr (f, w)) = absurd (w.wide (narrow_span n f w.spanned))

-- ---- one group

-- the elements of two lists of members are those of one space group: so are the members
same_members : (xs ys : List Operator) → IsGroup xs → IsGroup ys → ((h : Map) → IsElement UNIT xs h ↔ IsElement UNIT ys h) → (f : Operator) → Contains xs f ↔ Contains ys f
same_members xs ys p q same f =
    let at : (zs : List Operator) → IsGroup zs → Contains zs f → operator_of UNIT (map_of f) ≡ f = λ zs g m. operator_of-map UNIT some_parts f (All-contains (IsOperator UNIT) zs f (closed_list zs g).valid m) in (
      (λ m. subst (Contains ys) (at xs p m) ((same (map_of f)).0 (subst (Contains xs) (sym (at xs p m)) m))),
      (λ m. subst (Contains xs) (at ys q m) ((same (map_of f)).1 (subst (Contains ys) (sym (at ys q m)) m))),
    )

-- a group is the group list of itself, and of each list of its members
list_of : (xs ys : List Operator) → IsGroup xs → IsGroup ys → ((f : Operator) → Contains ys f ↔ Contains xs f) → IsGroupList xs ys
list_of xs ys p q same =
    let itself = closing.spans_itself cell_operators xs (closed_list xs p) in
    record { first = q.first; span = λ f. ((λ m. (itself f).0 ((same f).0 m)), (λ s. (same f).1 ((itself f).1 s))); distinct = q.distinct; sorted = q.sorted }

pub one_group : (members a b : List Operator) (c : CoordinateChange) → IsChange c → IsGroup a → IsGroup b → IsChangedGroup UNIT members c a → IsChangedGroup UNIT members c b → a ≡ b
one_group members a b c i p q x y =
    let same : (h : Map) → IsElement UNIT b h ↔ IsElement UNIT a h = λ h.
    let there = changed_exactly UNIT members c b i y h in
    let here = changed_exactly UNIT members c a i x h in
    ((λ m. here.1 (there.0 m)), (λ m. there.1 (here.0 m))) in
    one_list a a b (list_of a a p p (λ f. ((λ m. m), (λ m. m)))) (list_of a b p q (same_members b a q p same))
