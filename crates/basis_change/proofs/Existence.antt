-- Where nothing refuses a change, there is a changed group; and whether something does is decided.
use Rattle.std.proofs.Common.{◌≡◌, ◌≢◌, ◌⊎◌, ◌≤◌, ◌+◌, ◌++◌, ◌∷◌, [], ℕ, zero, suc, List, take, length, get_or, inl, inr, ⊎_elim, refl, sym, subst, arith, le_refl}
use Rattle.std.proofs.lemmas.List.{take_all}
use Rattle.std.proofs.lemmas.Option.{slice_get-get_or}
use Rattle.lattice_algebra.specs.Operator.{Operator}
use Rattle.lattice_algebra.specs.Map.{Map, operator_of, identity_map}
use Rattle.exact_ops.specs.declared.TheConstants.{UNIT}
use Rattle.group_closure.specs.declared.TheConstants.{MAX_OPERATORS}
use Rattle.group_closure.specs.GroupList.{IsGroup}
use Rattle.group_closure.proofs.Existence.{closes_or_not}
use Rattle.space_groups.specs.Bases.{CoordinateChange, IsChange, IsBasisChange, IsChangedGroup, IsCell, AreWhole, AreNarrow, AreInParts, AreGenerators, IsMoreThan}
use Rattle.space_groups.proofs.Changes.{IsChange-basis}
use Rattle.space_groups.proofs.ChangedCells.{generators_valid}
use Rattle.space_groups.proofs.ChangedLists as changed
use Rattle.basis_change.specs.declared.cell.RecellFault.{RecellFault}
use Rattle.basis_change.specs.declared.cell.RecellFault.TheVariants.{NotCell, NotWhole, Wide, Fine, Many, NoMemory}
use Rattle.basis_change.specs.Changes.{MayClose, IsRecelled, IsRefusedAs}
use Rattle.basis_change.specs.Frames.{generators, AreChanged}
use Rattle.basis_change.proofs.Steps.{contains_at}
use Rattle.basis_change.proofs.Generators.{the_space, generator_element, generator_changed, none_changed, are_generators}
use Rattle.basis_change.proofs.ChangedGroup.{is_cell, are_whole, are_in_parts, changed_by_generators, group_by_generators, many_changed, not_more, few}
use Rattle.basis_change.proofs.Decided.{OrNot, cell_or_not, whole_or_not, narrow_or_not, parts_or_not}

module _ (members : List Operator) (group : IsGroup members) (c : CoordinateChange) where
  -- the changed group
  abbrev pub HasChangedGroup : Type 0
  HasChangedGroup = (there : List Operator) × IsGroup there × IsChangedGroup UNIT members c there

  module _ (i : IsChange c) where
    -- the changed operators of the first generators
    changed_operators : AreInParts UNIT members c → (n : ℕ) → n ≤ length (generators members) → (list : List Operator) × AreChanged members c (take n (generators members)) list
    changed_operators parts zero l = ([], none_changed members group c)
    changed_operators parts (suc n) l =
        let before = changed_operators parts n (omega (arith, l)) in
        let g : Map = get_or (generators members) n identity_map in
        let e = slice_get-get_or (generators members) n identity_map (omega (arith, l)) in
        let h = parts g (generator_element members group g (contains_at (generators members) n g e)) in
        let f = operator_of UNIT h.0 in
        let next : n + 1 ≡ suc n = omega arith in
        (before.0 ++ f ∷ [], subst (λ k. AreChanged members c (take k (generators members)) (before.0 ++ f ∷ [])) next (generator_changed members group c n before.0 g h.0 f before.1 e h.1 refl))

    changed_generators : AreInParts UNIT members c → (list : List Operator) × AreGenerators UNIT members c list
    changed_generators parts =
        let n = length (generators members) in
        let r = changed_operators parts n (le_refl n) in
        (r.0, are_generators members group c r.0 (subst (λ maps. AreChanged members c maps r.0) (take_all n (generators members) (le_refl n)) r.1))

    pub changed_or_many : MayClose members c → HasChangedGroup ⊎ IsMoreThan MAX_OPERATORS UNIT members c
    changed_or_many may =
        let r = changed_generators may.parts in
        ⊎_elim
        (λ k. inl (k.0, group_by_generators members group c i r.0 r.1 may.cell k.0 k.1 k.2, changed_by_generators members group c i r.0 r.1 may.cell k.0 k.2))
        (λ u. inr (many_changed members group c i r.0 r.1 may.cell may.narrow u))
        (closes_or_not r.0 (generators_valid (the_space members group) c i r.0 r.1))

    pub few_or_many : MayClose members c → OrNot (¬ IsMoreThan MAX_OPERATORS UNIT members c)
    few_or_many may = ⊎_elim (λ r. inl (few members group c i r.0 r.2 r.1)) (λ many. inr (λ none. none many)) (changed_or_many may)

    pub changed_of_few : MayClose members c → (¬ IsMoreThan MAX_OPERATORS UNIT members c) → HasChangedGroup
    changed_of_few may none = ⊎_elim (λ r. r) (λ many. absurd (none many)) (changed_or_many may)

  -- ---- of a basis change, which makes as many operators as there were

  module _ (b : IsBasisChange c) where
    pub not_many : IsMoreThan MAX_OPERATORS UNIT members c → ⊥
    not_many =
        let L = the_space members group in
        not_more members group c (IsChange-basis c b) (changed.changed_list L c b) (changed.changed_list_is L c b) (subst (λ n. n ≤ MAX_OPERATORS) (sym (changed.as_many L c b)) group.within)

    pub changed_in_basis : AreNarrow UNIT members c → HasChangedGroup
    changed_in_basis narrow =
        ⊎_elim (λ r. r) (λ many. absurd (not_many many))
        (changed_or_many (IsChange-basis c b) (record { cell = is_cell members group c b; whole = are_whole members group c b; narrow = narrow; parts = are_in_parts members group c b }))

-- ---- of a change of the cell

abbrev pub RecelledOrRefused : List Operator → CoordinateChange → Type 0
RecelledOrRefused members c = ((there : List Operator) × IsRecelled members c there) ⊎ ((fault : RecellFault) × IsRefusedAs members c fault × (fault ≢ NoMemory))

pub recelled_or_refused : (members : List Operator) (c : CoordinateChange) → IsChange c → IsGroup members → RecelledOrRefused members c
recelled_or_refused members c i group = by (cell_or_not c i members group) (whole_or_not c i members group) (narrow_or_not c i members group) (parts_or_not c i members group)
  where
    by : OrNot (IsCell UNIT members c) → OrNot (AreWhole UNIT members c) → OrNot (AreNarrow UNIT members c) → OrNot (AreInParts UNIT members c) → RecelledOrRefused members c
    by (inr n) w x p = inr (NotCell, n, λ e. cc)
    by (inl k) (inr n) x p = inr (NotWhole, (k, n), λ e. cc)
    by (inl k) (inl w) (inr n) p = inr (Wide, (k, w, n), λ e. cc)
    by (inl k) (inl w) (inl x) (inr n) = inr (Fine, (k, w, x, n), λ e. cc)
    by (inl k) (inl w) (inl x) (inl p) =
        let may : MayClose members c = record { cell = k; whole = w; narrow = x; parts = p } in
        ⊎_elim
        (λ r. inl (r.0, record { may = may; few = few members group c i r.0 r.2 r.1; group = r.1; changed_group = r.2 }))
        (λ many. inr (Many, (may, many), λ e. cc))
        (changed_or_many members group c i may)
