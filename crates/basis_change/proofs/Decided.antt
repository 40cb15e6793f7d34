-- What a change of coordinates asks of a space group is decided: quotients, matrices, maps, one cell along each axis.
use Rattle.std.proofs.Common.{◌≡◌, ◌≢◌, ◌⊎◌, ◌≤◌, ◌∷◌, [], ℕ, ℤ, pos, ◌*ℤ◌, int_div, int_rem, List, All, Contains, inl, inr, ⊎_elim, refl, sym, ◌∙◌, subst, arith}
use Rattle.std.proofs.lemmas.Bool.{cases_Bool, cases_lt, false≢true}
use Rattle.std.proofs.lemmas.List.Elements.{All-nil, All-cons, All-contains, All-weaker, All-contains_itself}
use Rattle.std.specs.List.{list_any}
use lib.IntN.{*ℤ_comm}
use Rattle.finite_groups.proofs.Members.{Contains-here, Contains-later}
use Rattle.lattice_algebra.specs.Matrix.{Matrix, Column, ◌·◌, ◌·ᶜ◌, ◌+ᶜ◌, neg_column, times, scaled, identity}
use Rattle.lattice_algebra.specs.Operator.{Operator, HasEntriesWithin}
use Rattle.lattice_algebra.specs.Map.{Map, operator_of}
use Rattle.lattice_algebra.proofs.Equality.{operator_eq, contains-is}
use Rattle.lattice_algebra.proofs.Numbers.{zero_or_other, some_size, entries_or_not}
use Rattle.lattice_algebra.proofs.Quotients.{rem_of_multiple, multiple_of_quotient}
use Rattle.lattice_algebra.proofs.Columns.{cancel_times}
use Rattle.exact_ops.specs.declared.TheConstants.{UNIT}
use Rattle.group_closure.specs.GroupList.{IsGroup}
use Rattle.space_groups.specs.Space.{IsElement}
use Rattle.space_groups.specs.Regions.{shift_by}
use Rattle.space_groups.specs.Bases.{CoordinateChange, IsChange, IsInChanged, IsCell, AreWhole, AreNarrow, AreInParts, x_cell, y_cell, z_cell}
use Rattle.space_groups.proofs.Changes.{cancel_matrix_end}
use Rattle.space_groups.proofs.CellTests.{matrix_test, translation_found, translation_needs, cell_test}
use Rattle.basis_change.specs.Frames.{generators, HasWholeMatrix, HasNarrowMatrix, HasMap}
use Rattle.basis_change.proofs.Frames.{positive_some}
use Rattle.basis_change.proofs.Quotients.{x_row, y_row, z_row, of_rows, column_quotient, quotients_of, matrix_quotient, rows_of}
use Rattle.basis_change.proofs.Generators.{the_space, whole, narrow, parts}

abbrev pub OrNot : Type 0 → Type 0
OrNot A = A ⊎ (A → ⊥)

pub both : {A B : Type 0} → OrNot A → OrNot B → OrNot (A × B)
both (inl a) (inl b) = inl (a, b)
both (inr n) b = inr (λ p. n p.0)
both (inl a) (inr n) = inr (λ p. n p.1)

pub at_most : (n limit : ℕ) → OrNot (n ≤ limit)
at_most n limit = ⊎_elim (λ more. inr (λ few. omega (arith, more, few))) inl (cases_lt limit n)

-- what says the same is decided too
pub likewise : {A B : Type 0} → OrNot A → (A → B) → (B → A) → OrNot B
likewise (inl a) f g = inl (f a)
likewise (inr n) f g = inr (λ b. n (g b))

pub all_or_not : {X : Type 0} (P : X → Type 0) → ((x : X) → OrNot (P x)) → (xs : List X) → OrNot (All P xs)
all_or_not P which [] = inl (All-nil P)
all_or_not P which (x ∷ xs) =
    likewise (both (which x) (all_or_not P which xs)) (λ p. All-cons P x xs p.0 p.1) (λ a. (
      All-contains P (x ∷ xs) x a (Contains-here x xs),
      All-weaker (Contains xs) P (λ y m. All-contains P (x ∷ xs) y a (Contains-later y x xs m)) xs (All-contains_itself xs),
    ))

-- ---- quotients

quotient_or_not : (k n : ℤ) → k ≢ pos 0 → OrNot ((q : ℤ) × (k *ℤ q ≡ n))
quotient_or_not k n some =
    ⊎_elim
    (λ z. inl (int_div n k, *ℤ_comm k (int_div n k) ∙ sym (multiple_of_quotient n k z)))
    (λ rest. inr (λ q. rest (rem_of_multiple n k q.0 (some_size k some) (sym q.1 ∙ *ℤ_comm k q.0))))
    (zero_or_other (int_rem n k))

column_or_not : (k : ℤ) (c : Column) → k ≢ pos 0 → OrNot ((q : Column) × (times k q ≡ c))
column_or_not k c some =
    likewise (both (both (quotient_or_not k c.x some) (quotient_or_not k c.y some)) (quotient_or_not k c.z some))
    (λ p. let q : Column = record { x = p.0.0.0; y = p.0.1.0; z = p.1.0 } in (q, column_quotient k c q p.0.0.1 p.0.1.1 p.1.1))
    (λ q. let r = quotients_of k c q.0 q.1 in (((q.0.x, r.0), (q.0.y, r.1)), (q.0.z, r.2)))

matrix_or_not : (k : ℤ) (m : Matrix) → k ≢ pos 0 → OrNot ((q : Matrix) × (scaled k q ≡ m))
matrix_or_not k m some =
    likewise (both (both (column_or_not k (x_row m) some) (column_or_not k (y_row m) some)) (column_or_not k (z_row m) some))
    (λ p. (of_rows p.0.0.0 p.0.1.0 p.1.0, matrix_quotient k m p.0.0.0 p.0.1.0 p.1.0 p.0.0.1 p.0.1.1 p.1.1))
    (λ q. let r = rows_of k m q.0 q.1 in (((x_row q.0, r.0), (y_row q.0, r.1)), (z_row q.0, r.2)))

element_or_not : (members : List Operator) (g : Map) → OrNot (IsElement UNIT members g)
element_or_not members g =
    let f = operator_of UNIT g in
    let is = contains-is members f (list_any (λ h. operator_eq h f) members) refl in
    ⊎_elim (λ t. inl (is.0 t)) (λ e. inr (λ c. false≢true (sym e ∙ is.1 c))) (cases_Bool (list_any (λ h. operator_eq h f) members))

-- ---- what a change asks of an element

module _ (c : CoordinateChange) (i : IsChange c) where
  matrix_there_or_not : (g : Map) → OrNot (HasWholeMatrix c g)
  matrix_there_or_not g =
      likewise (matrix_or_not i.invertible.k (c.w · g.w · i.invertible.v) i.invertible.some)
      (λ p. (p.0, (matrix_test c.w i.invertible g.w p.0).1 p.1)) (λ h. (h.0, (matrix_test c.w i.invertible g.w h.0).0 h.1))

  narrow_there_or_not : (g : Map) → OrNot (HasNarrowMatrix c g)
  narrow_there_or_not g =
      ⊎_elim
      (λ h. likewise (entries_or_not 2 h.0) (λ n m e. subst (HasEntriesWithin 2) (cancel_matrix_end c.w i.invertible h.0 m (h.1 ∙ sym e)) n) (λ all. all h.0 h.1))
      (λ none. inl (λ m e. absurd (none (m, e))))
      (matrix_there_or_not g)

  map_there_or_not : (g : Map) → OrNot (HasMap c g)
  map_there_or_not g =
      likewise (both (matrix_there_or_not g) (column_or_not c.d (c.w ·ᶜ g.s) (positive_some c.d i.positive)))
      (λ p. (record { w = p.0.0; s = p.1.0 +ᶜ c.t +ᶜ neg_column (p.0.0 ·ᶜ c.t) }, translation_found c g p.0.0 p.1.0 p.0.1 p.1.1))
      (λ h. ((h.0.w, h.1.rotation), translation_needs c g h.0 h.1))

  -- ---- and of a space group

  module _ (members : List Operator) (group : IsGroup members) where
    pub whole_or_not : OrNot (AreWhole UNIT members c)
    whole_or_not = let w = whole members group c in likewise (all_or_not (HasWholeMatrix c) matrix_there_or_not (generators members)) w.0 w.1

    pub narrow_or_not : OrNot (AreNarrow UNIT members c)
    narrow_or_not = let w = narrow members group c in likewise (all_or_not (HasNarrowMatrix c) narrow_there_or_not (generators members)) w.0 w.1

    pub parts_or_not : OrNot (AreInParts UNIT members c)
    parts_or_not = let w = parts members group c i in likewise (all_or_not (HasMap c) map_there_or_not (generators members)) w.0 w.1

    shift_or_not : (e : Column) → OrNot (IsInChanged UNIT members c (shift_by UNIT e))
    shift_or_not e =
        let t = cell_test (the_space members group) c i e in
        let k = i.invertible.k in
        ⊎_elim
        (λ s. likewise (element_or_not members (record { w = identity; s = s.0 })) (λ m. t.1 (s.0, s.1, m))
        (λ r. let q = t.0 r in subst (λ v. IsElement UNIT members (record { w = identity; s = v })) (cancel_times k q.0 s.0 i.invertible.some (q.1 ∙ sym s.1)) q.2))
        (λ none. inr (λ r. let q = t.0 r in none (q.0, q.1)))
        (column_or_not k (times (c.d *ℤ pos UNIT) (i.invertible.v ·ᶜ e)) i.invertible.some)

    pub cell_or_not : OrNot (IsCell UNIT members c)
    cell_or_not = likewise (both (both (shift_or_not x_cell) (shift_or_not y_cell)) (shift_or_not z_cell)) (λ p. record { x = p.0.0; y = p.0.1; z = p.1 }) (λ h. ((h.x, h.y), h.z))
