-- What holds of the generators of a space group, the members and one cell along each axis, and so of all its elements.
use Rattle.std.proofs.Common.{◌≡◌, ◌↔◌, ◌<◌, ◌≤◌, ◌+◌, ◌++◌, ◌∷◌, [], ℕ, ℤ, pos, ◌*ℤ◌, unsigned_abs, le_refl, take, Some, slice_get, List, map, length, Contains, All, ⊎_elim, length-append, sym, ap, ◌∙◌, subst, refl, arith}
use Rattle.std.proofs.lemmas.List.Elements.{All-contains, All-weaker, All-contains_itself, All-push, All-nil, Contains-append_left, Contains-append_right, Contains-append_cases, Contains-push, Contains-push_cases}
use Rattle.std.specs.Prelude.{option_map}
use Rattle.std.proofs.lemmas.List.{length-map}
use Rattle.std.proofs.lemmas.Option.{slice_get-map, slice_get_within}
use Rattle.lattice_algebra.specs.Matrix.{Matrix, Column, ◌·◌, ◌·ᶜ◌, identity, times}
use Rattle.lattice_algebra.proofs.Ring.{var, con}
use Rattle.lattice_algebra.proofs.MatrixRing.{sym_times, column_ring}
use Rattle.lattice_algebra.specs.Operator.{Operator, IsOperator, AreWithin}
use Rattle.lattice_algebra.specs.Map.{Map, operator_of, map_of}
use Rattle.lattice_algebra.proofs.Maps.{map_path, operator_of-map}
use Rattle.exact_ops.specs.declared.TheConstants.{UNIT}
use Rattle.exact_ops.proofs.Narrow.{some_parts}
use Rattle.group_closure.specs.GroupList.{IsGroup}
use Rattle.group_closure.proofs.Lists.{closed_list}
use Rattle.finite_groups.proofs.Members.{Contains-map, Contains-from_map, Contains-here, Contains-later}
use Rattle.space_groups.specs.Space.{IsElement}
use Rattle.space_groups.specs.Regions.{shift_by}
use Rattle.space_groups.specs.Bases.{CoordinateChange, IsChange, IsChanged, IsInChanged, HasChanged, AreWhole, AreNarrow, AreInParts, AreGenerators, x_cell, y_cell, z_cell}
use Rattle.space_groups.proofs.Elements.{SpaceGroup}
use Rattle.space_groups.proofs.Regions.{shift_in}
use Rattle.space_groups.proofs.CellTests.{in_parts, cell_test}
use Rattle.basis_change.proofs.Steps.{read_front, read_behind, one_more, contains_at}
use Rattle.lattice_algebra.proofs.Columns.{cancel_column}
use Rattle.basis_change.specs.declared.frame.Frame.{Frame}
use Rattle.basis_change.specs.Wide.{wide_matrix}
use Rattle.basis_change.proofs.Frames.{is_change}
use Rattle.basis_change.specs.Frames.{IsFrame, change_in, generators, cells, HasWholeMatrix, HasNarrowMatrix, HasMap, AreChanged}

pub operator_w : (g : Map) → (operator_of UNIT g).w ≡ g.w
unfolding operator_of
operator_w g = refl

-- ---- one cell along each axis

times_x : (n : ℤ) → times n x_cell ≡ record { x = n; y = pos 0; z = pos 0 }
unfolding times
times_x n = column_ring (n ∷ []) (sym_times (var 0) (record { x = con (pos 1); y = con (pos 0); z = con (pos 0) })) (record { x = var 0; y = con (pos 0); z = con (pos 0) }) tt

times_y : (n : ℤ) → times n y_cell ≡ record { x = pos 0; y = n; z = pos 0 }
unfolding times
times_y n = column_ring (n ∷ []) (sym_times (var 0) (record { x = con (pos 0); y = con (pos 1); z = con (pos 0) })) (record { x = con (pos 0); y = var 0; z = con (pos 0) }) tt

times_z : (n : ℤ) → times n z_cell ≡ record { x = pos 0; y = pos 0; z = n }
unfolding times
times_z n = column_ring (n ∷ []) (sym_times (var 0) (record { x = con (pos 0); y = con (pos 0); z = con (pos 1) })) (record { x = con (pos 0); y = con (pos 0); z = var 0 }) tt

size_of : (n b : ℤ) → b ≡ n → unsigned_abs b ≤ unsigned_abs n
size_of n b e = subst (λ v. unsigned_abs v ≤ unsigned_abs n) (sym e) (le_refl (unsigned_abs n))

pub along_x : (i : ℕ) (n b : ℤ) → i ≡ 0 → b ≡ n → slice_get (map (times n) cells) i ≡ Some (record { x = b; y = pos 0; z = pos 0 })
along_x i n b h e = ap (slice_get (map (times n) cells)) h ∙ ap (λ c. Some c) (times_x n ∙ ap (λ v. record { x = v; y = pos 0; z = pos 0 }) (sym e))

pub along_y : (i : ℕ) (n b : ℤ) → i ≡ 1 → b ≡ n → slice_get (map (times n) cells) i ≡ Some (record { x = pos 0; y = b; z = pos 0 })
along_y i n b h e = ap (slice_get (map (times n) cells)) h ∙ ap (λ c. Some c) (times_y n ∙ ap (λ v. record { x = pos 0; y = v; z = pos 0 }) (sym e))

pub along_z : (i : ℕ) (n b : ℤ) → i ≡ 2 → b ≡ n → slice_get (map (times n) cells) i ≡ Some (record { x = pos 0; y = pos 0; z = b })
along_z i n b h e = ap (slice_get (map (times n) cells)) h ∙ ap (λ c. Some c) (times_z n ∙ ap (λ v. record { x = pos 0; y = pos 0; z = v }) (sym e))

pub within_x : (n b : ℤ) → b ≡ n → AreWithin (unsigned_abs n) b (pos 0) (pos 0)
within_x n b e = record { first = size_of n b e; second = omega arith; third = omega arith }

pub within_y : (n b : ℤ) → b ≡ n → AreWithin (unsigned_abs n) (pos 0) b (pos 0)
within_y n b e = record { first = omega arith; second = size_of n b e; third = omega arith }

pub within_z : (n b : ℤ) → b ≡ n → AreWithin (unsigned_abs n) (pos 0) (pos 0) b
within_z n b e = record { first = omega arith; second = omega arith; third = size_of n b e }

-- the shift by one cell, where the column has the parts of a cell
pub shift_along : (i : ℕ) (c : Column) → slice_get (map (times (pos UNIT)) cells) i ≡ Some c → slice_get (map (shift_by UNIT) cells) i ≡ Some (record { w = identity; s = c })
shift_along i c e = slice_get-map (λ (v : Column). record { w = identity; s = v }) (map (times (pos UNIT)) cells) i ∙ ap (option_map (λ (v : Column). record { w = identity; s = v })) e

-- a member of the group among the generators
pub member_at : (members : List Operator) (i : ℕ) (f : Operator) (w : Matrix) (s : Column) → slice_get members i ≡ Some f → w ≡ f.w → s ≡ f.t → slice_get (generators members) i ≡ Some (record { w = w; s = s })
member_at members i f w s e p q =
    read_front (map map_of members) (map (shift_by UNIT) cells) i (subst (λ n. i < n) (sym (length-map members map_of)) (slice_get_within members i f e))
    ∙ slice_get-map map_of members i ∙ ap (option_map map_of) e ∙ ap (λ m. Some m) (sym (map_path (record { w = w; s = s }) (map_of f) p q))

-- how many there are
pub as_many : (members : List Operator) → length (generators members) ≡ length members + 3
as_many members = length-append (map map_of members) (map (shift_by UNIT) cells) ∙ ap (λ n. n + 3) (length-map members map_of)

-- and a cell, behind the members
pub cell_at : (members : List Operator) (i j : ℕ) (g : Map) → i ≡ length members + j → slice_get (map (shift_by UNIT) cells) j ≡ Some g → slice_get (generators members) i ≡ Some g
cell_at members i j g e h = read_behind (map map_of members) (map (shift_by UNIT) cells) i j (e ∙ ap (λ n. n + j) (sym (length-map members map_of))) ∙ h

x_in : Contains cells x_cell
x_in = Contains-here x_cell (y_cell ∷ z_cell ∷ [])

y_in : Contains cells y_cell
y_in = Contains-later y_cell x_cell (y_cell ∷ z_cell ∷ []) (Contains-here y_cell (z_cell ∷ []))

z_in : Contains cells z_cell
z_in = Contains-later z_cell x_cell (y_cell ∷ z_cell ∷ []) (Contains-later z_cell y_cell (z_cell ∷ []) (Contains-here z_cell []))

module _ (members : List Operator) (group : IsGroup members) where
  abbrev pub the_space : SpaceGroup
  the_space = record { unit = UNIT; some = some_parts; members = members; closed = closed_list members group }

  pub member_element : (f : Operator) → Contains members f → IsElement UNIT members (map_of f)
  member_element f m = subst (Contains members) (sym (operator_of-map UNIT some_parts f (All-contains (IsOperator UNIT) members f (closed_list members group).valid m))) m

  member_generator : (f : Operator) → Contains members f → Contains (generators members) (map_of f)
  member_generator f m = Contains-append_left (map map_of members) (map (shift_by UNIT) cells) (map_of f) (Contains-map map_of f members m)

  cell_generator : (e : Column) → Contains cells e → Contains (generators members) (shift_by UNIT e)
  cell_generator e m = Contains-append_right (map map_of members) (map (shift_by UNIT) cells) (shift_by UNIT e) (Contains-map (shift_by UNIT) e cells m)

  -- each generator is an element
  pub generator_element : (g : Map) → Contains (generators members) g → IsElement UNIT members g
  generator_element g m = ⊎_elim
      (λ p. let r = Contains-from_map map_of g members p in subst (IsElement UNIT members) r.2 (member_element r.0 r.1))
      (λ p. let r = Contains-from_map (shift_by UNIT) g cells p in subst (IsElement UNIT members) r.2 (shift_in the_space r.0))
      (Contains-append_cases (map map_of members) (map (shift_by UNIT) cells) g m)

  all_generators : (P : Map → Type 0) → ((g : Map) → IsElement UNIT members g → P g) → All P (generators members)
  all_generators P h = All-weaker (Contains (generators members)) P (λ g m. h g (generator_element g m)) (generators members) (All-contains_itself (generators members))

  module _ (c : CoordinateChange) where
    -- the matrix of an element is that of a member
    pub whole : All (HasWholeMatrix c) (generators members) ↔ AreWhole UNIT members c
    whole = (
      (λ a g m. let r = All-contains (HasWholeMatrix c) (generators members) (map_of (operator_of UNIT g)) a (member_generator (operator_of UNIT g) m) in (r.0, r.1 ∙ ap (λ w. c.w · w) (operator_w g))),
      (λ h. all_generators (HasWholeMatrix c) h),
    )

    pub narrow : All (HasNarrowMatrix c) (generators members) ↔ AreNarrow UNIT members c
    narrow = (
      (λ a g n m e. All-contains (HasNarrowMatrix c) (generators members) (map_of (operator_of UNIT g)) a (member_generator (operator_of UNIT g) m) n (e ∙ ap (λ w. c.w · w) (sym (operator_w g)))),
      (λ h. all_generators (HasNarrowMatrix c) (λ g m n e. h g n m e)),
    )

    pub parts : IsChange c → All (HasMap c) (generators members) ↔ AreInParts UNIT members c
    parts i = (
      (λ a. let at : (e : Column) → Contains cells e → HasMap c (shift_by UNIT e) = λ e m. All-contains (HasMap c) (generators members) (shift_by UNIT e) a (cell_generator e m) in
          in_parts the_space c i (at x_cell x_in) (at y_cell y_in) (at z_cell z_in) (λ f m. All-contains (HasMap c) (generators members) (map_of f) a (member_generator f m))),
      (λ h. all_generators (HasMap c) h),
    )

    -- a list of the changed generators generates the changed group
    pub are_generators : (list : List Operator) → AreChanged members c (generators members) list → AreGenerators UNIT members c list
    are_generators list a =
        let at : (g : Map) → Contains (generators members) g → HasChanged UNIT c list g = λ g m. All-contains (HasChanged UNIT c list) (generators members) g a.each m in
        record {
          each = λ f m. at (map_of f) (member_generator f m);
          x = at (shift_by UNIT x_cell) (cell_generator x_cell x_in);
          y = at (shift_by UNIT y_cell) (cell_generator y_cell y_in);
          z = at (shift_by UNIT z_cell) (cell_generator z_cell z_in);
          only = a.only;
        }

    -- one more generator is changed and listed
    pub one_more_changed : (maps : List Map) (list : List Operator) (g h : Map) (f : Operator) → AreChanged members c maps list → IsElement UNIT members g → IsChanged c g h → f ≡ operator_of UNIT h → AreChanged members c (maps ++ g ∷ []) (list ++ f ∷ [])
    one_more_changed maps list g h f a m e s = record {
      each = All-push (HasChanged UNIT c (list ++ f ∷ [])) maps g
          (All-weaker (HasChanged UNIT c list) (HasChanged UNIT c (list ++ f ∷ [])) (λ k r. (r.0, r.1, Contains-append_left list (f ∷ []) (operator_of UNIT r.0) r.2)) maps a.each)
          (h, e, subst (Contains (list ++ f ∷ [])) s (Contains-push list f));
      only = λ k n. ⊎_elim (λ p. a.only k p) (λ p. (h, record { from = g; element = m; changed = e }, sym s ∙ p)) (Contains-push_cases list f k n);
    }

    pub none_changed : AreChanged members c [] []
    none_changed = record { each = All-nil (HasChanged UNIT c []); only = λ f m. absurd (omega (arith, m.1)) }

    -- one more of the generators
    pub generator_changed : (i : ℕ) (list : List Operator) (g h : Map) (f : Operator) → AreChanged members c (take i (generators members)) list → slice_get (generators members) i ≡ Some g → IsChanged c g h → f ≡ operator_of UNIT h → AreChanged members c (take (i + 1) (generators members)) (list ++ f ∷ [])
    generator_changed i list g h f a m e s =
        subst (λ maps. AreChanged members c maps (list ++ f ∷ [])) (sym (one_more (generators members) i g m))
        (one_more_changed (take i (generators members)) list g h f a (generator_element g (contains_at (generators members) i g m)) e s)

-- one cell along an axis is a changed element exactly where the column that it comes from is whole and an element
pub frame_cell : (members : List Operator) (group : IsGroup members) (f : Frame) (r : IsFrame f) (e : Column)
    → IsInChanged UNIT members (change_in f) (shift_by UNIT e) ↔ ((s : Column) × (times f.k s ≡ times (f.d *ℤ pos UNIT) (wide_matrix f.v ·ᶜ e)) × IsElement UNIT members (record { w = identity; s = s }))
frame_cell members group f r e = cell_test (the_space members group) (change_in f) (is_change f r) e

pub one_column : (f : Frame) → IsFrame f → (s t v : Column) → times f.k s ≡ v → times f.k t ≡ v → s ≡ t
one_column f r s t v p q = cancel_column f.k s t r.some (p ∙ sym q)
