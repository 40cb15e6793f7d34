-- Every average has a key: the conjugates by the operators with shifts up to its number are enough, and they are finitely many.
use Rattle.std.proofs.Common.{◌≡◌, ◌∷◌, ◌⊎◌, inl, inr, ℕ, ◌<◌, ℤ, pos, List, Contains, map, ap, sym, ◌∙◌, subst, arith}
use Rattle.std.specs.List.{flat_map}
use Rattle.std.proofs.lemmas.Int.{ints}
use Rattle.lattice_algebra.specs.Matrix.{Matrix, Column, entries, coordinates, ◌·◌, neg_column, scaled, origin}
use Rattle.lattice_algebra.specs.Operator.{Operator, identity_operator, AreWithin}
use Rattle.lattice_algebra.specs.Map.{Map, ◌∘◌, map_of}
use Rattle.lattice_algebra.proofs.Ring.{var}
use Rattle.lattice_algebra.proofs.MatrixRing.{matrix_at, ◌·ˢ◌, sym_scaled, matrix_ring}
use Rattle.lattice_algebra.proofs.Numbers.{positive_product}
use Rattle.finite_groups.proofs.Members as lists
use Rattle.space_groups.specs.Averages.{Block}
use Rattle.space_groups.specs.Regions.{shift_by, diagonal}
use Rattle.space_groups.specs.Keys.{carried, Key, key_of, IsBelow, ComesBefore, IsKey}
use Rattle.space_groups.proofs.Elements.{SpaceGroup, space}
use Rattle.space_groups.proofs.Regions.{shift_in}
use Rattle.space_groups.proofs.Carried.{carried-number, carried-∘}
use Rattle.space_groups.proofs.Orbits.{member_map}
use Rattle.space_groups.proofs.FirstCell.{sym_diagonals}
use Rattle.space_groups.proofs.Ordered.{which_below, before_on, not_before_itself}
use Rattle.space_groups.proofs.Keys.{same_entries, same_coordinates, key_path}
use Rattle.space_groups.proofs.KeyCandidates.{shift_below, key_from_operators}
use Rattle.row_lists.proofs.Finite.{Contains-flat_map, Contains-from_flat_map, columns_within, column_within, first_listed}

-- of two keys one comes first, or they are one
pub which_key : (p q : Key) → ComesBefore p q ⊎ ((p ≡ q) ⊎ ComesBefore q p)
which_key p q = by (which_below (entries q.m) (entries p.m)) (which_below (coordinates p.t) (coordinates q.t))
  where
    by : IsBelow (entries q.m) (entries p.m) ⊎ ((entries q.m ≡ entries p.m) ⊎ IsBelow (entries p.m) (entries q.m)) → IsBelow (coordinates p.t) (coordinates q.t) ⊎ ((coordinates p.t ≡ coordinates q.t) ⊎ IsBelow (coordinates q.t) (coordinates p.t))
        → ComesBefore p q ⊎ ((p ≡ q) ⊎ ComesBefore q p)
    by (inl b) o = inl (inl b)
    by (inr (inr b)) o = inr (inr (inl b))
    by (inr (inl e)) (inl b) = inl (inr (sym (same_entries q.m p.m e), b))
    by (inr (inl e)) (inr (inl f)) = inr (inl (key_path p q (sym (same_entries q.m p.m e)) (same_coordinates p.t q.t f)))
    by (inr (inl e)) (inr (inr b)) = inr (inr (inr (same_entries q.m p.m e, b)))

-- n times the columns of a matrix over n are whole
whole_columns : (m : Matrix) (n : ℤ) → m · diagonal (record { x = n; y = n; z = n }) ≡ scaled n m
unfolding ◌·◌ scaled diagonal
whole_columns m n = matrix_ring (n ∷ entries m) (matrix_at 1 ·ˢ sym_diagonals (record { x = var 0; y = var 0; z = var 0 })) (sym_scaled (var 0) (matrix_at 1)) tt

module _ (L : SpaceGroup) where
  open L use {unit, some, members, closed}

  module _ (n : ℕ) (n_some : 0 < n) (a : Block) (number : a.n ≡ pos n) where
    -- what is left of the conjugate by an operator and the opposite of a whole shift
    abbrev left : Operator → Column → Key
    left f j = key_of unit n (carried (shift_by unit (neg_column j)) (carried (map_of f) a))

    abbrev candidates : List Key
    candidates = flat_map (λ f. map (left f) (columns_within n)) members

    candidate : (f : Operator) (j : Column) → Contains members f → AreWithin n j.x j.y j.z → Contains candidates (left f j)
    candidate f j c p = Contains-flat_map (λ g. map (left g) (columns_within n)) members f (left f j) c (lists.Contains-map (left f) j (columns_within n) (column_within n j p))

    -- each conjugate by an operator and a whole shift has the key of a candidate
    by_candidate : (f : Operator) (k : Column) → (j : Column) × AreWithin n j.x j.y j.z × (key_of unit n (carried (shift_by unit k) (carried (map_of f) a)) ≡ left f j)
    by_candidate f k =
        let b : Block = carried (map_of f) a in
        let e : b.n ≡ pos n = carried-number (map_of f) a ∙ number in
        let r = shift_below unit n (positive_product unit n some n_some) b e n n n n_some n_some n_some b.m (whole_columns b.m (pos n) ∙ ap (λ v. scaled v b.m) (sym e)) k in
        (r.0, record { first = omega (arith, ints, r.1.first); second = omega (arith, ints, r.1.second); third = omega (arith, ints, r.1.third) }, r.2)

    -- a candidate that no other comes before is the key
    key_from_candidate : (f : Operator) (j : Column) (p : Key) → Contains members f → left f j ≡ p → ((q : Key) → Contains candidates q → ComesBefore q p → ⊥) → IsKey unit members n a p
    key_from_candidate f j p c gives first =
        let shift : Map = shift_by unit (neg_column j) in
        let s = shift_in L (neg_column j) in
        let m = member_map L f c in
        key_from_operators L n a p (shift ∘ map_of f) ((space L).mul_in shift (map_of f) s m) (ap (key_of unit n) (carried-∘ L shift (map_of f) a s m) ∙ gives) (λ g k d _ before.
        let r = by_candidate g k in
        first (left g r.0) (candidate g r.0 d r.1) (subst (λ v. ComesBefore v p) r.2 before))

    some_candidate : Contains candidates (left identity_operator origin)
    some_candidate = candidate identity_operator origin closed.has_one (record { first = omega arith; second = omega arith; third = omega arith })

    pub some_key : (p : Key) × IsKey unit members n a p
    some_key =
        let least = first_listed ComesBefore not_before_itself before_on which_key candidates (left identity_operator origin) some_candidate in
        let from = Contains-from_flat_map (λ f. map (left f) (columns_within n)) members least.0 least.1.listed in
        let at = lists.Contains-from_map (left from.0) least.0 (columns_within n) from.2 in
        (least.0, key_from_candidate from.0 at.0 least.0 from.1 at.2 least.1.first)
