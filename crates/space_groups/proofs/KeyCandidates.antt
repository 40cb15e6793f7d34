-- Which elements are enough to find the key of an average: those of each operator whose whole shifts are below the numbers that make
-- the columns of the conjugate matrix whole.
use Rattle.std.proofs.Common.{◌≡◌, ◌++◌, ◌∷◌, [], ℕ, ◌*◌, ◌<◌, ℤ, pos, ◌+ℤ◌, ◌*ℤ◌, neg_ℤ, Contains, ap, sym, ◌∙◌, refl, subst}
use Rattle.std.proofs.lemmas.List.Elements.{All-contains}
use Rattle.std.specs.Int.{int_div_euclid, int_rem_euclid}
use Rattle.lattice_algebra.specs.Matrix.{Matrix, Column, entries, coordinates, identity, ◌·◌, ◌·ᶜ◌, ◌+ᶜ◌, neg_column, times, scaled}
use Rattle.lattice_algebra.specs.Operator.{Operator, IsOperator, IsPart}
use Rattle.lattice_algebra.specs.Map.{Map, ◌∘◌, map_of, operator_of}
use Rattle.lattice_algebra.proofs.Ring.{var, con, neg, known, ◌⊕◌, ◌⊗◌, ring_from}
use Rattle.lattice_algebra.proofs.MatrixRing.{matrix_at, column_at, ◌·ˢ◌, ◌·ˢᶜ◌, ◌+ˢᶜ◌, sym_times, sym_neg, sym_scaled, sym_identity, column_ring}
use Rattle.lattice_algebra.proofs.Matrices.{identity-·}
use Rattle.lattice_algebra.proofs.Maps.{map_path, shifted, operator_of-map}
use Rattle.lattice_algebra.proofs.Remainders.{modulo_same, quotient_is, rem_is, whole_part}
use Rattle.space_groups.specs.Space.{IsElement}
use Rattle.space_groups.specs.Averages.{Block}
use Rattle.space_groups.specs.Regions.{shift_by, diagonal, AreWholeColumns}
use Rattle.space_groups.specs.Keys.{carried, Key, key_of, ComesBefore, IsKey}
use Rattle.space_groups.proofs.Elements.{SpaceGroup}
use Rattle.space_groups.proofs.Carried.{carried-∘}
use Rattle.space_groups.proofs.Regions.{shift_in}
use Rattle.space_groups.proofs.FirstCell.{sym_diagonals}
use Rattle.space_groups.proofs.Keys.{shifted_block, carried_shift, key_path}

-- ---- one conjugate average, moved by whole shifts

-- t + u n (k + D z) - u M (k + D z), where M D = n r
along_columns : (m r : Matrix) (t k q z : Column) (u n : ℤ) → m · diagonal q ≡ scaled n r
    → t +ᶜ (times (u *ℤ n) (k +ᶜ diagonal q ·ᶜ z) +ᶜ neg_column (times u (m ·ᶜ (k +ᶜ diagonal q ·ᶜ z)))) ≡ t +ᶜ (times (u *ℤ n) k +ᶜ neg_column (times u (m ·ᶜ k))) +ᶜ times (u *ℤ n) (diagonal q ·ᶜ z +ᶜ neg_column (r ·ᶜ z))
unfolding ◌·◌ ◌·ᶜ◌ ◌+ᶜ◌ times neg_column scaled diagonal
along_columns m r t k q z u n whole =
    let U = var 0 in
    let N = var 1 in
    let M = matrix_at 2 in
    let R = matrix_at 11 in
    let T = column_at 20 in
    let K = column_at 23 in
    let D = sym_diagonals (column_at 26) in
    let Z = column_at 29 in
    let e = u ∷ n ∷ (entries m ++ (entries r ++ (coordinates t ++ (coordinates k ++ (coordinates q ++ coordinates z))))) in
    let here = T +ˢᶜ (sym_times (U ⊗ N) K +ˢᶜ sym_neg (sym_times U (M ·ˢᶜ K))) in
    column_ring e (T +ˢᶜ (sym_times (U ⊗ N) (K +ˢᶜ D ·ˢᶜ Z) +ˢᶜ sym_neg (sym_times U (M ·ˢᶜ (K +ˢᶜ D ·ˢᶜ Z))))) (here +ˢᶜ (sym_times (U ⊗ N) (D ·ˢᶜ Z) +ˢᶜ sym_neg (sym_times U ((M ·ˢ D) ·ˢᶜ Z)))) tt
    ∙ ap (λ x. t +ᶜ (times (u *ℤ n) k +ᶜ neg_column (times u (m ·ᶜ k))) +ᶜ (times (u *ℤ n) (diagonal q ·ᶜ z) +ᶜ neg_column (times u (x ·ᶜ z)))) whole
    ∙ column_ring e (here +ˢᶜ (sym_times (U ⊗ N) (D ·ˢᶜ Z) +ˢᶜ sym_neg (sym_times U (sym_scaled N R ·ˢᶜ Z)))) (here +ˢᶜ sym_times (U ⊗ N) (D ·ˢᶜ Z +ˢᶜ sym_neg (R ·ˢᶜ Z))) tt

-- whole shifts that differ by multiples of such columns give one key
same_shift : (unit n : ℕ) → 0 < unit * n → (b : Block) → b.n ≡ pos n → (q : Column) (r : Matrix) → AreWholeColumns q r b → (k z : Column) → key_of unit n (carried (shift_by unit (k +ᶜ diagonal q ·ᶜ z)) b) ≡ key_of unit n (carried (shift_by unit k) b)
unfolding key_of shifted_block
same_shift unit n h b number q r whole k z =
    ap (key_of unit n) (carried_shift unit (k +ᶜ diagonal q ·ᶜ z) b)
    ∙ key_path _ _ refl (modulo_same (unit * n) h _ _ (diagonal q ·ᶜ z +ᶜ neg_column (r ·ᶜ z))
    (along_columns b.m r b.t k q z (pos unit) b.n whole ∙ ap (λ v. b.t +ᶜ (times (pos unit *ℤ b.n) k +ᶜ neg_column (times (pos unit) (b.m ·ᶜ k))) +ᶜ times (pos unit *ℤ v) (diagonal q ·ᶜ z +ᶜ neg_column (r ·ᶜ z))) number))
    ∙ sym (ap (key_of unit n) (carried_shift unit k b))

-- the column of three numbers
abbrev pub sizes : ℕ → ℕ → ℕ → Column
sizes x y z = record { x = pos x; y = pos y; z = pos z }

-- each number of the column is at least 0 and below its size
pub record AreBelow (x y z : ℕ) (k : Column) : Type 0 where
  pub first : IsPart x k.x
  pub second : IsPart y k.y
  pub third : IsPart z k.z

taken_back : (k r d q : ℤ) → neg_ℤ k ≡ r +ℤ d *ℤ q → k ≡ neg_ℤ r +ℤ d *ℤ neg_ℤ q
taken_back k r d q e =
    ring_from (k ∷ r ∷ d ∷ q ∷ []) (var 0) (neg (var 1) ⊕ var 2 ⊗ neg (var 3)) (known (neg (con (pos 1))) (neg (var 0)) (var 1 ⊕ var 2 ⊗ var 3) ∷ []) (e, tt) tt

on_diagonal : (q z : Column) → diagonal q ·ᶜ z ≡ record { x = q.x *ℤ z.x; y = q.y *ℤ z.y; z = q.z *ℤ z.z }
unfolding ◌·ᶜ◌ diagonal
on_diagonal q z = column_ring (coordinates q ++ coordinates z) (sym_diagonals (column_at 0) ·ˢᶜ column_at 3) (record { x = var 0 ⊗ var 3; y = var 1 ⊗ var 4; z = var 2 ⊗ var 5 }) tt

-- each whole shift gives the key of the opposite of one below the numbers of the columns
pub shift_below : (unit n : ℕ) → 0 < unit * n → (b : Block) → b.n ≡ pos n → (x y z : ℕ) → 0 < x → 0 < y → 0 < z → (r : Matrix) → AreWholeColumns (sizes x y z) r b → (k : Column)
    → (j : Column) × AreBelow x y z j × (key_of unit n (carried (shift_by unit k) b) ≡ key_of unit n (carried (shift_by unit (neg_column j)) b))
unfolding neg_column ◌+ᶜ◌
shift_below unit n h b number x y z hx hy hz r whole k =
    let j : Column = record { x = int_rem_euclid (neg_ℤ k.x) (pos x); y = int_rem_euclid (neg_ℤ k.y) (pos y); z = int_rem_euclid (neg_ℤ k.z) (pos z) } in
    let q : Column = record { x = neg_ℤ (int_div_euclid (neg_ℤ k.x) (pos x)); y = neg_ℤ (int_div_euclid (neg_ℤ k.y) (pos y)); z = neg_ℤ (int_div_euclid (neg_ℤ k.z) (pos z)) } in
    let split : k ≡ neg_column j +ᶜ diagonal (sizes x y z) ·ᶜ q =
    (λ i. record {
      x = taken_back k.x j.x (pos x) (int_div_euclid (neg_ℤ k.x) (pos x)) (quotient_is x hx (neg_ℤ k.x)) i;
      y = taken_back k.y j.y (pos y) (int_div_euclid (neg_ℤ k.y) (pos y)) (quotient_is y hy (neg_ℤ k.y)) i;
      z = taken_back k.z j.z (pos z) (int_div_euclid (neg_ℤ k.z) (pos z)) (quotient_is z hz (neg_ℤ k.z)) i;
    })
    ∙ ap (λ v. neg_column j +ᶜ v) (sym (on_diagonal (sizes x y z) q)) in (
      j,
      record { first = (rem_is x hx (neg_ℤ k.x)).2; second = (rem_is y hy (neg_ℤ k.y)).2; third = (rem_is z hz (neg_ℤ k.z)).2 },
      ap (λ v. key_of unit n (carried (shift_by unit v) b)) split ∙ same_shift unit n h b number (sizes x y z) r whole (neg_column j) q,
    )

-- ---- the elements of an operator

shift_form : (t k : Column) (u : ℤ) → identity ·ᶜ t +ᶜ times u k ≡ t +ᶜ times u k
unfolding ◌·ᶜ◌ ◌+ᶜ◌ times
shift_form t k u = column_ring (u ∷ (coordinates t ++ coordinates k)) (sym_identity ·ˢᶜ column_at 1 +ˢᶜ sym_times (var 0) (column_at 4)) (column_at 1 +ˢᶜ sym_times (var 0) (column_at 4)) tt

shift_after_map : (f : Operator) (unit : ℕ) (k : Column) → shift_by unit k ∘ map_of f ≡ shifted unit f k
unfolding ◌∘◌
shift_after_map f unit k = map_path _ _ (identity-· f.w) (shift_form f.t k (pos unit))

module _ (L : SpaceGroup) where
  open L use {unit, some, members, closed}

  -- an element is that of its operator, shifted
  pub by_operator : (g : Map) → IsElement unit members g → (k : Column) × (g ≡ shift_by unit k ∘ map_of (operator_of unit g))
  unfolding operator_of
  by_operator g m = let c = whole_part unit some g.s in (c.0, (λ i. record { w = g.w; s = c.1 i }) ∙ sym (shift_after_map (operator_of unit g) unit c.0))

  -- what no operator with a whole shift comes before is the key
  pub key_from_operators : (n : ℕ) (a : Block) (p : Key) (g : Map) → IsElement unit members g → key_of unit n (carried g a) ≡ p
      → ((f : Operator) (k : Column) → Contains members f → IsElement unit members (map_of f) → ComesBefore (key_of unit n (carried (shift_by unit k) (carried (map_of f) a))) p → ⊥) → IsKey unit members n a p
  key_from_operators n a p g m e h = record {
    by = g;
    element = m;
    gives = e;
    first = λ g' m' l.
        let c = by_operator g' m' in
        let f = operator_of unit g' in
        let i = map_in f m' in
        h f c.0 m' i (subst (λ v. ComesBefore (key_of unit n v) p) (ap (λ v. carried v a) c.1 ∙ carried-∘ L (shift_by unit c.0) (map_of f) a (shift_in L c.0) i) l);
  }
    where
      map_in : (f : Operator) → Contains members f → IsElement unit members (map_of f)
      map_in f c = subst (Contains members) (sym (operator_of-map unit some f (All-contains (IsOperator unit) members f closed.valid c))) c
