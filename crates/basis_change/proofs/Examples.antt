-- Worked examples: the definitions on literals, in parts of a cell of 24; only examples cite these.
use Rattle.std.proofs.Common.{◌≡◌, ◌≤◌, ℤ, pos, negsuc, ◌+ℤ◌, ◌*ℤ◌, neg_ℤ, unsigned_abs, List, [], ◌∷◌, ⊎_elim, Contains, ap, sym, ◌∙◌, subst, refl, arith}
use Rattle.std.specs.Int.{int_rem_euclid}
use Rattle.std.proofs.lemmas.Int.{ints}
use Rattle.std.proofs.lemmas.List.Elements.{All-from_recursion, All-contains}
use Rattle.finite_groups.proofs.Members as lists
use Rattle.lattice_algebra.specs.Matrix.{Matrix, Column, matrix_of, identity, origin, det, adjugate, scaled, times, ◌·◌, ◌·ᶜ◌, ◌+ᶜ◌}
use Rattle.lattice_algebra.specs.Operator.{Operator, identity_operator, modulo, AreWithin}
use Rattle.lattice_algebra.specs.Map.{Map, map_of, identity_map, operator_of}
use Rattle.lattice_algebra.proofs.Examples.{column}
use Rattle.lattice_algebra.proofs.Remainders.{modulo_is}
use Rattle.exact_ops.specs.declared.TheConstants.{UNIT}
use Rattle.exact_ops.proofs.Narrow.{some_parts}
use Rattle.group_closure.proofs.Examples.{one}
use Rattle.space_groups.specs.Space.{IsElement}
use Rattle.space_groups.specs.Bases.{CoordinateChange, IsCell, AreWhole, HasChanged}
use Rattle.basis_change.specs.declared.wide.WideVector.{WideVector}
use Rattle.basis_change.specs.declared.frame.Frame.{Frame}
use Rattle.basis_change.specs.declared.cell.RecellFault.TheVariants.{NotCell, NotWhole, Wide, Fine}
use Rattle.basis_change.specs.Wide.{stored_wide}
use Rattle.basis_change.specs.Changes.{IsStoredChange, IsStoredCellChange, MayClose, IsRefusedAs, IsRecelled}
use Rattle.basis_change.specs.Frames.{IsFrame, generators, HasWholeMatrix, HasNarrowMatrix, HasMap, AreChanged}

abbrev pub o : ℤ
o = pos 0

abbrev diagonal : ℤ → ℤ → ℤ → Matrix
diagonal x y z = matrix_of (x ∷ o ∷ o ∷ o ∷ y ∷ o ∷ o ∷ o ∷ z ∷ [])

abbrev sheared : ℤ → Matrix
sheared n = matrix_of (pos 1 ∷ n ∷ o ∷ o ∷ pos 1 ∷ o ∷ o ∷ o ∷ pos 1 ∷ [])

abbrev shift : ℤ → ℤ → ℤ → Map
shift x y z = record { w = identity; s = column x y z }

-- ---- changes that are kept

-- the inverse of the matrix of x+y,y,z is that of x-y,y,z, and not itself
kept : IsStoredChange (sheared (pos 1)) (column (pos 3) o o) (sheared (negsuc 0))
unfolding ◌·◌ det adjugate scaled
kept = record { unimodular = (sheared (negsuc 0), refl, refl); within = omega arith; in_cell = record { x = (omega (arith, ints), omega (arith, ints)); y = (omega (arith, ints), omega (arith, ints)); z = (omega (arith, ints), omega (arith, ints)) }; inverse = refl; inverse_within = omega arith }

not_itself : IsStoredChange (sheared (pos 1)) (column (pos 3) o o) (sheared (pos 1)) → ⊥
unfolding det adjugate scaled
not_itself k = let e : pos 1 ≡ negsuc 0 = ap (λ (m : Matrix). m.xy) k.inverse in omega (arith, ints)

-- x/8,y,z
abbrev eighth : CoordinateChange
eighth = record { w = diagonal (pos 1) (pos 8) (pos 8); t = origin; d = pos 8 }

cell_kept : IsStoredCellChange eighth.w origin 8
unfolding det
cell_kept = record { within = omega arith; some = λ e. omega (arith, ints, e); in_cell = record { x = (omega (arith, ints), omega (arith, ints)); y = (omega (arith, ints), omega (arith, ints)); z = (omega (arith, ints), omega (arith, ints)) }; first = omega arith; last = omega arith }

no_inverse : IsStoredCellChange (diagonal (pos 1) (pos 8) o) origin 8 → ⊥
unfolding det
no_inverse k = k.some refl

no_denominator : IsStoredCellChange eighth.w origin 0 → ⊥
no_denominator k = omega (arith, k.first)

-- its inverse is that of 8*x,y,z: the matrix diag(64,8,8) over 64, and no other
abbrev vector : ℤ → ℤ → ℤ → WideVector
vector x y z = record { x = x; y = y; z = z }

abbrev frame : Matrix → ℤ → Frame
frame v k = record { w = stored_wide eighth.w; v = stored_wide v; k = k; t = vector o o o; d = pos 8 }

a_frame : IsFrame (frame (diagonal (pos 64) (pos 8) (pos 8)) (pos 64))
unfolding ◌·◌ scaled
a_frame = record { within = omega arith; inverse_within = omega arith; some = omega (arith, ints); right = refl; left = refl; in_cell = record { x = (omega (arith, ints), omega (arith, ints)); y = (omega (arith, ints), omega (arith, ints)); z = (omega (arith, ints), omega (arith, ints)) }; positive = omega (arith, ints); small = omega (arith, ints) }

no_frame : IsFrame (frame (diagonal (pos 1) (pos 8) (pos 8)) (pos 8)) → ⊥
unfolding ◌·◌ scaled
no_frame f = let e : pos 1 ≡ pos 8 = ap (λ (m : Matrix). m.xx) f.right in omega (arith, ints)

-- ---- P1 in the cell x/8,y,z, and in 2*x,y,z

pub element_of_one : (g : Map) → IsElement UNIT one g → (g.w ≡ identity) × (modulo UNIT g.s ≡ origin)
unfolding operator_of
element_of_one g c = ⊎_elim (λ e. (sym (ap (λ (f : Operator). f.w) e), sym (ap (λ (f : Operator). f.t) e))) (λ n. lists.not_in_nil (operator_of UNIT g) n) (lists.Contains-cases (operator_of UNIT g) identity_operator [] c)

cell_of : (members : List Operator) → Contains members identity_operator → IsCell UNIT members eighth
unfolding operator_of modulo ◌·◌ ◌·ᶜ◌ ◌+ᶜ◌ times
cell_of members c = record {
  x = record { from = shift (pos 192) o o; element = c; changed = record { rotation = refl; translation = refl } };
  y = record { from = shift o (pos 24) o; element = c; changed = record { rotation = refl; translation = refl } };
  z = record { from = shift o o (pos 24); element = c; changed = record { rotation = refl; translation = refl } };
}

-- the matrix of a translation is the identity in each cell
whole_of : (g : Map) → g.w ≡ identity → HasWholeMatrix eighth g
unfolding ◌·◌
whole_of g e = (identity, ap (λ m. eighth.w · m) (sym e))

-- the entries of a row that becomes a row of diag(1,8,8)
narrow_row : (x y z a b c : ℤ) → unsigned_abs a ≤ 1 → unsigned_abs b ≤ 8 → unsigned_abs c ≤ 8
    → x *ℤ pos 1 +ℤ y *ℤ o +ℤ z *ℤ o ≡ a → x *ℤ o +ℤ y *ℤ pos 8 +ℤ z *ℤ o ≡ b → x *ℤ o +ℤ y *ℤ o +ℤ z *ℤ pos 8 ≡ c → AreWithin 2 x y z
narrow_row x y z a b c p q r d e f = record { first = omega (arith, ints); second = omega (arith, ints); third = omega (arith, ints) }

narrow_of : (g : Map) → g.w ≡ identity → HasNarrowMatrix eighth g
unfolding ◌·◌
narrow_of g e m q =
    let r : m · eighth.w ≡ eighth.w · identity = q ∙ ap (λ n. eighth.w · n) e in
    record {
      x = narrow_row m.xx m.xy m.xz (pos 1) o o (omega arith) (omega arith) (omega arith) (ap (λ (n : Matrix). n.xx) r) (ap (λ (n : Matrix). n.xy) r) (ap (λ (n : Matrix). n.xz) r);
      y = narrow_row m.yx m.yy m.yz o (pos 8) o (omega arith) (omega arith) (omega arith) (ap (λ (n : Matrix). n.yx) r) (ap (λ (n : Matrix). n.yy) r) (ap (λ (n : Matrix). n.yz) r);
      z = narrow_row m.zx m.zy m.zz o o (pos 8) (omega arith) (omega arith) (omega arith) (ap (λ (n : Matrix). n.zx) r) (ap (λ (n : Matrix). n.zy) r) (ap (λ (n : Matrix). n.zz) r);
    }

-- whole cells are whole in eighths: one cell along x becomes 1/8 of a cell
eighth_of_one : HasMap eighth (shift (pos 24) o o)
unfolding ◌·◌ ◌·ᶜ◌ ◌+ᶜ◌ times
eighth_of_one = (shift (pos 3) o o, record { rotation = refl; translation = refl })

parts_of_one : (g : Map) → IsElement UNIT one g → HasMap eighth g
unfolding ◌·◌ ◌·ᶜ◌ ◌+ᶜ◌ times
parts_of_one g c =
    let is = element_of_one g c in
    let k = modulo_is UNIT some_parts g.s in
    let e : origin ≡ g.s +ᶜ times (pos UNIT) k.0 = sym is.1 ∙ k.1 in (
      shift (pos 3 *ℤ neg_ℤ k.0.x) g.s.y g.s.z,
      record { rotation = ap (λ m. eighth.w · m) (sym is.0); translation = λ i. record { x = first g.s.x g.s.y g.s.z k.0.x (ap (λ (c : Column). c.x) e) i; y = second g.s.x g.s.y g.s.z i; z = third g.s.x g.s.y g.s.z i } },
    )
  where
    first : (x y z k : ℤ) → o ≡ x +ℤ pos 24 *ℤ k → pos 8 *ℤ (o +ℤ pos 3 *ℤ neg_ℤ k) ≡ pos 1 *ℤ x +ℤ o *ℤ y +ℤ o *ℤ z +ℤ o
    first x y z k e = omega (arith, ints)

    second : (x y z : ℤ) → pos 8 *ℤ (o +ℤ y) ≡ o *ℤ x +ℤ pos 8 *ℤ y +ℤ o *ℤ z +ℤ o
    second x y z = omega (arith, ints)

    third : (x y z : ℤ) → pos 8 *ℤ (o +ℤ z) ≡ o *ℤ x +ℤ o *ℤ y +ℤ pos 8 *ℤ z +ℤ o
    third x y z = omega (arith, ints)

may_close : MayClose one eighth
may_close = record {
  cell = cell_of one (0, omega arith, refl);
  whole = λ g c. whole_of g (element_of_one g c).0;
  narrow = λ g m c q. narrow_of g (element_of_one g c).0 m q;
  parts = parts_of_one;
}

-- 2*x,y,z is no cell of it: it would have the translation by 1/2 along x
abbrev doubled : CoordinateChange
doubled = record { w = diagonal (pos 2) (pos 1) (pos 1); t = origin; d = pos 1 }

half_a_cell : (x y z : ℤ) → pos 24 ≡ pos 2 *ℤ x +ℤ o *ℤ y +ℤ o *ℤ z +ℤ o → x ≡ pos 12
half_a_cell x y z e = omega (arith, ints)

no_cell : IsRefusedAs one doubled NotCell
unfolding modulo ◌·◌ ◌·ᶜ◌ ◌+ᶜ◌ times
no_cell cell =
    let g = cell.x.from in
    let h : g.s.x ≡ pos 12 = half_a_cell g.s.x g.s.y g.s.z (ap (λ (c : Column). c.x) cell.x.changed.translation) in
    let e : int_rem_euclid g.s.x (pos UNIT) ≡ o = ap (λ (c : Column). c.x) (element_of_one g cell.x.element).1 in
    let t : pos 12 ≡ o = subst (λ x. int_rem_euclid x (pos UNIT) ≡ o) h e in
    omega (arith, ints, t)

not_refused : IsRefusedAs one eighth NotCell → ⊥
not_refused n = n may_close.cell

no_close : MayClose one doubled → ⊥
no_close m = no_cell m.cell

-- and P1 in the new cell is not x,y,z alone: x+1/8,y,z is in it
not_alone : IsRecelled one eighth one → ⊥
unfolding operator_of modulo ◌·◌ ◌·ᶜ◌ ◌+ᶜ◌ times
not_alone r =
    let h = r.changed_group.each (shift (pos 24) o o) (0, omega arith, refl) in
    let e : int_rem_euclid h.0.s.x (pos UNIT) ≡ o = ap (λ (c : Column). c.x) (element_of_one h.0 h.1).1 in
    let x : h.0.s.x ≡ pos 3 = of_shift h.0.w.xx h.0.w.xy h.0.w.xz h.0.s.x (ap (λ (c : Column). c.x) h.2.translation) in
    let t : pos 3 ≡ o = subst (λ x. int_rem_euclid x (pos UNIT) ≡ o) x e in
    omega (arith, ints, t)
  where
    of_shift : (a b c x : ℤ) → pos 8 *ℤ (a *ℤ o +ℤ b *ℤ o +ℤ c *ℤ o +ℤ x) ≡ pos 24 → x ≡ pos 3
    of_shift a b c x e = omega (arith, ints)

-- ---- the other refusals of x/8,y,z

-- -y,x,z would have the entry -1/8
abbrev fourfold : Operator
fourfold = record { w = matrix_of (o ∷ negsuc 0 ∷ o ∷ pos 1 ∷ o ∷ o ∷ o ∷ o ∷ pos 1 ∷ []); t = origin }

abbrev four : List Operator
four = identity_operator ∷ fourfold ∷ record { w = diagonal (negsuc 0) (negsuc 0) (pos 1); t = origin } ∷ record { w = matrix_of (o ∷ pos 1 ∷ o ∷ negsuc 0 ∷ o ∷ o ∷ o ∷ o ∷ pos 1 ∷ []); t = origin } ∷ []

no_matrix_of_fourfold : HasWholeMatrix eighth (map_of fourfold) → ⊥
unfolding ◌·◌
no_matrix_of_fourfold h = by h.0.xx h.0.xy h.0.xz (ap (λ (m : Matrix). m.xy) h.1)
  where
    by : (x y z : ℤ) → x *ℤ o +ℤ y *ℤ pos 8 +ℤ z *ℤ o ≡ negsuc 0 → ⊥
    by x y z e = omega (arith, ints, e)

not_whole : IsRefusedAs four eighth NotWhole
unfolding operator_of modulo
not_whole = (cell_of four (0, omega arith, refl), λ w. no_matrix_of_fourfold (w (map_of fourfold) (1, omega arith, refl)))

-- x+1/2,y,z would have the translation 12/8
abbrev pub centred : List Operator
centred = identity_operator ∷ record { w = identity; t = column (pos 12) o o } ∷ []

matrix_of_centred : (g : Map) → IsElement UNIT centred g → g.w ≡ identity
unfolding operator_of
matrix_of_centred g c = ⊎_elim
    (λ e. sym (ap (λ (f : Operator). f.w) e))
    (λ d. ⊎_elim (λ e. sym (ap (λ (f : Operator). f.w) e)) (λ n. lists.not_in_nil (operator_of UNIT g) n) (lists.Contains-cases (operator_of UNIT g) (record { w = identity; t = column (pos 12) o o }) [] d))
    (lists.Contains-cases (operator_of UNIT g) identity_operator (record { w = identity; t = column (pos 12) o o } ∷ []) c)

no_map_of_half : HasMap eighth (shift (pos 12) o o) → ⊥
unfolding ◌·ᶜ◌ ◌+ᶜ◌ times
no_map_of_half h = by h.0.w.xx h.0.w.xy h.0.w.xz h.0.s.x (ap (λ (c : Column). c.x) h.1.translation)
  where
    by : (a b c x : ℤ) → pos 8 *ℤ (a *ℤ o +ℤ b *ℤ o +ℤ c *ℤ o +ℤ x) ≡ pos 12 → ⊥
    by a b c x e = omega (arith, ints, e)

too_fine : IsRefusedAs centred eighth Fine
unfolding operator_of modulo
too_fine = (
  cell_of centred (0, omega arith, refl),
  (λ g c. whole_of g (matrix_of_centred g c)),
  (λ g m c q. narrow_of g (matrix_of_centred g c) m q),
  (λ p. no_map_of_half (p (shift (pos 12) o o) (1, omega arith, refl))),
)

-- x+2*y,y,z makes x-4*y,-y,z of x,-y,z
abbrev twice_sheared : CoordinateChange
twice_sheared = record { w = sheared (pos 2); t = origin; d = pos 1 }

abbrev mirror : Operator
mirror = record { w = diagonal (pos 1) (negsuc 0) (pos 1); t = origin }

abbrev mirrored : List Operator
mirrored = identity_operator ∷ mirror ∷ []

abbrev its_matrix : Matrix
its_matrix = matrix_of (pos 1 ∷ negsuc 3 ∷ o ∷ o ∷ negsuc 0 ∷ o ∷ o ∷ o ∷ pos 1 ∷ [])

no_narrow_matrix : HasNarrowMatrix twice_sheared (map_of mirror) → ⊥
unfolding ◌·◌
no_narrow_matrix n = let w = n its_matrix refl in omega (arith, w.x.second)

whole_matrices : AreWhole UNIT mirrored twice_sheared
unfolding operator_of ◌·◌
whole_matrices g c = ⊎_elim
    (λ e. (identity, ap (λ m. twice_sheared.w · m) (ap (λ (f : Operator). f.w) e)))
    (λ d. ⊎_elim (λ e. (its_matrix, ap (λ m. twice_sheared.w · m) (ap (λ (f : Operator). f.w) e))) (λ n. lists.not_in_nil (operator_of UNIT g) n) (lists.Contains-cases (operator_of UNIT g) mirror [] d))
    (lists.Contains-cases (operator_of UNIT g) identity_operator (mirror ∷ []) c)

too_wide : IsRefusedAs mirrored twice_sheared Wide
unfolding operator_of modulo ◌·◌ ◌·ᶜ◌ ◌+ᶜ◌ times
too_wide = (
  record {
    x = record { from = shift (pos 24) o o; element = (0, omega arith, refl); changed = record { rotation = refl; translation = refl } };
    y = record { from = shift (negsuc 47) (pos 24) o; element = (0, omega arith, refl); changed = record { rotation = refl; translation = refl } };
    z = record { from = shift o o (pos 24); element = (0, omega arith, refl); changed = record { rotation = refl; translation = refl } };
  },
  whole_matrices,
  (λ n. no_narrow_matrix (λ m q. n (map_of mirror) m (1, omega arith, refl) q)),
)

-- ---- generators

-- the members, and a cell along each axis
three_cells : generators one ≡ identity_map ∷ shift (pos 24) o o ∷ shift o (pos 24) o ∷ shift o o (pos 24) ∷ []
unfolding times
three_cells = refl

abbrev eighths : List Operator
eighths = identity_operator ∷ record { w = identity; t = column (pos 3) o o } ∷ []

changed : AreChanged one eighth (generators one) eighths
unfolding operator_of modulo ◌·◌ ◌·ᶜ◌ ◌+ᶜ◌ times
changed = record {
  each = All-from_recursion (HasChanged UNIT eighth eighths) (generators one) (
    (shift o o o, record { rotation = refl; translation = refl }, (0, omega arith, refl)),
    (
      (shift (pos 3) o o, record { rotation = refl; translation = refl }, (1, omega arith, refl)),
      (
        (shift o (pos 24) o, record { rotation = refl; translation = refl }, (0, omega arith, refl)),
        ((shift o o (pos 24), record { rotation = refl; translation = refl }, (0, omega arith, refl)), tt),
      ),
    ),
  );
  only = λ f c. ⊎_elim
      (λ e. (shift o o o, record { from = shift o o o; element = (0, omega arith, refl); changed = record { rotation = refl; translation = refl } }, e))
      (λ d. ⊎_elim (λ e. (shift (pos 3) o o, record { from = shift (pos 24) o o; element = (0, omega arith, refl); changed = record { rotation = refl; translation = refl } }, e)) (λ n. lists.not_in_nil f n) (lists.Contains-cases f (record { w = identity; t = column (pos 3) o o }) [] d))
      (lists.Contains-cases f identity_operator (record { w = identity; t = column (pos 3) o o } ∷ []) c);
}

-- x,y,z alone is not enough
not_changed : AreChanged one eighth (generators one) one → ⊥
unfolding operator_of modulo ◌·◌ ◌·ᶜ◌ ◌+ᶜ◌ times
not_changed a =
    let h = All-contains (HasChanged UNIT eighth one) (generators one) (shift (pos 24) o o) a.each (1, omega arith, refl) in
    let e : int_rem_euclid h.0.s.x (pos UNIT) ≡ o = ap (λ (c : Column). c.x) (element_of_one h.0 h.2).1 in
    let x : h.0.s.x ≡ pos 3 = of_shift h.0.w.xx h.0.w.xy h.0.w.xz h.0.s.x (ap (λ (c : Column). c.x) h.1.translation) in
    let t : pos 3 ≡ o = subst (λ x. int_rem_euclid x (pos UNIT) ≡ o) x e in
    omega (arith, ints, t)
  where
    of_shift : (a b c x : ℤ) → pos 8 *ℤ (a *ℤ o +ℤ b *ℤ o +ℤ c *ℤ o +ℤ x) ≡ pos 24 → x ≡ pos 3
    of_shift a b c x e = omega (arith, ints)
