-- Worked examples: what a change keeps, on literals: x,y,z itself over P1, P-1 and a centred cell; nothing cites these.
use Rattle.std.proofs.Common.{◌≡◌, ◌≢◌, ◌++◌, ℕ, ℤ, pos, negsuc, ◌+ℤ◌, ◌*ℤ◌, List, [], ◌∷◌, length, ⊎_elim, Contains, ap, sym, ◌∙◌, subst, refl, arith}
use Rattle.std.proofs.lemmas.Int.{ints}
use Rattle.std.proofs.lemmas.List.Kept.{AllPairs-cons}
use Rattle.std.proofs.lemmas.List.Elements.{All-from_recursion}
use Rattle.finite_groups.proofs.Members as lists
use Rattle.lattice_algebra.specs.Matrix.{Matrix, Column, matrix_of, entries, coordinates, identity, origin, det, adjugate, scaled, times, ◌·◌, ◌·ᶜ◌, ◌+ᶜ◌}
use Rattle.lattice_algebra.specs.Operator.{Operator, identity_operator, modulo}
use Rattle.lattice_algebra.specs.Map.{Map, ◌∘◌, identity_map, map_of, operator_of}
use Rattle.lattice_algebra.specs.Point.{Point, IsPoint, image}
use Rattle.lattice_algebra.proofs.Ring.{con}
use Rattle.lattice_algebra.proofs.MatrixRing.{SymMatrix, matrix_at, column_at, ◌·ˢ◌, ◌·ˢᶜ◌, ◌+ˢᶜ◌, sym_scaled, sym_times, sym_identity, sym_origin, column_ring, matrix_ring}
use Rattle.lattice_algebra.proofs.Maps.{identity-∘, ∘-identity}
use Rattle.lattice_algebra.proofs.Remainders.{modulo_is}
use Rattle.lattice_algebra.proofs.Examples.{column, minus, inversion, inverting, both, in_both, point}
use Rattle.exact_ops.specs.declared.TheConstants.{UNIT}
use Rattle.exact_ops.proofs.Narrow.{some_parts}
use Rattle.group_closure.specs.GroupList.{IsGroup}
use Rattle.group_closure.proofs.Examples.{one, in_one, group_of_one, group_of_both}
use Rattle.group_closure.proofs.Lists as groups
use Rattle.space_groups.specs.Space.{IsInSite, AreConjugate}
use Rattle.space_groups.specs.Lists.{IsSiteList, IsOrbitList}
use Rattle.space_groups.specs.Bases.{CoordinateChange, IsBasisChange, IsChanged, IsChangedGroup, changed_point}
use Rattle.space_groups.proofs.Elements.{SpaceGroup}
use Rattle.space_groups.proofs.Laws.{one_element, some_orbit, order_times_multiplicity}
use Rattle.space_groups.proofs.Changes.{IsChange-basis}
use Rattle.phase_rules.specs.declared.pairs.Pairs.TheVariants.{Apart}
use Rattle.phase_rules.specs.Rows.{Row, ◌·ʳ◌, ◌·ʳᶜ◌}
use Rattle.phase_rules.specs.Equivalent.{AreEquivalent, IsClass}
use Rattle.phase_rules.specs.Marks.{phase_shift}
use Rattle.phase_rules.specs.declared.parts.Mark.TheVariants.{Phase}
use Rattle.basis_change.specs.Laws.{changed_row, changed_mark, MovesSites, KeepsConjugates, KeepsOrbitSizes, KeepsAbsences, KeepsClassSizes}
use Rattle.basis_change.proofs.ChangedGroup.{moves_sites, keeps_conjugates, keeps_orbit_sizes}
use Rattle.basis_change.proofs.Reflections.{keeps_absences, keeps_class_sizes}
use Rattle.basis_change.proofs.Examples.{o, element_of_one, centred}

-- ---- x,y,z as a change

abbrev unchanged : CoordinateChange
unchanged = record { w = identity; t = origin; d = pos 1 }

basis : IsBasisChange unchanged
unfolding ◌·◌
basis = record { unimodular = (identity, refl, refl); one = refl }

turned : (w : Matrix) → w · identity ≡ identity · w
unfolding ◌·◌
turned w = matrix_ring (entries w) (matrix_at 0 ·ˢ sym_identity) (sym_identity ·ˢ matrix_at 0) tt

shifted : (w : Matrix) (s : Column) → times (pos 1) (w ·ᶜ origin +ᶜ s) ≡ identity ·ᶜ s +ᶜ times (pos 1) origin
unfolding ◌·ᶜ◌ ◌+ᶜ◌ times
shifted w s = column_ring (entries w ++ coordinates s) (sym_times (con (pos 1)) (matrix_at 0 ·ˢᶜ sym_origin +ˢᶜ column_at 9)) (sym_identity ·ˢᶜ column_at 9 +ˢᶜ sym_times (con (pos 1)) sym_origin) tt

itself : (g : Map) → IsChanged unchanged g g
itself g = record { rotation = turned g.w; translation = shifted g.w g.s }

unchanged_group : (members : List Operator) → IsChangedGroup UNIT members unchanged members
unchanged_group members = record { each = λ g m. (g, m, itself g); only = λ h m. record { from = h; element = m; changed = itself h } }

-- what it keeps of P1
keeps_sites_of_one : MovesSites one unchanged one
keeps_sites_of_one = moves_sites one group_of_one unchanged (IsChange-basis unchanged basis) one (unchanged_group one)

keeps_conjugates_of_one : KeepsConjugates one unchanged one
keeps_conjugates_of_one = keeps_conjugates one group_of_one unchanged (IsChange-basis unchanged basis) one (unchanged_group one)

keeps_orbits_of_one : KeepsOrbitSizes one unchanged one
keeps_orbits_of_one = keeps_orbit_sizes one group_of_one unchanged basis one group_of_one (unchanged_group one)

keeps_absences_of_one : KeepsAbsences one unchanged one
keeps_absences_of_one = keeps_absences one one group_of_one group_of_one unchanged basis (unchanged_group one)

keeps_classes_of_one : KeepsClassSizes one unchanged one
keeps_classes_of_one = keeps_class_sizes one one group_of_one group_of_one unchanged basis (unchanged_group one)

-- ---- absences

abbrev row : ℤ → ℤ → ℤ → Row
row h k l = record { h = h; k = k; l = l }

-- in the same coordinates P1 and the list of x,y,z and x+1/2,y,z have not the same absences
other_absences : KeepsAbsences one unchanged centred → ⊥
unfolding ◌·ʳ◌ ◌·ʳᶜ◌ det adjugate scaled
other_absences k =
    let a = (k (row (pos 1) o o)).1 (record { by = record { w = identity; t = column (pos 12) o o }; member = (1, omega arith, refl); fixes = refl; shifts = λ e. omega (arith, ints, e) }) in
    ⊎_elim (λ e. a.shifts (subst (λ (f : Operator). phase_shift (row (pos 1) o o) f ≡ o) e refl)) (λ n. lists.not_in_nil a.by n) (lists.Contains-cases a.by identity_operator [] a.member)

-- ---- site-symmetry groups: the origin has -x,-y,-z in P-1 and not in P1

other_sites : MovesSites both unchanged one → ⊥
unfolding operator_of modulo image changed_point ◌·◌ ◌·ᶜ◌ ◌+ᶜ◌ times
other_sites m =
    let g : Map = map_of inverting in
    let s = (m (point o o o (pos 1)) g (omega (arith, ints))).1 (g, record { element = (1, omega arith, refl); fixes = refl }, record { rotation = refl; translation = refl }) in
    let e : inversion ≡ identity = (element_of_one g s.element).0 in
    let x : negsuc 0 ≡ pos 1 = ap (λ (m : Matrix). m.xx) e in
    omega (arith, ints, x)

-- ---- conjugate points and orbits: the origin, and 1/8,0,0, which the identity alone fixes

abbrev zero_point : Point
zero_point = point o o o (pos 1)

abbrev eighth_point : Point
eighth_point = point (pos 1) o o (pos 8)

abbrev space_group : (members : List Operator) → IsGroup members → SpaceGroup
space_group members g = record { unit = UNIT; some = some_parts; members = members; closed = groups.closed_list members g }

only_map : (g : Map) → Contains (identity_map ∷ []) g → identity_map ≡ g
only_map g c = ⊎_elim (λ e. e) (λ n. lists.not_in_nil g n) (lists.Contains-cases g identity_map [] c)

-- where no other element fixes x, the identity is all of its site-symmetry group
alone_at : (members : List Operator) → IsGroup members → (x : Point) → IsPoint x → IsInSite UNIT members x identity_map → ((g : Map) → IsInSite UNIT members x g → g.w ≡ identity) → IsSiteList UNIT members x (identity_map ∷ [])
alone_at members group x p i h = record {
  exactly = λ g. (
    (λ c. subst (IsInSite UNIT members x) (only_map g c) i),
    (λ s. subst (Contains (identity_map ∷ [])) (one_element (space_group members group) x p identity_map g i s (sym (h g s))) (0, omega arith, refl)),
  );
  once = λ i j d l m. absurd (omega arith);
}

-- and then its orbit has as many points as there are members
orbit_of : (members : List Operator) (group : IsGroup members) (x : Point) → IsPoint x → IsSiteList UNIT members x (identity_map ∷ []) → (orbit : List Point) → IsOrbitList UNIT members x orbit → length orbit ≡ length members
orbit_of members group x p s orbit i = let e = order_times_multiplicity (space_group members group) x p (identity_map ∷ []) orbit s i in omega (arith, e)

in_one_at : (x : Point) → IsPoint x → IsInSite UNIT one x identity_map → IsSiteList UNIT one x (identity_map ∷ [])
in_one_at x p i = alone_at one group_of_one x p i (λ g s. (element_of_one g s.element).0)

zero_in_one : IsInSite UNIT one zero_point identity_map
unfolding operator_of modulo image times ◌·ᶜ◌ ◌+ᶜ◌
zero_in_one = record { element = (0, omega arith, refl); fixes = refl }

eighth_in_one : IsInSite UNIT one eighth_point identity_map
unfolding operator_of modulo image times ◌·ᶜ◌ ◌+ᶜ◌
eighth_in_one = record { element = (0, omega arith, refl); fixes = refl }

eighth_there : IsInSite UNIT one (changed_point UNIT unchanged eighth_point) identity_map
unfolding operator_of modulo image changed_point times ◌·ᶜ◌ ◌+ᶜ◌
eighth_there = record { element = (0, omega arith, refl); fixes = refl }

-- no inversion of P-1 fixes 1/8,0,0
turned_by : (a b c x y z k : ℤ) → a ≡ negsuc 0 → o ≡ x +ℤ pos 24 *ℤ k → pos 8 *ℤ (pos 24 *ℤ (a *ℤ pos 1 +ℤ b *ℤ o +ℤ c *ℤ o) +ℤ pos 8 *ℤ x) ≡ pos 192 *ℤ pos 1 → ⊥
turned_by a b c x y z k p q r = omega (arith, ints, p, q, r)

not_turned : (g : Map) → IsInSite UNIT both eighth_point g → g.w ≡ identity
unfolding operator_of image times ◌·ᶜ◌ ◌+ᶜ◌
not_turned g s = ⊎_elim
    (λ e. sym (ap (λ (f : Operator). f.w) e))
    (λ e.
    let k = modulo_is UNIT some_parts g.s in
    absurd (turned_by g.w.xx g.w.xy g.w.xz g.s.x g.s.y g.s.z k.0.x (sym (ap (λ (f : Operator). f.w.xx) e)) (part g.s k.0 (ap (λ (f : Operator). f.t) e ∙ k.1)) (ap (λ (c : Column). c.x) s.fixes)))
    (in_both (operator_of UNIT g) s.element)
  where
    part : (c k : Column) → origin ≡ c +ᶜ times (pos 24) k → o ≡ c.x +ℤ pos 24 *ℤ k.x
    part c k e = ap (λ (v : Column). v.x) e

eighth_in_both : IsInSite UNIT both eighth_point identity_map
unfolding operator_of modulo image times ◌·ᶜ◌ ◌+ᶜ◌
eighth_in_both = record { element = (0, omega arith, refl); fixes = refl }

eighth_site : IsSiteList UNIT both eighth_point (identity_map ∷ [])
eighth_site = alone_at both group_of_both eighth_point (omega (arith, ints)) eighth_in_both not_turned

-- its orbit has two points in P-1, and one in P1
other_orbits : KeepsOrbitSizes both unchanged one → ⊥
unfolding changed_point
other_orbits k =
    let there : Point = changed_point UNIT unchanged eighth_point in
    let a = some_orbit (space_group both group_of_both) eighth_point (omega (arith, ints)) in
    let b = some_orbit (space_group one group_of_one) there (omega (arith, ints)) in
    apart (length a.0) (length b.0) (k eighth_point a.0 b.0 (omega (arith, ints)) a.1 b.1)
    (orbit_of both group_of_both eighth_point (omega (arith, ints)) eighth_site a.0 a.1)
    (orbit_of one group_of_one there (omega (arith, ints)) (in_one_at there (omega (arith, ints)) eighth_there) b.0 b.1)
  where
    apart : (m n : ℕ) → m ≡ n → m ≡ 2 → n ≡ 1 → ⊥
    apart m n e p q = omega (arith, e, p, q)

-- in P1 the two are conjugate
conjugate_in_one : AreConjugate UNIT one zero_point eighth_point
unfolding operator_of modulo
conjugate_in_one =
    let same : (s : Map) → s ≡ identity_map ∘ s ∘ identity_map = λ s. sym (∘-identity (identity_map ∘ s) ∙ identity-∘ s) in
    let at : (x : Point) → IsPoint x → IsInSite UNIT one x identity_map → (s : Map) → IsInSite UNIT one x s → identity_map ≡ s = λ x p i s h. only_map s (((in_one_at x p i).exactly s).1 h) in
    record {
      by = identity_map;
      back = identity_map;
      element = (0, omega arith, refl);
      inverse = record { left = identity-∘ identity_map; right = identity-∘ identity_map };
      exactly = λ s m. (
        (λ h. subst (IsInSite UNIT one eighth_point) (at zero_point (omega (arith, ints)) zero_in_one s h ∙ same s) eighth_in_one),
        (λ h. subst (IsInSite UNIT one zero_point) (at eighth_point (omega (arith, ints)) eighth_in_one _ h ∙ sym (same s)) zero_in_one),
      );
    }

-- and in P-1 they are not: g s g^-1 is an inversion where s is one
abbrev sym_inversion : SymMatrix
sym_inversion = let n = con minus in let z = con o in record { xx = n; xy = z; xz = z; yx = z; yy = n; yz = z; zx = z; zy = z; zz = n }

carried_inversion : (w v : Matrix) → (w · inversion) · v ≡ scaled minus (w · v)
unfolding ◌·◌ scaled
carried_inversion w v = matrix_ring (entries w ++ entries v) ((matrix_at 0 ·ˢ sym_inversion) ·ˢ matrix_at 9) (sym_scaled (con minus) (matrix_at 0 ·ˢ matrix_at 9)) tt

no_inversion : (w v : Matrix) → w · v ≡ identity → identity ≡ (w · inversion) · v → ⊥
unfolding scaled
no_inversion w v e f = let x : pos 1 ≡ minus *ℤ pos 1 = ap (λ (m : Matrix). m.xx) (f ∙ carried_inversion w v ∙ ap (scaled minus) e) in omega (arith, ints)

not_conjugate : AreConjugate UNIT both zero_point eighth_point → ⊥
unfolding ◌∘◌ operator_of modulo image times ◌·ᶜ◌ ◌+ᶜ◌
not_conjugate c =
    let s : Map = map_of inverting in
    let h = (c.exactly s (1, omega arith, refl)).0 (record { element = (1, omega arith, refl); fixes = refl }) in
    let e : identity_map ≡ c.by ∘ s ∘ c.back = only_map _ ((eighth_site.exactly _).1 h) in
    no_inversion c.by.w c.back.w (ap (λ (g : Map). g.w) c.inverse.right) (ap (λ (g : Map). g.w) e)

other_conjugates : KeepsConjugates both unchanged one → ⊥
unfolding changed_point
other_conjugates k = not_conjugate ((k zero_point eighth_point (omega (arith, ints)) (omega (arith, ints))).1 there)
  where
    there : AreConjugate UNIT one (changed_point UNIT unchanged zero_point) (changed_point UNIT unchanged eighth_point)
    there = (keeps_conjugates_of_one zero_point eighth_point (omega (arith, ints)) (omega (arith, ints))).0 conjugate_in_one

-- ---- classes: without Friedel's law that of 1 0 0 has two rows in P-1, and one in P1

-- with the inverse of the matrix of x-z,y,z the row 1 2 3 becomes 1 2 4
a_row : changed_row (record { w = matrix_of (pos 1 ∷ o ∷ negsuc 0 ∷ o ∷ pos 1 ∷ o ∷ o ∷ o ∷ pos 1 ∷ []); t = origin; d = pos 1 }) (row (pos 1) (pos 2) (pos 3)) ≡ row (pos 1) (pos 2) (pos 4)
unfolding ◌·ʳ◌ det adjugate scaled
a_row = refl

-- under x+1/4,y,z the row -1 0 0 has 6 parts with their sign turned, twice: 1 becomes -11, which is 13
a_mark : changed_mark (record { w = identity; t = column (pos 6) o o; d = pos 1 }) (row (negsuc 0) o o) (Phase 1) ≡ Phase 13
unfolding ◌·ʳ◌ ◌·ʳᶜ◌ det adjugate scaled
a_mark = refl

abbrev along : ℤ → Row
along h = row h o o

in_class : (members : List Operator) (f : Operator) (g : Row) → Contains members f → along (pos 1) ·ʳ f.w ≡ g → AreEquivalent Apart members (along (pos 1)) g
in_class members f g m e = record { by = f; member = m; same = sym e }

class_in_both : IsClass Apart both (along (pos 1)) (along (pos 1) ∷ along minus ∷ [])
unfolding ◌·ʳ◌
class_in_both = record {
  exactly = λ g. (
    (λ c. ⊎_elim (λ e. in_class both identity_operator g (0, omega arith, refl) e) (λ d. ⊎_elim (λ e. in_class both inverting g (1, omega arith, refl) e) (λ n. lists.not_in_nil g n) (lists.Contains-cases g (along minus) [] d)) (lists.Contains-cases g (along (pos 1)) (along minus ∷ []) c)),
    (λ a. ⊎_elim (λ e. at g (along (pos 1)) (0, omega arith, refl) (subst (λ (f : Operator). g ≡ along (pos 1) ·ʳ f.w) (sym e) a.same)) (λ e. at g (along minus) (1, omega arith, refl) (subst (λ (f : Operator). g ≡ along (pos 1) ·ʳ f.w) (sym e) a.same)) (in_both a.by a.member)),
  );
  once = AllPairs-cons (λ (a b : Row). a ≢ b) (along (pos 1)) (along minus ∷ []) (All-from_recursion (λ b. along (pos 1) ≢ b) (along minus ∷ []) (apart, tt)) (λ i j d l m. absurd (omega arith));
}
  where
    at : (g h : Row) → Contains (along (pos 1) ∷ along minus ∷ []) h → g ≡ h → Contains (along (pos 1) ∷ along minus ∷ []) g
    at g h c e = subst (Contains (along (pos 1) ∷ along minus ∷ [])) (sym e) c

    apart : along (pos 1) ≢ along minus
    apart e = let x : pos 1 ≡ negsuc 0 = ap (λ (r : Row). r.h) e in omega (arith, ints)

class_in_one : IsClass Apart one (changed_row unchanged (along (pos 1))) (along (pos 1) ∷ [])
unfolding ◌·ʳ◌ det adjugate scaled
class_in_one = record {
  exactly = λ g. (
    (λ c. ⊎_elim (λ e. in_class one identity_operator g (0, omega arith, refl) e) (λ n. lists.not_in_nil g n) (lists.Contains-cases g (along (pos 1)) [] c)),
    (λ a. at g (subst (λ (f : Operator). g ≡ along (pos 1) ·ʳ f.w) (sym (in_one a.by a.member)) a.same)),
  );
  once = λ i j d l m. absurd (omega arith);
}
  where
    at : (g : Row) → g ≡ along (pos 1) → Contains (along (pos 1) ∷ []) g
    at g e = subst (Contains (along (pos 1) ∷ [])) (sym e) (0, omega arith, refl)

other_classes : KeepsClassSizes both unchanged one → ⊥
other_classes k = apart 2 (k Apart (along (pos 1)) (along (pos 1) ∷ along minus ∷ []) (along (pos 1) ∷ []) class_in_both class_in_one) refl
  where
    apart : (m : ℕ) → m ≡ 1 → m ≡ 2 → ⊥
    apart m p q = omega (arith, p, q)
