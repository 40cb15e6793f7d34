-- Reflections under a change of basis: h becomes h P, absences stay absences, and classes have as many rows.
use Rattle.std.proofs.Common.{◌≡◌, ◌≢◌, ◌↔◌, inl, inr, ⊎_elim, List, get_or, ℤ, pos, ◌+ℤ◌, ap, ap₂, sym, ◌∙◌, refl, subst, arith}
use Rattle.std.specs.Int.{int_rem_euclid}
use Rattle.std.proofs.lemmas.Int.{ints}
use Rattle.lattice_algebra.specs.Matrix.{◌·ᶜ◌, ◌+ᶜ◌, times, inverse_matrix}
use Rattle.lattice_algebra.specs.Operator.{Operator}
use Rattle.lattice_algebra.specs.Map.{Map, operator_of, map_of}
use Rattle.lattice_algebra.proofs.Ring.{one_times}
use Rattle.lattice_algebra.proofs.Matrices.{inverse_matrix-·, ·-inverse_matrix}
use Rattle.lattice_algebra.proofs.Remainders.{modulo_is, rem_same}
use Rattle.finite_groups.proofs.Members as lists
use Rattle.exact_ops.specs.declared.TheConstants.{UNIT}
use Rattle.exact_ops.proofs.Narrow.{some_parts}
use Rattle.group_closure.specs.GroupList.{IsGroup}
use Rattle.space_groups.specs.Space.{IsElement}
use Rattle.space_groups.specs.Bases.{CoordinateChange, IsBasisChange, IsChanged, IsChangedGroup}
use Rattle.phase_rules.specs.declared.pairs.Pairs.{Pairs}
use Rattle.phase_rules.specs.declared.pairs.Pairs.TheVariants.{Friedel, Apart}
use Rattle.phase_rules.specs.Rows.{Row, ◌·ʳ◌, ◌·ʳᶜ◌, neg_row, row_eq}
use Rattle.phase_rules.specs.Equivalent.{IsSameReflection}
use Rattle.phase_rules.specs.Marks.{IsAbsent}
use Rattle.phase_rules.proofs.Rows.{·ʳ_assoc, ·ʳ-identity, neg_row-·ʳ, ·ʳᶜ_assoc, ·ʳᶜ-+ᶜ, ·ʳᶜ-times, row_eq-is}
use Rattle.basis_change.proofs.Generators.{operator_w, member_element}
use Rattle.basis_change.specs.Laws.{changed_row, KeepsAbsences, KeepsClassSizes}

-- ---- h P

module _ (c : CoordinateChange) (b : IsBasisChange c) where
  pub row_back : (h : Row) → changed_row c h ·ʳ c.w ≡ h
  row_back h = ·ʳ_assoc h (inverse_matrix c.w) c.w ∙ ap (λ m. h ·ʳ m) (inverse_matrix-· c.w b.unimodular) ∙ ·ʳ-identity h

  row_there : (h : Row) → changed_row c (h ·ʳ c.w) ≡ h
  row_there h = ·ʳ_assoc h c.w (inverse_matrix c.w) ∙ ap (λ m. h ·ʳ m) (·-inverse_matrix c.w b.unimodular) ∙ ·ʳ-identity h

  pub row_apart : (h g : Row) → changed_row c h ≡ changed_row c g → h ≡ g
  row_apart h g e = sym (row_back h) ∙ ap (λ r. r ·ʳ c.w) e ∙ row_back g

  -- the changed matrix takes h P to h W P
  pub row_turned : (g h : Map) → IsChanged c g h → (r : Row) → changed_row c r ·ʳ h.w ≡ changed_row c (r ·ʳ g.w)
  row_turned g h e r =
      sym (row_there (changed_row c r ·ʳ h.w))
      ∙ ap (changed_row c) (·ʳ_assoc (changed_row c r) h.w c.w ∙ ap (λ m. changed_row c r ·ʳ m) e.rotation ∙ sym (·ʳ_assoc (changed_row c r) c.w g.w) ∙ ap (λ v. v ·ʳ g.w) (row_back r))

  -- where h W = h, the changed translation shifts the phase alike
  phase_kept : (g h : Map) → IsChanged c g h → (r : Row) → r ·ʳ g.w ≡ r → changed_row c r ·ʳᶜ h.s ≡ r ·ʳᶜ g.s
  phase_kept g h e r fix =
      let q = changed_row c r in
      let turned : q ·ʳᶜ (h.w ·ᶜ c.t) ≡ q ·ʳᶜ c.t = sym (·ʳᶜ_assoc q h.w c.t) ∙ ap (λ v. v ·ʳᶜ c.t) (row_turned g h e r ∙ ap (changed_row c) fix) in
      let T : ℤ → Type 0 = λ d. times d (h.w ·ᶜ c.t +ᶜ h.s) ≡ c.w ·ᶜ g.s +ᶜ times d c.t in
      let both : q ·ʳᶜ times (pos 1) (h.w ·ᶜ c.t +ᶜ h.s) ≡ q ·ʳᶜ (c.w ·ᶜ g.s +ᶜ times (pos 1) c.t) = ap (λ v. q ·ʳᶜ v) (subst T b.one e.translation) in
      let left : q ·ʳᶜ times (pos 1) (h.w ·ᶜ c.t +ᶜ h.s) ≡ q ·ʳᶜ c.t +ℤ q ·ʳᶜ h.s = ·ʳᶜ-times q (pos 1) (h.w ·ᶜ c.t +ᶜ h.s) ∙ one_times _ ∙ ·ʳᶜ-+ᶜ q (h.w ·ᶜ c.t) h.s ∙ ap (λ v. v +ℤ q ·ʳᶜ h.s) turned in
      let right : q ·ʳᶜ (c.w ·ᶜ g.s +ᶜ times (pos 1) c.t) ≡ r ·ʳᶜ g.s +ℤ q ·ʳᶜ c.t = ·ʳᶜ-+ᶜ q (c.w ·ᶜ g.s) (times (pos 1) c.t) ∙ ap₂ (λ v w. v +ℤ w) (sym (·ʳᶜ_assoc q c.w g.s) ∙ ap (λ v. v ·ʳᶜ g.s) (row_back r)) (·ʳᶜ-times q (pos 1) c.t ∙ one_times _) in
      same_rest (q ·ʳᶜ c.t) (q ·ʳᶜ h.s) (r ·ʳᶜ g.s) (sym left ∙ both ∙ right)
    where
      same_rest : (a x y : ℤ) → a +ℤ x ≡ y +ℤ a → x ≡ y
      same_rest a x y e = omega (arith, ints, e)

  -- one reflection stays one, with Friedel's law and without it
  same_kept : (pairs : Pairs) (e g : Row) → IsSameReflection pairs e g ↔ IsSameReflection pairs (changed_row c e) (changed_row c g)
  same_kept Apart e g = ((λ p. ap (changed_row c) p), (λ p. row_apart g e p))
  same_kept Friedel e g =
      let neg : neg_row (changed_row c e) ≡ changed_row c (neg_row e) = sym (neg_row-·ʳ e (inverse_matrix c.w)) in (
        (λ p. ⊎_elim (λ q. inl (ap (changed_row c) q)) (λ q. inr (ap (changed_row c) q ∙ sym neg)) p),
        (λ p. ⊎_elim (λ q. inl (row_apart g e q)) (λ q. inr (row_apart g (neg_row e) (q ∙ neg))) p),
      )

-- ---- absences

-- the phase shift of a map is that of its operator, modulo the cell
pub phase_of_operator : (g : Map) (r : Row) → int_rem_euclid (r ·ʳᶜ (operator_of UNIT g).t) (pos UNIT) ≡ int_rem_euclid (r ·ʳᶜ g.s) (pos UNIT)
unfolding operator_of
phase_of_operator g r =
    let k = modulo_is UNIT some_parts g.s in
    rem_same UNIT some_parts _ (r ·ʳᶜ g.s) (r ·ʳᶜ k.0) (ap (λ v. r ·ʳᶜ v) k.1 ∙ ·ʳᶜ-+ᶜ r g.s (times (pos UNIT) k.0) ∙ ap (λ v. r ·ʳᶜ g.s +ℤ v) (·ʳᶜ-times r (pos UNIT) k.0))

-- an element that fixes h and shifts its phase makes it absent
absent_by : (members : List Operator) (g : Map) (r : Row) → IsElement UNIT members g → r ·ʳ g.w ≡ r → int_rem_euclid (r ·ʳᶜ g.s) (pos UNIT) ≢ pos 0 → IsAbsent members r
absent_by members g r m fix shifts = record {
  by = operator_of UNIT g;
  member = m;
  fixes = ap (λ w. r ·ʳ w) (operator_w g) ∙ fix;
  shifts = λ e. shifts (sym (phase_of_operator g r) ∙ e);
}

module _ (members changed : List Operator) (group : IsGroup members) (there : IsGroup changed) (c : CoordinateChange) (b : IsBasisChange c) (e : IsChangedGroup UNIT members c changed) where
  pub keeps_absences : KeepsAbsences members c changed
  keeps_absences h = (
    (λ a.
        let r = e.each (map_of a.by) (member_element members group a.by a.member) in
        absent_by changed r.0 (changed_row c h) r.1 (row_turned c b (map_of a.by) r.0 r.2 h ∙ ap (changed_row c) a.fixes)
        (λ z. a.shifts (sym (ap (λ v. int_rem_euclid v (pos UNIT)) (phase_kept c b (map_of a.by) r.0 r.2 h a.fixes)) ∙ z))),
    (λ a.
        let r = e.only (map_of a.by) (member_element changed there a.by a.member) in
        let fix : h ·ʳ r.from.w ≡ h = row_apart c b (h ·ʳ r.from.w) h (sym (row_turned c b r.from (map_of a.by) r.changed h) ∙ a.fixes) in
        absent_by members r.from h r.element fix
        (λ z. a.shifts (ap (λ v. int_rem_euclid v (pos UNIT)) (phase_kept c b r.from (map_of a.by) r.changed h fix) ∙ z))),
  )

  pub keeps_class_sizes : KeepsClassSizes members c changed
  keeps_class_sizes pairs h class other s t =
      let le = lists.no_longer row_eq row_eq-is (λ (g k : Row). changed_row c g ≡ k) other class
      (λ i j d l m k p q. s.once i j d l m (row_apart c b (get_or class i d) (get_or class j d) (p ∙ sym q)))
      (λ g m.
      let a = (s.exactly g).0 m in
      let r = e.each (map_of a.by) (member_element members group a.by a.member) in
      let turned : changed_row c h ·ʳ (operator_of UNIT r.0).w ≡ changed_row c (h ·ʳ a.by.w) = ap (λ w. changed_row c h ·ʳ w) (operator_w r.0) ∙ row_turned c b (map_of a.by) r.0 r.2 h in
      (changed_row c g, (t.exactly (changed_row c g)).1 (record { by = operator_of UNIT r.0; member = r.1; same = subst (λ v. IsSameReflection pairs v (changed_row c g)) (sym turned) ((same_kept c b pairs (h ·ʳ a.by.w) g).0 a.same) }), refl)) in
      let ge = lists.no_longer row_eq row_eq-is (λ (k g : Row). changed_row c g ≡ k) class other
      (λ i j d l m g p q. t.once i j d l m (sym p ∙ q))
      (λ k m.
      let a = (t.exactly k).0 m in
      let r = e.only (map_of a.by) (member_element changed there a.by a.member) in
      let g = k ·ʳ c.w in
      let back : changed_row c g ≡ k = row_there c b k in
      let one : IsSameReflection pairs (changed_row c (h ·ʳ r.from.w)) (changed_row c g) = subst (IsSameReflection pairs (changed_row c (h ·ʳ r.from.w))) (sym back) (subst (λ v. IsSameReflection pairs v k) (row_turned c b r.from (map_of a.by) r.changed h) a.same) in
      (g, (s.exactly g).1 (record { by = operator_of UNIT r.from; member = r.element; same = subst (λ v. IsSameReflection pairs (h ·ʳ v) g) (sym (operator_w r.from)) ((same_kept c b pairs (h ·ʳ r.from.w) g).1 one) }), back)) in
      omega (arith, le, ge)
