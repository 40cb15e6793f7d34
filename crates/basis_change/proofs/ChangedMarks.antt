-- The mark of a reflection under a change of basis.
use Rattle.std.proofs.Common.{◌≡◌, List, ℤ, pos, ◌+ℤ◌, ◌*ℤ◌, neg_ℤ, unsigned_abs, ap, ap₂, sym, ◌∙◌, subst, arith}
use Rattle.std.specs.Int.{int_div_euclid}
use Rattle.std.proofs.lemmas.Int.{ints}
use Rattle.lattice_algebra.specs.Matrix.{◌·ᶜ◌, ◌+ᶜ◌, times, inverse_matrix}
use Rattle.lattice_algebra.specs.Operator.{Operator}
use Rattle.lattice_algebra.specs.Map.{Map, operator_of, map_of}
use Rattle.lattice_algebra.proofs.Ring.{one_times}
use Rattle.lattice_algebra.proofs.Remainders.{quotient_is, rem_is, rem_same}
use Rattle.exact_ops.specs.declared.TheConstants.{UNIT}
use Rattle.exact_ops.proofs.Narrow.{some_parts}
use Rattle.group_closure.specs.GroupList.{IsGroup}
use Rattle.space_groups.specs.Space.{IsElement}
use Rattle.space_groups.specs.Bases.{CoordinateChange, IsBasisChange, IsChanged, IsChangedGroup}
use Rattle.phase_rules.specs.declared.pairs.Pairs.{Pairs}
use Rattle.phase_rules.specs.declared.pairs.Pairs.TheVariants.{Friedel}
use Rattle.phase_rules.specs.declared.parts.Mark.{Mark}
use Rattle.phase_rules.specs.declared.parts.Mark.TheVariants.{Absent, Free, Phase}
use Rattle.phase_rules.specs.Rows.{Row, ◌·ʳ◌, ◌·ʳᶜ◌, neg_row}
use Rattle.phase_rules.specs.Marks.{phase_of, IsAbsent, IsRestrictedTo, IsMark}
use Rattle.phase_rules.proofs.Rows.{neg_row-·ʳ, ·ʳᶜ_assoc, ·ʳᶜ-+ᶜ, ·ʳᶜ-times, neg_row-·ʳᶜ}
use Rattle.phase_rules.proofs.Phases.{whole_size}
use Rattle.basis_change.proofs.Generators.{operator_w, member_element}
use Rattle.basis_change.proofs.Reflections.{row_back, row_apart, row_turned, phase_of_operator, keeps_absences}
use Rattle.basis_change.specs.Laws.{changed_row, changed_mark}

-- an element that reverses a present h restricts its phase
restricted_by : (pairs : Pairs) (members : List Operator) (g : Map) (r : Row) → pairs ≡ Friedel → (IsAbsent members r → ⊥) → IsElement UNIT members g → r ·ʳ g.w ≡ neg_row r → IsRestrictedTo pairs members r (phase_of (r ·ʳᶜ g.s))
restricted_by pairs members g r f present m reverses = record {
  friedel = f;
  present = present;
  by = operator_of UNIT g;
  member = m;
  reverses = ap (λ w. r ·ʳ w) (operator_w g) ∙ reverses;
  phase = phase_of_operator g r ∙ whole_size _ (rem_is UNIT some_parts (r ·ʳᶜ g.s)).2;
}

twice_more : (a x y : ℤ) → neg_ℤ a +ℤ x ≡ y +ℤ a → x ≡ y +ℤ pos 2 *ℤ a
twice_more a x y e = omega (arith, ints, e)

but_for_cells : (x y a s d : ℤ) → x ≡ y +ℤ pos 2 *ℤ a → y ≡ s +ℤ pos UNIT *ℤ d → x ≡ (s +ℤ pos 2 *ℤ a) +ℤ pos UNIT *ℤ d
but_for_cells x y a s d p q = omega (arith, ints, p, q)

module _ (c : CoordinateChange) (b : IsBasisChange c) where
  opposite_changed : (h : Row) → neg_row (changed_row c h) ≡ changed_row c (neg_row h)
  opposite_changed h = sym (neg_row-·ʳ h (inverse_matrix c.w))

  -- where h W = -h, the changed translation shifts the phase by twice the translation of the change more
  phase_turned : (g h : Map) → IsChanged c g h → (r : Row) → r ·ʳ g.w ≡ neg_row r → changed_row c r ·ʳᶜ h.s ≡ r ·ʳᶜ g.s +ℤ pos 2 *ℤ (changed_row c r ·ʳᶜ c.t)
  phase_turned g h e r reverses =
      let q = changed_row c r in
      let turned : q ·ʳᶜ (h.w ·ᶜ c.t) ≡ neg_ℤ (q ·ʳᶜ c.t) = sym (·ʳᶜ_assoc q h.w c.t) ∙ ap (λ v. v ·ʳᶜ c.t) (row_turned c b g h e r ∙ ap (changed_row c) reverses ∙ sym (opposite_changed r)) ∙ neg_row-·ʳᶜ q c.t in
      let T : ℤ → Type 0 = λ d. times d (h.w ·ᶜ c.t +ᶜ h.s) ≡ c.w ·ᶜ g.s +ᶜ times d c.t in
      let both : q ·ʳᶜ times (pos 1) (h.w ·ᶜ c.t +ᶜ h.s) ≡ q ·ʳᶜ (c.w ·ᶜ g.s +ᶜ times (pos 1) c.t) = ap (λ v. q ·ʳᶜ v) (subst T b.one e.translation) in
      let left : q ·ʳᶜ times (pos 1) (h.w ·ᶜ c.t +ᶜ h.s) ≡ neg_ℤ (q ·ʳᶜ c.t) +ℤ q ·ʳᶜ h.s = ·ʳᶜ-times q (pos 1) (h.w ·ᶜ c.t +ᶜ h.s) ∙ one_times _ ∙ ·ʳᶜ-+ᶜ q (h.w ·ᶜ c.t) h.s ∙ ap (λ v. v +ℤ q ·ʳᶜ h.s) turned in
      let right : q ·ʳᶜ (c.w ·ᶜ g.s +ᶜ times (pos 1) c.t) ≡ r ·ʳᶜ g.s +ℤ q ·ʳᶜ c.t = ·ʳᶜ-+ᶜ q (c.w ·ᶜ g.s) (times (pos 1) c.t) ∙ ap₂ (λ v w. v +ℤ w) (sym (·ʳᶜ_assoc q c.w g.s) ∙ ap (λ v. v ·ʳᶜ g.s) (row_back c b r)) (·ʳᶜ-times q (pos 1) c.t ∙ one_times _) in
      twice_more (q ·ʳᶜ c.t) (q ·ʳᶜ h.s) (r ·ʳᶜ g.s) (sym left ∙ both ∙ right)

module _ (pairs : Pairs) (members changed : List Operator) (group : IsGroup members) (there : IsGroup changed) (c : CoordinateChange) (b : IsBasisChange c) (e : IsChangedGroup UNIT members c changed) where
  pub mark_changed : (h : Row) (mark : Mark) → IsMark pairs members h mark → IsMark pairs changed (changed_row c h) (changed_mark c h mark)
  mark_changed h Absent a = (keeps_absences members changed group there c b e h).0 a
  mark_changed h Free a = record {
    present = λ x. a.present ((keeps_absences members changed group there c b e h).1 x);
    unrestricted = λ s r.
        let f = e.only (map_of r.by) (member_element changed there r.by r.member) in
        let reverses : h ·ʳ f.from.w ≡ neg_row h = row_apart c b (h ·ʳ f.from.w) (neg_row h) (sym (row_turned c b f.from (map_of r.by) f.changed h) ∙ r.reverses ∙ opposite_changed c b h) in
        a.unrestricted (phase_of (h ·ʳᶜ f.from.s)) (restricted_by pairs members f.from h r.friedel a.present f.element reverses);
  }
  mark_changed h (Phase s) r =
      let f = e.each (map_of r.by) (member_element members group r.by r.member) in
      let q = changed_row c h in
      let reverses : q ·ʳ f.0.w ≡ neg_row q = row_turned c b (map_of r.by) f.0 f.2 h ∙ ap (changed_row c) r.reverses ∙ sym (opposite_changed c b h) in
      let d = int_div_euclid (h ·ʳᶜ r.by.t) (pos UNIT) in
      let shift : q ·ʳᶜ f.0.s ≡ (pos s +ℤ pos 2 *ℤ (q ·ʳᶜ c.t)) +ℤ pos UNIT *ℤ d =
      but_for_cells (q ·ʳᶜ f.0.s) (h ·ʳᶜ r.by.t) (q ·ʳᶜ c.t) (pos s) d (phase_turned c b (map_of r.by) f.0 f.2 h r.reverses) (quotient_is UNIT some_parts (h ·ʳᶜ r.by.t) ∙ ap (λ z. z +ℤ pos UNIT *ℤ d) r.phase) in
      subst (IsRestrictedTo pairs changed q) (ap unsigned_abs (rem_same UNIT some_parts (q ·ʳᶜ f.0.s) (pos s +ℤ pos 2 *ℤ (q ·ʳᶜ c.t)) d shift))
      (restricted_by pairs changed f.0 q r.friedel (λ x. r.present ((keeps_absences members changed group there c b e h).1 x)) f.1 reverses)
