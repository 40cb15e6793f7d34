-- The mark of a reflection is carried over to h W, and to -h.
use Rattle.std.proofs.Common.{◌≡◌, ℕ, List, ◌∷◌, [], ℤ, pos, negsuc, ◌+ℤ◌, ◌-ℤ◌, ◌*ℤ◌, neg_ℤ, ap, ◌∙◌, subst, Contains}
use Rattle.std.specs.Int.{int_rem_euclid, int_div_euclid}
use Rattle.lattice_algebra.specs.Operator.{Operator, product, inverse}
use Rattle.lattice_algebra.proofs.Remainders.{quotient_is, rem_is, rem_same}
use Rattle.lattice_algebra.proofs.Ring.{var, ◌⊕◌, ◌⊖◌, ◌⊗◌, neg, con, known, ring_from}
use Rattle.exact_ops.specs.declared.TheConstants.{UNIT}
use Rattle.exact_ops.proofs.Narrow.{some_parts}
use Rattle.group_closure.specs.GroupList.{IsGroup}
use Rattle.group_closure.proofs.Places.{product_member, inverse_member}
use Rattle.phase_rules.specs.declared.pairs.Pairs.{Pairs}
use Rattle.phase_rules.specs.declared.pairs.Pairs.TheVariants.{Apart}
use Rattle.phase_rules.specs.declared.parts.Mark.{Mark}
use Rattle.phase_rules.specs.declared.parts.Mark.TheVariants.{Absent, Free, Phase}
use Rattle.phase_rules.specs.Rows.{Row, ◌·ʳ◌, ◌·ʳᶜ◌, neg_row}
use Rattle.phase_rules.specs.Marks.{phase_of, IsAbsent, IsRestrictedTo, IsMark, carried_mark, opposite_mark}
use Rattle.phase_rules.proofs.Rows.{neg_row-·ʳ, neg_row-neg_row, neg_row-·ʳᶜ}
use Rattle.phase_rules.proofs.Classes.{times_product, undone}
use Rattle.phase_rules.proofs.Phases.{whole_size}
use Rattle.phase_rules.proofs.Alike.{shift_of_product, shift_of_inverse, absent_moved, absent_opposite}

-- a number that is s but for whole cells has the phase of s
same_phase : (a b k : ℤ) → a ≡ b +ℤ pos UNIT *ℤ k → int_rem_euclid a (pos UNIT) ≡ pos (phase_of b)
same_phase a b k e = rem_same UNIT some_parts a b k e ∙ whole_size _ (rem_is UNIT some_parts b).2

-- ---- from h to h W

-- the shift of k^-1 then f then k, where f reverses h
all_shifts : (a b c t u s n x y z d : ℤ) → a ≡ neg_ℤ u +ℤ b +ℤ n *ℤ x → b ≡ t +ℤ c +ℤ n *ℤ y → c ≡ neg_ℤ u +ℤ n *ℤ z → t ≡ s +ℤ n *ℤ d → a ≡ (s -ℤ pos 2 *ℤ u) +ℤ n *ℤ (x +ℤ y +ℤ z +ℤ d)
all_shifts a b c t u s n x y z d p q r e =
    let v = a ∷ b ∷ c ∷ t ∷ u ∷ s ∷ n ∷ x ∷ y ∷ z ∷ d ∷ [] in
    ring_from v (var 0) ((var 5 ⊖ con (pos 2) ⊗ var 4) ⊕ var 6 ⊗ (var 7 ⊕ var 8 ⊕ var 9 ⊕ var 10))
    (known (con (pos 1)) (var 0) (neg (var 4) ⊕ var 1 ⊕ var 6 ⊗ var 7) ∷ known (con (pos 1)) (var 1) (var 3 ⊕ var 2 ⊕ var 6 ⊗ var 8) ∷ known (con (pos 1)) (var 2) (neg (var 4) ⊕ var 6 ⊗ var 9) ∷ known (con (pos 1)) (var 3) (var 5 ⊕ var 6 ⊗ var 10) ∷ [])
    (p, (q, (r, (e, tt)))) tt

module _ (pairs : Pairs) (members : List Operator) (group : IsGroup members) where
  absent_back : (h : Row) (k : Operator) → Contains members k → IsAbsent members (h ·ʳ k.w) → IsAbsent members h
  absent_back h k m a = subst (IsAbsent members) (undone Apart members group h k m) (absent_moved members (h ·ʳ k.w) (inverse UNIT k) group (inverse_member members k group m) a)

  restricted_moved : (h : Row) (k : Operator) (s : ℕ) → Contains members k → IsRestrictedTo pairs members h s → IsRestrictedTo pairs members (h ·ʳ k.w) (phase_of (pos s -ℤ pos 2 *ℤ (h ·ʳᶜ k.t)))
  restricted_moved h k s m r =
      let g = h ·ʳ k.w in
      let v = inverse UNIT k in
      let f = r.by in
      let vf = product UNIT v f in
      let back : g ·ʳ v.w ≡ h = undone Apart members group h k m in
      let at : g ·ʳ vf.w ≡ neg_row h = times_product g v f ∙ ap (λ r. r ·ʳ f.w) back ∙ r.reverses in
      let p = shift_of_product g vf k in
      let q = shift_of_product g v f in
      let i = shift_of_inverse members h k group m in
      let d = int_div_euclid (h ·ʳᶜ f.t) (pos UNIT) in
      let e = all_shifts (g ·ʳᶜ (product UNIT vf k).t) (g ·ʳᶜ vf.t) (g ·ʳᶜ v.t) (h ·ʳᶜ f.t) (h ·ʳᶜ k.t) (pos s) (pos UNIT) p.0 q.0 i.0 d
      (p.1 ∙ ap (λ z. z +ℤ g ·ʳᶜ vf.t +ℤ pos UNIT *ℤ p.0) (ap (λ r. r ·ʳᶜ k.t) at ∙ neg_row-·ʳᶜ h k.t))
      (q.1 ∙ ap (λ r. r ·ʳᶜ f.t +ℤ g ·ʳᶜ v.t +ℤ pos UNIT *ℤ q.0) back) i.1
      (quotient_is UNIT some_parts (h ·ʳᶜ f.t) ∙ ap (λ z. z +ℤ pos UNIT *ℤ d) r.phase) in
      record {
        friedel = r.friedel;
        present = λ a. r.present (absent_back h k m a);
        by = product UNIT vf k;
        member = product_member members vf k group (product_member members v f group (inverse_member members k group m) r.member) m;
        reverses = times_product g vf k ∙ ap (λ r. r ·ʳ k.w) at ∙ neg_row-·ʳ h k.w;
        phase = same_phase (g ·ʳᶜ (product UNIT vf k).t) (pos s -ℤ pos 2 *ℤ (h ·ʳᶜ k.t)) (p.0 +ℤ q.0 +ℤ i.0 +ℤ d) e;
      }

  pub mark_moved : (h : Row) (k : Operator) (mark : Mark) → Contains members k → IsMark pairs members h mark → IsMark pairs members (h ·ʳ k.w) (carried_mark h k mark)
  mark_moved h k Absent m a = absent_moved members h k group m a
  mark_moved h k Free m a = record {
    present = λ b. a.present (absent_back h k m b);
    unrestricted = λ s r.
        let t = restricted_moved (h ·ʳ k.w) (inverse UNIT k) s (inverse_member members k group m) r in
        a.unrestricted _ (subst (λ g. IsRestrictedTo pairs members g (phase_of (pos s -ℤ pos 2 *ℤ ((h ·ʳ k.w) ·ʳᶜ (inverse UNIT k).t)))) (undone Apart members group h k m) t);
  }
  mark_moved h k (Phase s) m r = restricted_moved h k s m r

-- ---- from h to -h

opposite_shift : (a t s n d : ℤ) → a ≡ neg_ℤ t → t ≡ s +ℤ n *ℤ d → a ≡ neg_ℤ s +ℤ n *ℤ neg_ℤ d
opposite_shift a t s n d p e =
    ring_from (a ∷ t ∷ s ∷ n ∷ d ∷ []) (var 0) (neg (var 2) ⊕ var 3 ⊗ neg (var 4))
    (known (con (pos 1)) (var 0) (neg (var 1)) ∷ known (con (negsuc 0)) (var 1) (var 2 ⊕ var 3 ⊗ var 4) ∷ [])
    (p, (e, tt)) tt

absent_of_opposite : (members : List Operator) (h : Row) → IsAbsent members (neg_row h) → IsAbsent members h
absent_of_opposite members h a = subst (IsAbsent members) (neg_row-neg_row h) (absent_opposite members (neg_row h) a)

restricted_opposite : (pairs : Pairs) (members : List Operator) (h : Row) (s : ℕ) → IsRestrictedTo pairs members h s → IsRestrictedTo pairs members (neg_row h) (phase_of (neg_ℤ (pos s)))
restricted_opposite pairs members h s r =
    let d = int_div_euclid (h ·ʳᶜ r.by.t) (pos UNIT) in
    let e = opposite_shift (neg_row h ·ʳᶜ r.by.t) (h ·ʳᶜ r.by.t) (pos s) (pos UNIT) d (neg_row-·ʳᶜ h r.by.t) (quotient_is UNIT some_parts (h ·ʳᶜ r.by.t) ∙ ap (λ z. z +ℤ pos UNIT *ℤ d) r.phase) in
    record {
      friedel = r.friedel;
      present = λ a. r.present (absent_of_opposite members h a);
      by = r.by;
      member = r.member;
      reverses = neg_row-·ʳ h r.by.w ∙ ap neg_row r.reverses;
      phase = same_phase (neg_row h ·ʳᶜ r.by.t) (neg_ℤ (pos s)) (neg_ℤ d) e;
    }

pub mark_opposite : (pairs : Pairs) (members : List Operator) (h : Row) (mark : Mark) → IsMark pairs members h mark → IsMark pairs members (neg_row h) (opposite_mark mark)
mark_opposite pairs members h Absent a = absent_opposite members h a
mark_opposite pairs members h Free a = record {
  present = λ b. a.present (absent_of_opposite members h b);
  unrestricted = λ s r. a.unrestricted (phase_of (neg_ℤ (pos s))) (subst (λ g. IsRestrictedTo pairs members g (phase_of (neg_ℤ (pos s)))) (neg_row-neg_row h) (restricted_opposite pairs members (neg_row h) s r));
}
mark_opposite pairs members h (Phase s) r = restricted_opposite pairs members h s r
