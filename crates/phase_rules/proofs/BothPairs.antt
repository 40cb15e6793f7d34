-- Equivalent rows in a group with the matrix -1, that of its member j: both pairs have the same, and the first members show them all,
-- where each later one has the opposite matrix of one of these.
use Rattle.std.proofs.Common.{◌≡◌, ℕ, ◌⊎◌, List, take, inl, inr, ⊎_elim, ap, sym, ◌∙◌, negsuc, Contains}
use Rattle.lattice_algebra.specs.Matrix.{identity, scaled}
use Rattle.lattice_algebra.specs.Operator.{Operator, product}
use Rattle.exact_ops.specs.declared.TheConstants.{UNIT}
use Rattle.group_closure.specs.GroupList.{IsGroup}
use Rattle.phase_rules.specs.declared.pairs.Pairs.{Pairs}
use Rattle.phase_rules.specs.declared.pairs.Pairs.TheVariants.{Friedel, Apart}
use Rattle.phase_rules.specs.Rows.{Row, ◌·ʳ◌, neg_row}
use Rattle.phase_rules.specs.Equivalent.{IsSameReflection, AreEquivalent}
use Rattle.phase_rules.specs.Halves.{HaveOpposites}
use Rattle.phase_rules.proofs.Rows.{neg_row-neg_row}
use Rattle.phase_rules.proofs.Opposites.{opposite_row, opposite_member, opposite_w, front_or_behind}

pub as_friedel : (pairs : Pairs) (e g : Row) → IsSameReflection pairs e g → IsSameReflection Friedel e g
as_friedel Friedel e g s = s
as_friedel Apart e g s = inl s

flipped : (e k g : Row) → k ≡ neg_row e → IsSameReflection Friedel e g → IsSameReflection Friedel k g
flipped e k g q s =
    ⊎_elim
    (λ a. inr (a ∙ sym (ap neg_row q ∙ neg_row-neg_row e)))
    (λ a. inl (a ∙ sym q))
    s

module _ (members : List Operator) (h : Row) (group : IsGroup members) (j : Operator) (member : Contains members j) (inverts : j.w ≡ scaled (negsuc 0) identity) where
  pub by_either : (pairs : Pairs) (g : Row) → AreEquivalent Friedel members h g → AreEquivalent pairs members h g
  by_either Friedel g a = a
  by_either Apart g a =
      ⊎_elim
      (λ e. record { by = a.by; member = a.member; same = e })
      (λ e. record {
        by = product UNIT a.by j;
        member = opposite_member members group j member inverts a.by a.member;
        same = e ∙ sym (ap (λ m. h ·ʳ m) (opposite_w members group j member inverts a.by) ∙ opposite_row h a.by.w);
      })
      a.same

  pub by_front : (pairs : Pairs) (i : ℕ) (g : Row) → HaveOpposites members i → AreEquivalent pairs members h g → AreEquivalent Friedel (take i members) h g
  by_front pairs i g opposites a =
      let s = as_friedel pairs (h ·ʳ a.by.w) g a.same in
      ⊎_elim
      (λ m. record { by = a.by; member = m; same = s })
      (λ b.
      let o = opposites b.0 a.by b.1 b.2 in
      record { by = o.0; member = o.1; same = flipped (h ·ʳ a.by.w) (h ·ʳ o.0.w) g (ap (λ m. h ·ʳ m) o.2 ∙ opposite_row h a.by.w) s })
      (front_or_behind members i a.by a.member)
