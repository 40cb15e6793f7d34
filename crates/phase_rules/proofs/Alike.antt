-- Equivalent reflections are alike: absent together, of one class, fixed by as many members. The index 0 0 0.
use Rattle.std.proofs.Common.{◌≡◌, ℕ, ◌+◌, ◌*◌, ◌<◌, Bool, cond, List, ◌∷◌, [], length, ℤ, pos, negsuc, ◌+ℤ◌, ◌*ℤ◌, neg_ℤ, ap, ap₂, sym, ◌∙◌, subst, refl, arith, inl, inr, Contains, count_by}
use Rattle.std.specs.Int.{int_rem_euclid, int_div_euclid}
use Rattle.std.proofs.lemmas.Int.{ints}
use Rattle.std.proofs.lemmas.Bool.Decides.{same_from_decides}
use Rattle.finite_groups.proofs.Members as lists
use Rattle.lattice_algebra.specs.Matrix.{◌·ᶜ◌, ◌+ᶜ◌, neg_column}
use Rattle.lattice_algebra.specs.Operator.{Operator, product, inverse, identity_operator}
use Rattle.lattice_algebra.proofs.Remainders.{quotient_is, rem_of_times, rem_part, rem_same, modulo_is}
use Rattle.lattice_algebra.proofs.Ring.{var, ◌⊕◌, ◌⊗◌, neg, con, known, ring_from}
use Rattle.exact_ops.specs.declared.TheConstants.{UNIT}
use Rattle.exact_ops.proofs.Narrow.{some_parts}
use Rattle.group_closure.specs.GroupList.{IsGroup}
use Rattle.group_closure.proofs.Places.{product_member, inverse_member, inverse_is}
use Rattle.phase_rules.specs.declared.pairs.Pairs.{Pairs}
use Rattle.phase_rules.specs.declared.pairs.Pairs.TheVariants.{Friedel, Apart}
use Rattle.phase_rules.specs.Rows.{Row, origin_row, ◌·ʳ◌, ◌·ʳᶜ◌, neg_row, row_eq}
use Rattle.phase_rules.specs.Equivalent.{IsSameReflection, AreEquivalent, IsClass, fixes, reverses}
use Rattle.phase_rules.specs.Marks.{phase_shift, IsAbsent, IsRestrictedTo}
use Rattle.phase_rules.proofs.Rows.{origin_row-·ʳᶜ, neg_row-origin_row, ·ʳ-identity, neg_row-·ʳ, neg_row-neg_row, ·ʳᶜ-+ᶜ, ·ʳᶜ-times, ·ʳᶜ_assoc, neg_row-·ʳᶜ, ·ʳᶜ-neg_column, row_eq-is}
use Rattle.phase_rules.proofs.Classes.{times_product, has_identity, undone, equivalent_itself, equivalent_back, equivalent_on, apart_law, friedel_law, some_class}
use Rattle.phase_rules.proofs.Phases.{product_t}

-- ---- the size of a class

pub apart_times : (members : List Operator) (h : Row) (class : List Row) → IsGroup members → IsClass Apart members h class → length class * count_by (fixes h) members ≡ length members
apart_times members h class group s = sym (apart_law members group h class s)

twice : (n m : ℕ) → n * 2 ≡ m → m ≡ 2 * n
twice n m e = omega (arith, e)

pub friedel_times : (members : List Operator) (h : Row) (class : List Row) → IsGroup members → IsClass Friedel members h class
    → length class * (count_by (fixes h) members + count_by (reverses h) members) ≡ 2 * length members
friedel_times members h class group s = twice (length members) _ (friedel_law members group h class s)

-- ---- one class

pub class_of_equivalent : (pairs : Pairs) (members : List Operator) (h g : Row) (class : List Row) → IsGroup members → AreEquivalent pairs members h g → IsClass pairs members h class → IsClass pairs members g class
class_of_equivalent pairs members h g class group a s = record {
  exactly = λ k. (
    (λ c. equivalent_on pairs members group g h k (equivalent_back pairs members group h g a) ((s.exactly k).0 c)),
    (λ b. (s.exactly k).1 (equivalent_on pairs members group h g k a b)),
  );
  once = s.once;
}

-- ---- as many members fix them

fixers_opposite : (members : List Operator) (h : Row) → count_by (fixes (neg_row h)) members ≡ count_by (fixes h) members
fixers_opposite members h = lists.sum_by-agree (λ (f : Operator). cond (fixes (neg_row h) f) 1 0) (λ (f : Operator). cond (fixes h f) 1 0) members (λ f c. ap (λ (b : Bool). cond {A = ℕ} b 1 0) (same f))
  where
    same : (f : Operator) → row_eq (neg_row h ·ʳ f.w) (neg_row h) ≡ row_eq (h ·ʳ f.w) h
    same f =
        let a = row_eq-is (neg_row h ·ʳ f.w) (neg_row h) in
        let b = row_eq-is (h ·ʳ f.w) h in
        same_from_decides (row_eq (neg_row h ·ʳ f.w) (neg_row h)) (row_eq (h ·ʳ f.w) h) a
        ((λ t. neg_row-·ʳ h f.w ∙ ap neg_row (b.0 t)), (λ p. b.1 (sym (neg_row-neg_row (h ·ʳ f.w)) ∙ ap neg_row (sym (neg_row-·ʳ h f.w) ∙ p) ∙ neg_row-neg_row h)))

cancelled : (a b c n : ℕ) → 0 < a → n ≡ a * b → n ≡ a * c → b ≡ c
cancelled a b c n l e f = let g : a * b ≡ a * c = sym e ∙ f in grind arith

fixers_moved : (members : List Operator) (h g : Row) → IsGroup members → AreEquivalent Apart members h g → count_by (fixes h) members ≡ count_by (fixes g) members
fixers_moved members h g group a =
    let class = some_class Apart members h in
    let here : Contains class.0 h = (class.1.exactly h).1 (equivalent_itself Apart members group h) in
    let some : 0 < length class.0 = omega (arith, here.1) in
    cancelled (length class.0) _ _ (length members) some (apart_law members group h class.0 class.1) (apart_law members group g class.0 (class_of_equivalent Apart members h g class.0 group a class.1))

pub same_fixers : (pairs : Pairs) (members : List Operator) (h g : Row) → IsGroup members → AreEquivalent pairs members h g → count_by (fixes h) members ≡ count_by (fixes g) members
same_fixers pairs members h g group a = by pairs a.same
  where
    there : AreEquivalent Apart members h (h ·ʳ a.by.w)
    there = record { by = a.by; member = a.member; same = refl }

    by : (p : Pairs) → IsSameReflection p (h ·ʳ a.by.w) g → count_by (fixes h) members ≡ count_by (fixes g) members
    by Apart e = fixers_moved members h g group (record { by = a.by; member = a.member; same = e })
    by Friedel (inl e) = fixers_moved members h g group (record { by = a.by; member = a.member; same = e })
    by Friedel (inr e) = fixers_moved members h (h ·ʳ a.by.w) group there ∙ sym (fixers_opposite members (h ·ʳ a.by.w)) ∙ ap (λ r. count_by (fixes r) members) (sym e)

-- ---- absent together

-- h.t of a product, but for whole cells
pub shift_of_product : (h : Row) (f g : Operator) → (k : ℤ) × (h ·ʳᶜ (product UNIT f g).t ≡ (h ·ʳ f.w) ·ʳᶜ g.t +ℤ h ·ʳᶜ f.t +ℤ pos UNIT *ℤ k)
shift_of_product h f g =
    let m = modulo_is UNIT some_parts (f.w ·ᶜ g.t +ᶜ f.t) in
    (h ·ʳᶜ m.0, ap (λ c. h ·ʳᶜ c) (product_t f g ∙ m.1) ∙ ·ʳᶜ-+ᶜ h _ _ ∙ ap₂ (λ a b. a +ℤ b) (·ʳᶜ-+ᶜ h _ f.t ∙ ap (λ a. a +ℤ h ·ʳᶜ f.t) (sym (·ʳᶜ_assoc h f.w g.t))) (·ʳᶜ-times h (pos UNIT) m.0))

-- and of an inverse, at the row that the operator makes
pub shift_of_inverse : (members : List Operator) (h : Row) (k : Operator) → IsGroup members → Contains members k → (n : ℤ) × ((h ·ʳ k.w) ·ʳᶜ (inverse UNIT k).t ≡ neg_ℤ (h ·ʳᶜ k.t) +ℤ pos UNIT *ℤ n)
shift_of_inverse members h k group m =
    let g = h ·ʳ k.w in
    let v = inverse UNIT k in
    let d = modulo_is UNIT some_parts (neg_column (v.w ·ᶜ k.t)) in
    let back : g ·ʳᶜ (v.w ·ᶜ k.t) ≡ h ·ʳᶜ k.t = sym (·ʳᶜ_assoc g v.w k.t) ∙ ap (λ r. r ·ʳᶜ k.t) (undone Apart members group h k m) in
    (g ·ʳᶜ d.0, ap (λ c. g ·ʳᶜ c) ((inverse_is members k group m).translation ∙ d.1) ∙ ·ʳᶜ-+ᶜ g _ _ ∙ ap₂ (λ a b. a +ℤ b) (·ʳᶜ-neg_column g (v.w ·ᶜ k.t) ∙ ap neg_ℤ back) (·ʳᶜ-times g (pos UNIT) d.0))

-- what is left of the three shifts
left_over : (a b c s t n x y z : ℤ) → a ≡ t +ℤ b +ℤ n *ℤ x → b ≡ s +ℤ c +ℤ n *ℤ y → c ≡ neg_ℤ t +ℤ n *ℤ z → a ≡ s +ℤ n *ℤ (x +ℤ y +ℤ z)
left_over a b c s t n x y z p q r =
    let v = a ∷ b ∷ c ∷ s ∷ t ∷ n ∷ x ∷ y ∷ z ∷ [] in
    ring_from v (var 0) (var 3 ⊕ var 5 ⊗ (var 6 ⊕ var 7 ⊕ var 8))
    (known (con (pos 1)) (var 0) (var 4 ⊕ var 1 ⊕ var 5 ⊗ var 6) ∷ known (con (pos 1)) (var 1) (var 3 ⊕ var 2 ⊕ var 5 ⊗ var 7) ∷ known (con (pos 1)) (var 2) (neg (var 4) ⊕ var 5 ⊗ var 8) ∷ [])
    (p, (q, (r, tt))) tt

-- the member k^-1 then f then k shifts h k as f shifts h
pub absent_moved : (members : List Operator) (h : Row) (k : Operator) → IsGroup members → Contains members k → IsAbsent members h → IsAbsent members (h ·ʳ k.w)
absent_moved members h k group m a =
    let g = h ·ʳ k.w in
    let v = inverse UNIT k in
    let f = a.by in
    let i = inverse_member members k group m in
    let vf = product UNIT v f in
    let back : g ·ʳ v.w ≡ h = undone Apart members group h k m in
    let at : g ·ʳ vf.w ≡ h = times_product g v f ∙ ap (λ r. r ·ʳ f.w) back ∙ a.fixes in
    let p = shift_of_product g vf k in
    let q = shift_of_product g v f in
    let s = shift_of_inverse members h k group m in
    let e : g ·ʳᶜ (product UNIT vf k).t ≡ h ·ʳᶜ f.t +ℤ pos UNIT *ℤ (p.0 +ℤ q.0 +ℤ s.0) =
    left_over (g ·ʳᶜ (product UNIT vf k).t) (g ·ʳᶜ vf.t) (g ·ʳᶜ v.t) (h ·ʳᶜ f.t) (h ·ʳᶜ k.t) (pos UNIT) p.0 q.0 s.0
    (p.1 ∙ ap (λ r. r ·ʳᶜ k.t +ℤ g ·ʳᶜ vf.t +ℤ pos UNIT *ℤ p.0) at) (q.1 ∙ ap (λ r. r ·ʳᶜ f.t +ℤ g ·ʳᶜ v.t +ℤ pos UNIT *ℤ q.0) back) s.1 in
    record {
      by = product UNIT vf k;
      member = product_member members vf k group (product_member members v f group i a.member) m;
      fixes = times_product g vf k ∙ ap (λ r. r ·ʳ k.w) at;
      shifts = λ z. a.shifts (sym (rem_same UNIT some_parts (g ·ʳᶜ (product UNIT vf k).t) (h ·ʳᶜ f.t) (p.0 +ℤ q.0 +ℤ s.0) e) ∙ z);
    }

opposite_of : (x n q : ℤ) → neg_ℤ x ≡ pos 0 +ℤ n *ℤ q → x ≡ n *ℤ neg_ℤ q
opposite_of x n q e = ring_from (x ∷ n ∷ q ∷ []) (var 0) (var 1 ⊗ neg (var 2)) (known (con (negsuc 0)) (neg (var 0)) (con (pos 0) ⊕ var 1 ⊗ var 2) ∷ []) (e, tt) tt

-- a number whose opposite is whole is whole
whole_opposite : (x : ℤ) → int_rem_euclid (neg_ℤ x) (pos UNIT) ≡ pos 0 → int_rem_euclid x (pos UNIT) ≡ pos 0
whole_opposite x e =
    let q = int_div_euclid (neg_ℤ x) (pos UNIT) in
    let f = opposite_of x (pos UNIT) q (quotient_is UNIT some_parts (neg_ℤ x) ∙ ap (λ r. r +ℤ pos UNIT *ℤ q) e) in
    ap (λ z. int_rem_euclid z (pos UNIT)) f ∙ rem_of_times UNIT some_parts (neg_ℤ q)

pub absent_opposite : (members : List Operator) (h : Row) → IsAbsent members h → IsAbsent members (neg_row h)
absent_opposite members h a = record {
  by = a.by;
  member = a.member;
  fixes = neg_row-·ʳ h a.by.w ∙ ap neg_row a.fixes;
  shifts = λ z. a.shifts (whole_opposite (h ·ʳᶜ a.by.t) (ap (λ x. int_rem_euclid x (pos UNIT)) (sym (neg_row-·ʳᶜ h a.by.t)) ∙ z));
}

pub absent_together : (pairs : Pairs) (members : List Operator) (h g : Row) → IsGroup members → AreEquivalent pairs members h g → IsAbsent members h → IsAbsent members g
absent_together pairs members h g group a b = by pairs a.same
  where
    moved : IsAbsent members (h ·ʳ a.by.w)
    moved = absent_moved members h a.by group a.member b

    by : (p : Pairs) → IsSameReflection p (h ·ʳ a.by.w) g → IsAbsent members g
    by Apart e = subst (IsAbsent members) (sym e) moved
    by Friedel (inl e) = subst (IsAbsent members) (sym e) moved
    by Friedel (inr e) = subst (IsAbsent members) (sym e) (absent_opposite members (h ·ʳ a.by.w) moved)

-- ---- the index 0 0 0

shift_of_origin : (f : Operator) → phase_shift origin_row f ≡ pos 0
shift_of_origin f = ap (λ z. int_rem_euclid z (pos UNIT)) (origin_row-·ʳᶜ f.t) ∙ rem_part UNIT some_parts (pos 0) (omega (arith, ints))

pub origin_present : (members : List Operator) → IsAbsent members origin_row → ⊥
origin_present members a = a.shifts (shift_of_origin a.by)

pub origin_marked : (members : List Operator) → IsGroup members → IsRestrictedTo Friedel members origin_row 0
origin_marked members group = record {
  friedel = refl;
  present = origin_present members;
  by = identity_operator;
  member = has_identity Friedel members group;
  reverses = ·ʳ-identity origin_row ∙ sym neg_row-origin_row;
  phase = shift_of_origin identity_operator;
}
