-- Absences and phase restrictions: all members that restrict a phase agree, and what one more member changes.
use Rattle.std.proofs.Common.{◌≡◌, ◌≢◌, ℕ, ◌+◌, ◌<◌, ◌≤◌, ◌⊎◌, ◌↔◌, Bool, true, false, cond, List, [], ◌∷◌, ◌++◌, length, get_or, take, slice_get, Some, ℤ, pos, negsuc, ◌+ℤ◌, ◌-ℤ◌, ◌*ℤ◌, neg_ℤ, unsigned_abs, refl, sym, ap, ap₂, ◌∙◌, subst, arith, inl, inr, ⊎_elim, Contains, IsTrue, count_by, w32, FitsSigned}
use Rattle.std.specs.Int.{int_rem_euclid, int_div_euclid}
use Rattle.std.proofs.lemmas.Int.{ints, to_z-of_z}
use Rattle.std.proofs.lemmas.List.Elements.{Contains-append_left, Contains-append_right, Contains-append_cases}
use Rattle.std.proofs.lemmas.List.Sums.{sum_by_push}
use Rattle.std.proofs.lemmas.List.{take_more, take_all}
use Rattle.std.proofs.lemmas.Option.{get_or_from_slice_get, slice_get_within}
use Rattle.finite_groups.proofs.Members as lists
use Rattle.lattice_algebra.specs.Matrix.{◌·ᶜ◌, ◌+ᶜ◌, entries, matrix_of}
use Rattle.lattice_algebra.specs.Operator.{Operator, product, modulo, IsPart, AreWithin}
use Rattle.lattice_algebra.proofs.Numbers.{zero_or_other}
use Rattle.lattice_algebra.proofs.Remainders.{quotient_is, rem_is, rem_same, modulo_is}
use Rattle.lattice_algebra.proofs.Ring.{var, ◌⊕◌, ◌⊖◌, ◌⊗◌, neg, con, known, ring_from}
use Rattle.lattice_algebra.proofs.Machine.{back, kept}
use Rattle.exact_ops.specs.declared.TheConstants.{UNIT}
use Rattle.exact_ops.proofs.Narrow.{some_parts}
use Rattle.group_closure.specs.GroupList.{IsGroup}
use Rattle.group_closure.proofs.Places.{product_member}
use Rattle.phase_rules.specs.declared.pairs.Pairs.{Pairs}
use Rattle.phase_rules.specs.declared.parts.Mark.{Mark}
use Rattle.phase_rules.specs.declared.parts.Mark.TheVariants.{Absent, Free, Phase}
use Rattle.phase_rules.specs.declared.tallies.Turn.{Turn}
use Rattle.phase_rules.specs.declared.tallies.Tally.{Tally}
use Rattle.phase_rules.specs.declared.TheConstants.{MAX_INDEX}
use Rattle.phase_rules.specs.Rows.{Row, row_of, ◌·ʳ◌, ◌·ʳᶜ◌, neg_row, row_eq}
use Rattle.phase_rules.specs.Equivalent.{fixes, reverses}
use Rattle.phase_rules.specs.Marks.{phase_shift, IsAbsent, IsMark}
use Rattle.phase_rules.specs.Tallies.{IsTurn, HasReverser, IsTally}
use Rattle.phase_rules.proofs.Rows.{neg_row-·ʳ, neg_row-neg_row, ·ʳᶜ_assoc, ·ʳᶜ-+ᶜ, ·ʳᶜ-times, neg_row-·ʳᶜ, row_eq-is, row_path}
use Rattle.phase_rules.proofs.Classes.{times_product}

-- ---- all members that reverse a present h shift its phase alike

pub product_t : (f g : Operator) → (product UNIT f g).t ≡ modulo UNIT (f.w ·ᶜ g.t +ᶜ f.t)
unfolding product
product_t f g = refl

-- h.t of a product, where its first factor reverses h
reversed_twice : (h : Row) (f g : Operator) → h ·ʳ f.w ≡ neg_row h → (k : ℤ) × (h ·ʳᶜ (product UNIT f g).t ≡ neg_ℤ (h ·ʳᶜ g.t) +ℤ h ·ʳᶜ f.t +ℤ pos UNIT *ℤ k)
reversed_twice h f g p =
    let m = modulo_is UNIT some_parts (f.w ·ᶜ g.t +ᶜ f.t) in
    let turned : h ·ʳᶜ (f.w ·ᶜ g.t) ≡ neg_ℤ (h ·ʳᶜ g.t) = sym (·ʳᶜ_assoc h f.w g.t) ∙ ap (λ r. r ·ʳᶜ g.t) p ∙ neg_row-·ʳᶜ h g.t in
    (h ·ʳᶜ m.0, ap (λ c. h ·ʳᶜ c) (product_t f g ∙ m.1) ∙ ·ʳᶜ-+ᶜ h _ _ ∙ ap₂ (λ a b. a +ℤ b) (·ʳᶜ-+ᶜ h _ f.t ∙ ap (λ a. a +ℤ h ·ʳᶜ f.t) turned) (·ʳᶜ-times h (pos UNIT) m.0))

whole : (a b c k q n : ℤ) → c ≡ neg_ℤ b +ℤ a +ℤ n *ℤ k → c ≡ pos 0 +ℤ n *ℤ q → a ≡ b +ℤ n *ℤ (q -ℤ k)
whole a b c k q n e f =
    let r = a ∷ b ∷ c ∷ k ∷ q ∷ n ∷ [] in
    ring_from r (var 0) (var 1 ⊕ var 5 ⊗ (var 4 ⊖ var 3))
    (known (con (negsuc 0)) (var 2) (neg (var 1) ⊕ var 0 ⊕ var 5 ⊗ var 3) ∷ known (con (pos 1)) (var 2) (con (pos 0) ⊕ var 5 ⊗ var 4) ∷ [])
    (e, (f, tt)) tt

pub reversers_agree : (members : List Operator) (h : Row) (f g : Operator) → IsGroup members → (IsAbsent members h → ⊥) → Contains members f → Contains members g → h ·ʳ f.w ≡ neg_row h → h ·ʳ g.w ≡ neg_row h → phase_shift h f ≡ phase_shift h g
reversers_agree members h f g group present mf mg p q =
    let k : Operator = product UNIT f g in
    let m : Contains members k = product_member members f g group mf mg in
    let fixed : h ·ʳ k.w ≡ h = times_product h f g ∙ ap (λ r. r ·ʳ g.w) p ∙ neg_row-·ʳ h g.w ∙ ap neg_row q ∙ neg_row-neg_row h in
    let none : phase_shift h k ≡ pos 0 = ⊎_elim (λ e. e) (λ n. absurd (present (record { by = k; member = m; fixes = fixed; shifts = n }))) (zero_or_other (phase_shift h k)) in
    let t = reversed_twice h f g p in
    let d = int_div_euclid (h ·ʳᶜ k.t) (pos UNIT) in
    let e : h ·ʳᶜ k.t ≡ pos 0 +ℤ pos UNIT *ℤ d = quotient_is UNIT some_parts (h ·ʳᶜ k.t) ∙ ap (λ a. a +ℤ pos UNIT *ℤ d) none in
    rem_same UNIT some_parts (h ·ʳᶜ f.t) (h ·ʳᶜ g.t) (d -ℤ t.0) (whole (h ·ʳᶜ f.t) (h ·ʳᶜ g.t) (h ·ʳᶜ k.t) t.0 d (pos UNIT) t.1 e)

same_pos : (m n : ℕ) → pos m ≡ pos n → m ≡ n
same_pos m n e = ap unsigned_abs e

pub one_mark : (pairs : Pairs) (members : List Operator) (h : Row) (a b : Mark) → IsGroup members → IsMark pairs members h a → IsMark pairs members h b → a ≡ b
one_mark pairs members h Absent Absent g p q = refl
one_mark pairs members h Absent Free g p q = absurd (q.present p)
one_mark pairs members h Absent (Phase s) g p q = absurd (q.present p)
one_mark pairs members h Free Absent g p q = absurd (p.present q)
one_mark pairs members h Free Free g p q = refl
one_mark pairs members h Free (Phase s) g p q = absurd (p.unrestricted s q)
one_mark pairs members h (Phase r) Absent g p q = absurd (p.present q)
one_mark pairs members h (Phase r) Free g p q = absurd (q.unrestricted r p)
one_mark pairs members h (Phase r) (Phase s) g p q =
    ap Phase (same_pos r s (sym p.phase ∙ reversers_agree members h p.by q.by g p.present p.member q.member p.reverses q.reverses ∙ q.phase))

-- ---- one member more

absent_later : (members : List Operator) (h : Row) (f : Operator) → IsAbsent members h → IsAbsent (members ++ f ∷ []) h
absent_later members h f a = record { by = a.by; member = Contains-append_left members (f ∷ []) a.by a.member; fixes = a.fixes; shifts = a.shifts }

last_one : (members : List Operator) (f : Operator) → Contains (members ++ f ∷ []) f
last_one members f = Contains-append_right members (f ∷ []) f (lists.Contains-here f [])

of_last : (members : List Operator) (f g : Operator) → Contains (members ++ f ∷ []) g → Contains members g ⊎ (f ≡ g)
of_last members f g c = ⊎_elim (λ a. inl a) (λ b. ⊎_elim (λ e. inr e) (λ n. lists.not_in_nil g n) (lists.Contains-cases g f [] b)) (Contains-append_cases members (f ∷ []) g c)

-- a member that does not shift h makes it no more absent
absent_before : (members : List Operator) (h : Row) (f : Operator) → (h ·ʳ f.w ≡ h → phase_shift h f ≡ pos 0) → IsAbsent (members ++ f ∷ []) h → IsAbsent members h
absent_before members h f n a =
    ⊎_elim (λ c. record { by = a.by; member = c; fixes = a.fixes; shifts = a.shifts })
    (λ e. absurd (a.shifts (subst (λ (g : Operator). phase_shift h g ≡ pos 0) e (n (ap (λ (g : Operator). h ·ʳ g.w) e ∙ a.fixes)))))
    (of_last members f a.by a.member)

count_yes : (p : Operator → Bool) (members : List Operator) (f : Operator) → p f ≡ true → count_by p (members ++ f ∷ []) ≡ count_by p members + 1
count_yes p members f e = sum_by_push (λ x. cond (p x) 1 0) members f ∙ ap (λ (b : Bool). count_by p members + cond {A = ℕ} b 1 0) e

plus_none : (n : ℕ) → n + 0 ≡ n
plus_none n = omega arith

pub count_no : (p : Operator → Bool) (members : List Operator) (f : Operator) → p f ≡ false → count_by p (members ++ f ∷ []) ≡ count_by p members
count_no p members f e = sum_by_push (λ x. cond (p x) 1 0) members f ∙ ap (λ (b : Bool). count_by p members + cond {A = ℕ} b 1 0) e ∙ plus_none (count_by p members)

pub not_row : (a b : Row) → (a ≡ b → ⊥) → row_eq a b ≡ false
not_row a b n = by (row_eq a b) (λ t. n ((row_eq-is a b).0 t))
  where
    by : (r : Bool) → (r ≡ true → ⊥) → r ≡ false
    by true h = absurd (h refl)
    by false h = refl

-- the tally with this member looked at for fixing, and not yet for reversing
pub record IsHalf (members : List Operator) (h : Row) (f : Operator) (t : Tally) : Type 0 where
  pub fixers : t.fixers ≡ count_by (fixes h) (members ++ f ∷ [])
  pub reversers : t.reversers ≡ count_by (reverses h) members
  pub shifted : IsTrue t.shifted ↔ IsAbsent (members ++ f ∷ []) h
  pub phase : 0 < t.reversers → HasReverser members h t.phase

pub half_shifting : (members : List Operator) (h : Row) (f : Operator) (t : Tally) → IsTally members h t → h ·ʳ f.w ≡ h → phase_shift h f ≢ pos 0
    → IsHalf members h f (record { fixers = t.fixers + 1; reversers = t.reversers; shifted = true; phase = t.phase })
half_shifting members h f t w p n = record {
  fixers = ap (λ k. k + 1) w.fixers ∙ sym (count_yes (fixes h) members f ((row_eq-is (h ·ʳ f.w) h).1 p));
  reversers = w.reversers;
  shifted = ((λ _. record { by = f; member = last_one members f; fixes = p; shifts = n }), (λ _. refl));
  phase = w.phase;
}

pub half_fixing : (members : List Operator) (h : Row) (f : Operator) (t : Tally) → IsTally members h t → h ·ʳ f.w ≡ h → phase_shift h f ≡ pos 0
    → IsHalf members h f (record { fixers = t.fixers + 1; reversers = t.reversers; shifted = t.shifted; phase = t.phase })
half_fixing members h f t w p n = record {
  fixers = ap (λ k. k + 1) w.fixers ∙ sym (count_yes (fixes h) members f ((row_eq-is (h ·ʳ f.w) h).1 p));
  reversers = w.reversers;
  shifted = ((λ s. absent_later members h f (w.shifted.0 s)), (λ a. w.shifted.1 (absent_before members h f (λ _. n) a)));
  phase = w.phase;
}

pub half_other : (members : List Operator) (h : Row) (f : Operator) (t : Tally) → IsTally members h t → (h ·ʳ f.w ≡ h → ⊥) → IsHalf members h f t
half_other members h f t w n = record {
  fixers = w.fixers ∙ sym (count_no (fixes h) members f (not_row (h ·ʳ f.w) h n));
  reversers = w.reversers;
  shifted = ((λ s. absent_later members h f (w.shifted.0 s)), (λ a. w.shifted.1 (absent_before members h f (λ p. absurd (n p)) a)));
  phase = w.phase;
}

pub whole_reversing : (members : List Operator) (h : Row) (f : Operator) (t : Tally) (s : ℕ) → IsHalf members h f t → h ·ʳ f.w ≡ neg_row h → phase_shift h f ≡ pos s
    → IsTally (members ++ f ∷ []) h (record { fixers = t.fixers; reversers = t.reversers + 1; shifted = t.shifted; phase = s })
whole_reversing members h f t s w p q = record {
  fixers = w.fixers;
  reversers = ap (λ k. k + 1) w.reversers ∙ sym (count_yes (reverses h) members f ((row_eq-is (h ·ʳ f.w) (neg_row h)).1 p));
  shifted = w.shifted;
  phase = λ _. record { by = f; member = last_one members f; reverses = p; phase = q };
}

pub whole_other : (members : List Operator) (h : Row) (f : Operator) (t : Tally) → IsHalf members h f t → (h ·ʳ f.w ≡ neg_row h → ⊥) → IsTally (members ++ f ∷ []) h t
whole_other members h f t w n = record {
  fixers = w.fixers;
  reversers = w.reversers ∙ sym (count_no (reverses h) members f (not_row (h ·ʳ f.w) (neg_row h) n));
  shifted = w.shifted;
  phase = λ l. let r = w.phase l in record { by = r.by; member = Contains-append_left members (f ∷ []) r.by r.member; reverses = r.reverses; phase = r.phase };
}

-- ---- turns

abbrev pub number_at : List ℤ → ℕ → ℤ
number_at xs n = get_or xs n (pos 0)

opposite : (z : ℤ) → unsigned_abs z ≤ MAX_INDEX → back w32 (pos 0 -ℤ back w32 z) ≡ neg_ℤ z
opposite z h = omega (arith, ints)

-- what three comparisons of numbers say of rows
compared : (r : Row) (image : List ℤ) (answer : Bool) (h k l : ℤ) → h ≡ r.h → k ≡ r.k → l ≡ r.l
    → IsTrue answer ↔ ((number_at image 0 ≡ h) × (number_at image 1 ≡ k) × (number_at image 2 ≡ l)) → IsTrue answer ↔ (row_of image ≡ r)
compared r image answer h k l a b c f = (
  (λ t. let e = f.0 t in row_path (row_of image) r (e.0 ∙ a) (e.1 ∙ b) (e.2 ∙ c)),
  (λ e. f.1 (ap (λ (y : Row). y.h) e ∙ sym a, ap (λ (y : Row). y.k) e ∙ sym b, ap (λ (y : Row). y.l) e ∙ sym c)),
)

pub is_turn : (x r : Row) (image : List ℤ) (fix rev : Bool) → r ≡ x → AreWithin MAX_INDEX r.h r.k r.l
    → IsTrue fix ↔ ((number_at image 0 ≡ back w32 r.h) × (number_at image 1 ≡ back w32 r.k) × (number_at image 2 ≡ back w32 r.l))
    → IsTrue rev ↔ ((number_at image 0 ≡ back w32 (pos 0 -ℤ back w32 r.h)) × (number_at image 1 ≡ back w32 (pos 0 -ℤ back w32 r.k)) × (number_at image 2 ≡ back w32 (pos 0 -ℤ back w32 r.l)))
    → IsTurn x (row_of image) (record { fixes = fix; reverses = rev })
unfolding neg_row
is_turn x r image fix rev v n f g = subst (λ y. IsTurn y (row_of image) (record { fixes = fix; reverses = rev })) v (record {
  fixes = compared r image fix _ _ _ (kept w32 MAX_INDEX r.h n.first tt) (kept w32 MAX_INDEX r.k n.second tt) (kept w32 MAX_INDEX r.l n.third tt) f;
  reverses = compared (neg_row r) image rev _ _ _ (opposite r.h n.first) (opposite r.k n.second) (opposite r.l n.third) g;
})

-- ---- phases as the machine has them

pub not_zero : (z : ℤ) (n : ℕ) → z ≡ pos n → (n ≡ 0 → ⊥) → z ≢ pos 0
not_zero z n e h p = h (ap unsigned_abs (sym e ∙ p))

pub is_zero : (z : ℤ) (n : ℕ) → z ≡ pos n → n ≡ 0 → z ≡ pos 0
is_zero z n e h = e ∙ ap pos h

size_of_part : (z : ℤ) → IsPart UNIT z → unsigned_abs z ≤ UNIT
size_of_part z p = omega (arith, ints)

pub whole_size : (z : ℤ) → IsPart UNIT z → z ≡ pos (unsigned_abs z)
whole_size (pos n) p = refl
whole_size (negsuc n) p = absurd (omega (arith, ints))

pub phase_computed : (z a r : ℤ) → FitsSigned w32 a → a ≡ z → r ≡ int_rem_euclid (back w32 a) (pos UNIT) → int_rem_euclid z (pos UNIT) ≡ pos (unsigned_abs (back w32 r))
phase_computed z a r f e q =
    let is : r ≡ int_rem_euclid z (pos UNIT) = q ∙ ap (λ v. int_rem_euclid v (pos UNIT)) (to_z-of_z w32 a f ∙ e) in
    let part : IsPart UNIT (int_rem_euclid z (pos UNIT)) = (rem_is UNIT some_parts z).2 in
    let same : back w32 r ≡ int_rem_euclid z (pos UNIT) = ap (back w32) is ∙ kept w32 UNIT _ (size_of_part _ part) tt in
    whole_size _ part ∙ ap (λ v. pos (unsigned_abs v)) (sym same)

-- ---- a rotation part that was asked

pub asked_now : (h : Row) (f : Operator) (w image : List ℤ) (found : Turn) → w ≡ entries f.w → row_of image ≡ h ·ʳ matrix_of w → IsTurn h (row_of image) found → IsTurn h (h ·ʳ f.w) found
asked_now h f w image found e p t = subst (λ r. IsTurn h r found) (p ∙ ap (λ v. h ·ʳ matrix_of v) e) t

pub taken_more : (members : List Operator) (i : ℕ) (f : Operator) → slice_get members i ≡ Some f → take (i + 1) members ≡ take i members ++ f ∷ []
taken_more members i f e = take_more members i f (slice_get_within members i f e) ∙ ap (λ (g : Operator). take i members ++ g ∷ []) (get_or_from_slice_get members i f f e)

pub tally_more : (members : List Operator) (h : Row) (i : ℕ) (f : Operator) (t : Tally) → slice_get members i ≡ Some f → IsTally (take i members ++ f ∷ []) h t → IsTally (take (i + 1) members) h t
tally_more members h i f t e w = subst (λ xs. IsTally xs h t) (sym (taken_more members i f e)) w

pub tally_all : (members : List Operator) (h : Row) (i : ℕ) (t : Tally) → length members ≤ i → IsTally (take i members) h t → IsTally members h t
tally_all members h i t l w = subst (λ xs. IsTally xs h t) (take_all i members l) w
