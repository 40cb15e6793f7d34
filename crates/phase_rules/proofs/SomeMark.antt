-- Each row has a mark.
use Rattle.std.proofs.Common.{◌≡◌, ◌≢◌, ◌⊎◌, Bool, true, false, not, ◌&&◌, List, [], ◌∷◌, ℤ, pos, ◌≤ℤ◌, int_eq, inl, inr, ⊎_elim, unsigned_abs, ap, sym, ◌∙◌, subst, refl, arith, Contains, Decides}
use Rattle.std.specs.Bool.{⊤}
use Rattle.std.proofs.lemmas.Int.{ints}
use Rattle.std.proofs.lemmas.Bool.{false≢true}
use Rattle.std.proofs.lemmas.Bool.Decides.{Decides-and, Decides-not, Decides-int_eq}
use Rattle.finite_groups.proofs.Members as lists
use Rattle.lattice_algebra.specs.Operator.{Operator}
use Rattle.lattice_algebra.proofs.Remainders.{rem_is}
use Rattle.exact_ops.specs.declared.TheConstants.{UNIT}
use Rattle.exact_ops.proofs.Narrow.{some_parts}
use Rattle.phase_rules.specs.declared.pairs.Pairs.{Pairs}
use Rattle.phase_rules.specs.declared.pairs.Pairs.TheVariants.{Friedel, Apart}
use Rattle.phase_rules.specs.declared.parts.Mark.{Mark}
use Rattle.phase_rules.specs.declared.parts.Mark.TheVariants.{Absent, Free, Phase}
use Rattle.phase_rules.specs.Rows.{Row, ◌·ʳ◌, ◌·ʳᶜ◌, neg_row, row_eq}
use Rattle.phase_rules.specs.Equivalent.{reverses}
use Rattle.phase_rules.specs.Marks.{phase_shift, IsAbsent, IsMark}
use Rattle.phase_rules.proofs.Rows.{row_eq-is}

-- a member that passes a test, or none does
search_in : (p : Operator → Bool) (members : List Operator) → ((f : Operator) × Contains members f × (p f ≡ true)) ⊎ ((f : Operator) → Contains members f → p f ≡ true → ⊥)
search_in p [] = inr (λ f c t. lists.not_in_nil f c)
search_in p (g ∷ rest) = by (p g) refl (search_in p rest)
  where
    by : (b : Bool) → p g ≡ b → ((f : Operator) × Contains rest f × (p f ≡ true)) ⊎ ((f : Operator) → Contains rest f → p f ≡ true → ⊥)
        → ((f : Operator) × Contains (g ∷ rest) f × (p f ≡ true)) ⊎ ((f : Operator) → Contains (g ∷ rest) f → p f ≡ true → ⊥)
    by true e found = inl (g, lists.Contains-here g rest, e)
    by false e (inl r) = inl (r.0, lists.Contains-later r.0 g rest r.1, r.2)
    by false e (inr none) = inr (λ f c t. ⊎_elim (λ (q : g ≡ f). false≢true (sym e ∙ ap p q ∙ t)) (λ d. none f d t) (lists.Contains-cases f g rest c))

IsApart : Pairs → Type 0
IsApart Apart = ⊤
IsApart Friedel = ⊥

apart_not : Apart ≡ Friedel → ⊥
unfolding IsApart
apart_not e = subst IsApart e tt

whole : (z : ℤ) → pos 0 ≤ℤ z → z ≡ pos (unsigned_abs z)
whole z l = omega (arith, ints)

module _ (members : List Operator) (h : Row) where
  abbrev shifts : Operator → Bool
  shifts f = row_eq (h ·ʳ f.w) h && not (int_eq (phase_shift h f) (pos 0))

  shifts-is : (f : Operator) → Decides (shifts f) ((h ·ʳ f.w ≡ h) × (phase_shift h f ≢ pos 0))
  shifts-is f = Decides-and (row_eq (h ·ʳ f.w) h) (not (int_eq (phase_shift h f) (pos 0))) (row_eq-is (h ·ʳ f.w) h) (Decides-not (int_eq (phase_shift h f) (pos 0)) (Decides-int_eq (phase_shift h f) (pos 0)))

  absent_or_not : IsAbsent members h ⊎ (IsAbsent members h → ⊥)
  absent_or_not = ⊎_elim
      (λ r. let d = (shifts-is r.0).0 r.2 in inl (record { by = r.0; member = r.1; fixes = d.0; shifts = d.1 }))
      (λ n. inr (λ a. n a.by a.member ((shifts-is a.by).1 (a.fixes, a.shifts))))
      (search_in shifts members)

  of_present : (pairs : Pairs) → (IsAbsent members h → ⊥) → ((f : Operator) × Contains members f × (reverses h f ≡ true)) ⊎ ((f : Operator) → Contains members f → reverses h f ≡ true → ⊥) → (mark : Mark) × IsMark pairs members h mark
  of_present Apart n r = (Free, record { present = n; unrestricted = λ s q. apart_not q.friedel })
  of_present Friedel n (inl r) = (
    Phase (unsigned_abs (phase_shift h r.0)),
    record {
      friedel = refl;
      present = n;
      by = r.0;
      member = r.1;
      reverses = (row_eq-is (h ·ʳ r.0.w) (neg_row h)).0 r.2;
      phase = whole (phase_shift h r.0) (rem_is UNIT some_parts (h ·ʳᶜ r.0.t)).2.0;
    },
  )
  of_present Friedel n (inr none) = (Free, record { present = n; unrestricted = λ s q. none q.by q.member ((row_eq-is (h ·ʳ q.by.w) (neg_row h)).1 q.reverses) })

  pub some_mark : (pairs : Pairs) → (mark : Mark) × IsMark pairs members h mark
  some_mark pairs = ⊎_elim (λ a. (Absent, a)) (λ n. of_present pairs n (search_in (reverses h) members)) absent_or_not
