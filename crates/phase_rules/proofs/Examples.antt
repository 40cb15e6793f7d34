-- Worked examples: the definitions on literals; nothing cites these.
use Rattle.std.proofs.Common.{◌≡◌, ◌≢◌, ◌/◌, ℕ, zero, suc, Bool, true, false, List, [], ◌∷◌, ℤ, pos, negsuc, inr, ⊎_elim, Contains, ap, sym, subst, refl, arith, All}
use Rattle.std.specs.Ordering.{is_lt}
use Rattle.std.proofs.lemmas.Bool.{false≢true}
use Rattle.std.proofs.lemmas.Int.{ints}
use Rattle.std.proofs.lemmas.Option.{slice_get_within, same_Some}
use Rattle.std.proofs.lemmas.List.Elements.{All-contains, All-from_recursion}
use Rattle.finite_groups.proofs.Members as lists
use Rattle.lattice_algebra.specs.Matrix.{Matrix, matrix_of, entries, identity, scaled}
use Rattle.lattice_algebra.specs.Operator.{Operator, identity_operator}
use Rattle.lattice_algebra.proofs.Examples.{column, minus, inversion, inverting, both}
use Rattle.exact_ops.specs.declared.TheConstants.{UNIT}
use Rattle.phase_rules.specs.declared.pairs.Pairs.TheVariants.{Friedel, Apart}
use Rattle.phase_rules.specs.declared.parts.Mark.TheVariants.{Absent, Free, Phase}
use Rattle.phase_rules.specs.declared.tallies.Turn.{Turn}
use Rattle.phase_rules.specs.declared.tallies.Tally.{Tally}
use Rattle.phase_rules.specs.Rows.{Row, row_of, row_eq, ◌·ʳ◌, ◌·ʳᶜ◌, neg_row}
use Rattle.phase_rules.specs.Equivalent.{IsSameReflection, AreEquivalent, IsClass, fixes, reverses}
use Rattle.phase_rules.specs.Marks.{phase_shift, IsAbsent, IsRestrictedTo, IsFree, IsMark, carried_mark, opposite_mark}
use Rattle.phase_rules.specs.Tallies.{IsTurn, AreTurned, HasReverser, IsTally}
use Rattle.phase_rules.specs.Halves.{IsBelow, AreBelow, HasNoEarlierOpposite, HaveOpposites}

abbrev o : ℤ
o = pos 0

abbrev half : ℤ
half = pos (UNIT / 2)

abbrev diagonal : ℤ → ℤ → ℤ → Matrix
diagonal x y z = matrix_of (x ∷ o ∷ o ∷ o ∷ y ∷ o ∷ o ∷ o ∷ z ∷ [])

abbrev index : ℤ → ℤ → ℤ → Row
index h k l = record { h = h; k = k; l = l }

-- ---- rows

-- -y,x,z takes 1 2 3 to 2 -1 3; and 1 2 3 by 1/2,1/4,0 is one cell
abbrev fourfold : Matrix
fourfold = matrix_of (o ∷ minus ∷ o ∷ pos 1 ∷ o ∷ o ∷ o ∷ o ∷ pos 1 ∷ [])

turned_row : index (pos 1) (pos 2) (pos 3) ·ʳ fourfold ≡ index (pos 2) minus (pos 3)
unfolding ◌·ʳ◌
turned_row = refl

one_cell : index (pos 1) (pos 2) (pos 3) ·ʳᶜ column (pos 12) (pos 6) o ≡ pos 24
unfolding ◌·ʳᶜ◌
one_cell = refl

opposite_row : neg_row (index (pos 1) minus o) ≡ index minus (pos 1) o
unfolding neg_row
opposite_row = refl

listed_row : row_of (pos 1 ∷ pos 2 ∷ pos 3 ∷ []) ≡ index (pos 1) (pos 2) (pos 3)
listed_row = refl

same_row : row_eq (index (pos 1) (pos 2) minus) (index (pos 1) (pos 2) minus) ≡ true
same_row = refl

other_row : row_eq (index (pos 1) (pos 2) minus) (index (pos 1) (pos 2) (pos 1)) ≡ false
other_row = refl

-- ---- P1: 1 2 3 and -1 -2 -3 are equivalent by Friedel's law alone

abbrev one : List Operator
one = identity_operator ∷ []

in_one : (f : Operator) → Contains one f → identity_operator ≡ f
in_one f c = ⊎_elim (λ e. e) (λ n. lists.not_in_nil f n) (lists.Contains-cases f identity_operator [] c)

abbrev one_two_three : Row
one_two_three = index (pos 1) (pos 2) (pos 3)

abbrev its_opposite : Row
its_opposite = index minus (negsuc 1) (negsuc 2)

opposites_differ : its_opposite ≡ one_two_three → ⊥
opposites_differ e = let x : minus ≡ pos 1 = ap (λ (r : Row). r.h) e in omega (arith, ints, x)

same_with_friedel : IsSameReflection Friedel one_two_three its_opposite
unfolding neg_row
same_with_friedel = inr refl

not_same_apart : IsSameReflection Apart one_two_three its_opposite → ⊥
not_same_apart e = opposites_differ e

equivalent : AreEquivalent Friedel one one_two_three its_opposite
unfolding ◌·ʳ◌ neg_row
equivalent = record { by = identity_operator; member = (0, omega arith, refl); same = inr refl }

not_equivalent : AreEquivalent Apart one one_two_three its_opposite → ⊥
unfolding ◌·ʳ◌
not_equivalent a = opposites_differ (subst (λ (f : Operator). its_opposite ≡ one_two_three ·ʳ f.w) (sym (in_one a.by a.member)) a.same)

class : IsClass Apart one one_two_three (one_two_three ∷ [])
unfolding ◌·ʳ◌
class = record {
  exactly = λ g. (
    (λ c. ⊎_elim (λ e. record { by = identity_operator; member = (0, omega arith, refl); same = sym e }) (λ n. lists.not_in_nil g n) (lists.Contains-cases g one_two_three [] c)),
    (λ a. subst (Contains (one_two_three ∷ [])) (sym (subst (λ (f : Operator). g ≡ one_two_three ·ʳ f.w) (sym (in_one a.by a.member)) a.same)) (0, omega arith, refl)),
  );
  once = λ i j d l m. absurd (omega arith);
}

no_class : IsClass Apart one one_two_three [] → ⊥
unfolding ◌·ʳ◌
no_class c = lists.not_in_nil one_two_three ((c.exactly one_two_three).1 (record { by = identity_operator; member = (0, omega arith, refl); same = refl }))

-- it is neither absent nor restricted
unshifted_by_one : phase_shift one_two_three identity_operator ≡ o
unfolding ◌·ʳᶜ◌
unshifted_by_one = refl

not_reversed : one_two_three ·ʳ identity ≡ neg_row one_two_three → ⊥
unfolding ◌·ʳ◌ neg_row
not_reversed e = opposites_differ (sym e)

free : IsFree Friedel one one_two_three
free = record {
  present = λ a. a.shifts (subst (λ (f : Operator). phase_shift one_two_three f ≡ o) (in_one a.by a.member) unshifted_by_one);
  unrestricted = λ s r. not_reversed (subst (λ (f : Operator). one_two_three ·ʳ f.w ≡ neg_row one_two_three) (sym (in_one r.by r.member)) r.reverses);
}

-- ---- P2_1/c: 0 1 0 is absent, by the screw axis -x,y+1/2,-z+1/2

abbrev screw : Operator
screw = record { w = diagonal minus (pos 1) minus; t = column o half half }

abbrev p21c : List Operator
p21c = identity_operator ∷ record { w = diagonal (pos 1) minus (pos 1); t = column o half half } ∷ screw ∷ record { w = inversion; t = column o o o } ∷ []

absent : IsAbsent p21c (index o (pos 1) o)
unfolding ◌·ʳ◌ ◌·ʳᶜ◌
absent = record { by = screw; member = (2, omega arith, refl); fixes = refl; shifts = λ e. omega (arith, ints, e) }

-- ---- P2_12_12_1: 0 1 2 is present, and x+1/2,-y+1/2,-z restricts it to 90 degrees

abbrev along_x : Operator
along_x = record { w = diagonal (pos 1) minus minus; t = column half half o }

abbrev p212121 : List Operator
p212121 = identity_operator ∷ along_x ∷ record { w = diagonal minus (pos 1) minus; t = column o half half } ∷ record { w = diagonal minus minus (pos 1); t = column half o half } ∷ []

abbrev zero_one_two : Row
zero_one_two = index o (pos 1) (pos 2)

-- f does not shift it
abbrev IsUnshifted : Operator → Type 0
IsUnshifted f = zero_one_two ·ʳ f.w ≡ zero_one_two → phase_shift zero_one_two f ≢ pos 0 → ⊥

not_same : minus ≡ pos 1 → ⊥
not_same e = omega (arith, ints, e)

not_twice : negsuc 1 ≡ pos 2 → ⊥
not_twice e = omega (arith, ints, e)

unshifted : All IsUnshifted p212121
unfolding ◌·ʳ◌ ◌·ʳᶜ◌
unshifted = All-from_recursion IsUnshifted p212121 (
  (λ e n. n refl),
  ((λ e n. not_same (ap (λ (r : Row). r.k) e)), ((λ e n. not_twice (ap (λ (r : Row). r.l) e)), ((λ e n. not_same (ap (λ (r : Row). r.k) e)), tt))),
)

present : IsAbsent p212121 zero_one_two → ⊥
present a = All-contains IsUnshifted p212121 a.by unshifted a.member a.fixes a.shifts

restricted : IsRestrictedTo Friedel p212121 zero_one_two (UNIT / 2)
unfolding ◌·ʳ◌ ◌·ʳᶜ◌ neg_row
restricted = record { friedel = refl; present = present; by = along_x; member = (1, omega arith, refl); reverses = refl; phase = refl }

-- and to no other phase: no other member reverses it
abbrev IsUnphased : Operator → Type 0
IsUnphased f = zero_one_two ·ʳ f.w ≡ neg_row zero_one_two → phase_shift zero_one_two f ≡ pos 0 → ⊥

unphased : All IsUnphased p212121
unfolding ◌·ʳ◌ ◌·ʳᶜ◌ neg_row
unphased = All-from_recursion IsUnphased p212121 (
  (λ e p. not_same (sym (ap (λ (r : Row). r.k) e))),
  ((λ e p. omega (arith, ints, p)), ((λ e p. not_same (sym (ap (λ (r : Row). r.k) e))), ((λ e p. not_twice (sym (ap (λ (r : Row). r.l) e))), tt))),
)

not_restricted : IsRestrictedTo Friedel p212121 zero_one_two 0 → ⊥
not_restricted r = All-contains IsUnphased p212121 r.by unphased r.member r.reverses r.phase

not_free : IsFree Friedel p21c (index o (pos 1) o) → ⊥
not_free f = f.present absent

-- their marks
mark_absent : IsMark Friedel p21c (index o (pos 1) o) Absent
mark_absent = absent

mark_phase : IsMark Friedel p212121 zero_one_two (Phase (UNIT / 2))
mark_phase = restricted

mark_free : IsMark Friedel one one_two_three Free
mark_free = free

no_mark : IsMark Friedel p21c (index o (pos 1) o) Free → ⊥
no_mark m = not_free m

-- x,y,z+1/4 with h = 0 0 3: s becomes s - 36 parts, modulo a cell; and 4 parts have 20 as their opposite
carried_phase : carried_mark (index o o (pos 3)) (record { w = identity; t = column o o (pos 6) }) (Phase 1) ≡ Phase 13
unfolding ◌·ʳᶜ◌
carried_phase = refl

carried_absence : carried_mark (index o o (pos 3)) identity_operator Absent ≡ Absent
carried_absence = refl

opposite_phase : opposite_mark (Phase 4) ≡ Phase 20
opposite_phase = refl

opposite_free : opposite_mark Free ≡ Free
opposite_free = refl

-- ---- tallies: x,y,z fixes 0 1 2, and x+1/2,-y+1/2,-z reverses it

one_fixes : fixes zero_one_two identity_operator ≡ true
unfolding ◌·ʳ◌
one_fixes = refl

one_reverses_not : reverses zero_one_two identity_operator ≡ false
unfolding ◌·ʳ◌ neg_row
one_reverses_not = refl

along_x_reverses : reverses zero_one_two along_x ≡ true
unfolding ◌·ʳ◌ neg_row
along_x_reverses = refl

half_a_cell : phase_shift zero_one_two along_x ≡ pos 12
unfolding ◌·ʳᶜ◌
half_a_cell = refl

abbrev turn : Bool → Turn
turn b = record { fixes = b; reverses = true }

is_turn : IsTurn zero_one_two (index o minus (negsuc 1)) (turn false)
unfolding neg_row
is_turn = record { fixes = ((λ t. absurd (false≢true t)), (λ e. absurd (not_same (ap (λ (r : Row). r.k) e)))); reverses = ((λ t. refl), (λ e. refl)) }

no_turn : IsTurn zero_one_two (index o minus (negsuc 1)) (turn true) → ⊥
no_turn t = not_same (ap (λ (r : Row). r.k) (t.fixes.0 refl))

turned_along_x : (f : Operator) → along_x ≡ f → IsTurn zero_one_two (zero_one_two ·ʳ f.w) (turn false)
unfolding ◌·ʳ◌
turned_along_x f e = subst (λ (f : Operator). IsTurn zero_one_two (zero_one_two ·ʳ f.w) (turn false)) e is_turn

-- the member at place 1 does so, and the one at place 0 does not
one_turned : AreTurned p212121 zero_one_two 1 2 (turn false)
one_turned zero f l m s = absurd (omega (arith, l))
one_turned (suc zero) f l m s = turned_along_x f (same_Some along_x f s)
one_turned (suc (suc k)) f l m s = absurd (omega (arith, m))

not_turned : AreTurned p212121 zero_one_two 0 2 (turn false) → ⊥
unfolding ◌·ʳ◌
not_turned a = false≢true ((a 0 identity_operator (omega arith) (omega arith) refl).fixes.1 refl)

reverser : HasReverser p212121 zero_one_two 12
unfolding ◌·ʳ◌ ◌·ʳᶜ◌ neg_row
reverser = record { by = along_x; member = (1, omega arith, refl); reverses = refl; phase = refl }

no_reverser : HasReverser p212121 zero_one_two 0 → ⊥
no_reverser r = All-contains IsUnphased p212121 r.by unphased r.member r.reverses r.phase

abbrev tally : ℕ → Tally
tally n = record { fixers = n; reversers = 1; shifted = false; phase = 12 }

is_tally : IsTally p212121 zero_one_two (tally 1)
unfolding ◌·ʳ◌ neg_row
is_tally = record { fixers = refl; reversers = refl; shifted = ((λ t. absurd (false≢true t)), (λ a. absurd (present a))); phase = λ l. reverser }

no_tally : IsTally p212121 zero_one_two (tally 2) → ⊥
unfolding ◌·ʳ◌
no_tally t = omega (arith, t.fixers)

-- ---- halves: x,y,z is the one of P-1, and -x,-y,-z the other

is_below : IsBelow (entries inversion)
is_below = refl

one_not_below : IsBelow (entries identity) → ⊥
one_not_below e = false≢true (ap is_lt e)

second_below : AreBelow both 1
second_below zero g l s = absurd (omega (arith, l))
second_below (suc zero) g l s = subst (λ (f : Operator). IsBelow (entries f.w)) (same_Some inverting g s) is_below
second_below (suc (suc k)) g l s = absurd (let m = slice_get_within both (suc (suc k)) g s in omega (arith, m))

first_not_below : AreBelow both 0 → ⊥
first_not_below b = one_not_below (b 0 identity_operator (omega arith) refl)

first_alone : HasNoEarlierOpposite both 0
first_alone f e h = lists.not_in_nil h.0 h.1

second_not_alone : HasNoEarlierOpposite both 1 → ⊥
unfolding scaled
second_not_alone n = n inverting refl (identity_operator, (0, omega arith, refl), refl)

second_opposite : HaveOpposites both 1
unfolding scaled
second_opposite zero g l s = absurd (omega (arith, l))
second_opposite (suc zero) g l s = (identity_operator, (0, omega arith, refl), ap (λ (f : Operator). scaled (negsuc 0) f.w) (same_Some inverting g s))
second_opposite (suc (suc k)) g l s = absurd (let m = slice_get_within both (suc (suc k)) g s in omega (arith, m))

first_without : HaveOpposites both 0 → ⊥
first_without h = let r = h 0 identity_operator (omega arith) refl in lists.not_in_nil r.0 r.1
