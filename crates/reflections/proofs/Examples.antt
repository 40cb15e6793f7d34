-- Worked examples: the definitions on literals, most for P-1 with Friedel's law in the box 1 0 0; nothing cites these.
use Rattle.std.proofs.Common.{◌≡◌, ◌≢◌, ◌≤◌, ◌⊎◌, ℕ, zero, suc, ℤ, pos, negsuc, ◌+ℤ◌, ◌*ℤ◌, ◌<ℤ◌, neg_ℤ, unsigned_abs, Bool, true, false, List, [], ◌∷◌, inl, inr, ⊎_elim, Contains, ap, sym, ◌∙◌, subst, refl, arith}
use Rattle.std.specs.Int.{int_rem_euclid}
use Rattle.std.specs.List.Sorted.{IsStrictlySortedBy}
use Rattle.std.proofs.lemmas.Bool.{false≢true}
use Rattle.std.proofs.lemmas.Int.{ints}
use Rattle.std.proofs.lemmas.List.Kept.{AllPairs-cons}
use Rattle.std.proofs.lemmas.List.Elements.{All-nil, All-from_recursion}
use Rattle.finite_groups.proofs.Members as lists
use Rattle.lattice_algebra.specs.Operator.{Operator, identity_operator}
use Rattle.lattice_algebra.proofs.Examples.{inverting, both, in_both, inverting_is_operator, closed_list}
use Rattle.exact_ops.specs.declared.TheConstants.{UNIT}
use Rattle.exact_ops.specs.Narrow.{IsNarrow}
use Rattle.group_closure.proofs.CellOperators.{cell_operators}
use Rattle.phase_rules.specs.declared.pairs.Pairs.TheVariants.{Friedel}
use Rattle.phase_rules.specs.declared.parts.Mark.{Mark}
use Rattle.phase_rules.specs.declared.parts.Mark.TheVariants.{Free, Phase}
use Rattle.phase_rules.specs.Rows.{Row, ◌·ʳ◌, ◌·ʳᶜ◌, neg_row}
use Rattle.phase_rules.specs.Equivalent.{IsSameReflection, AreEquivalent, IsClass}
use Rattle.phase_rules.specs.Marks.{phase_shift, IsAbsent, IsMark}
use Rattle.tag_walks.specs.Regions.{Region, IsListed, IsTagWalk}
use Rattle.reflections.specs.declared.line.ClassLine.{ClassLine}
use Rattle.reflections.specs.Boxes.{Box, IsInBox, IsBoxInRange, ComesBefore, place_of, places, IsNoLarger}
use Rattle.reflections.specs.ClassLists.{IsLine, class_region, class_lines, IsClassList, IsOnlyLineOf}
use Rattle.reflections.specs.Walks.{Walk, IsTagged, IsWalk}
use Rattle.reflections.proofs.ClassLists.{one_size as one_length}

abbrev o : ℤ
o = pos 0

abbrev sizes : ℕ → ℕ → ℕ → Box
sizes h k l = record { h = h; k = k; l = l }

abbrev index : ℤ → ℤ → ℤ → Row
index h k l = record { h = h; k = k; l = l }

-- ---- boxes within the limits

greatest : IsBoxInRange (sizes 200 200 6)
greatest = record { h = omega arith; k = omega arith; l = omega arith; few = omega arith }

too_great : IsBoxInRange (sizes 201 0 0) → ⊥
too_great r = omega (arith, r.h)

-- no box has more indices within the limit than 24 63 168, with 2,097,151, and none fewer beyond it than 33 56 138, with 2,097,167
fullest : IsBoxInRange (sizes 24 63 168)
fullest = record { h = omega arith; k = omega arith; l = omega arith; few = omega arith }

too_many : IsBoxInRange (sizes 33 56 138) → ⊥
too_many r = omega (arith, r.few)

-- ---- the order of a box

first_place : place_of (sizes 1 2 3) (index (pos 1) (pos 2) (pos 3)) ≡ 0
unfolding place_of
first_place = refl

last_place : place_of (sizes 1 2 3) (index (negsuc 0) (negsuc 1) (negsuc 2)) ≡ 104
unfolding place_of
last_place = refl

as_many : places (sizes 1 2 3) ≡ 105
as_many = refl

in_box : IsInBox (sizes 1 2 3) (index (negsuc 0) (pos 2) (negsuc 2))
in_box = record { h = omega arith; k = omega arith; l = omega arith }

beyond_the_box : IsInBox (sizes 1 2 3) (index (negsuc 0) (negsuc 2) o) → ⊥
beyond_the_box p = omega (arith, p.k)

-- 0 2 -1 stands before 0 1 3, and not behind it
greater_first : ComesBefore (index o (pos 2) (negsuc 0)) (index o (pos 1) (pos 3))
greater_first = inr (refl, inl (omega (arith, ints)))

not_behind : ComesBefore (index o (pos 1) (pos 3)) (index o (pos 2) (negsuc 0)) → ⊥
not_behind (inl l) = omega (arith, ints)
not_behind (inr (e, inl l)) = omega (arith, ints)
not_behind (inr (e, inr r)) = let k : pos 1 ≡ pos 2 = r.0 in omega (arith, ints)

-- ---- the box 1 0 0

abbrev box : Box
box = sizes 1 0 0

abbrev along : ℤ → Row
along h = index h o o

inside : (h : ℤ) → unsigned_abs h ≤ 1 → IsInBox box (along h)
inside h l = record { h = l; k = omega arith; l = omega arith }

-- what holds of 1 0 0, 0 0 0 and -1 0 0 holds of each row of the box
each_row : (P : Row → Type 0) → P (along (pos 1)) → P (along o) → P (along (negsuc 0)) → (r : Row) → IsInBox box r → P r
each_row P a b c r i = subst P (λ h. record { h = r.h; k = none r.k i.k h; l = none r.l i.l h }) (by r.h i.h)
  where
    none : (x : ℤ) → unsigned_abs x ≤ 0 → o ≡ x
    none x l = omega (arith, ints, l)

    by : (x : ℤ) → unsigned_abs x ≤ 1 → P (along x)
    by (pos zero) l = b
    by (pos (suc zero)) l = a
    by (pos (suc (suc n))) l = absurd (omega (arith, l))
    by (negsuc zero) l = c
    by (negsuc (suc n)) l = absurd (omega (arith, l))

-- equivalent rows are of one size along h
one_size : (h g : Row) → AreEquivalent Friedel both h g → unsigned_abs g.h ≡ unsigned_abs h.h
unfolding ◌·ʳ◌ neg_row
one_size h g a = ⊎_elim (λ e. by identity_operator (subst (λ f. IsSameReflection Friedel (h ·ʳ f.w) g) (sym e) a.same) (plain h.h h.k h.l)) (λ e. by inverting (subst (λ f. IsSameReflection Friedel (h ·ʳ f.w) g) (sym e) a.same) (opposite h.h h.k h.l)) (in_both a.by a.member)
  where
    plain : (x y z : ℤ) → unsigned_abs (x *ℤ pos 1 +ℤ y *ℤ o +ℤ z *ℤ o) ≡ unsigned_abs x
    plain x y z = omega (arith, ints)

    opposite : (x y z : ℤ) → unsigned_abs (x *ℤ negsuc 0 +ℤ y *ℤ o +ℤ z *ℤ o) ≡ unsigned_abs x
    opposite x y z = omega (arith, ints)

    turned : (x : ℤ) → unsigned_abs (neg_ℤ x) ≡ unsigned_abs x
    turned x = omega (arith, ints)

    by : (f : Operator) → IsSameReflection Friedel (h ·ʳ f.w) g → unsigned_abs (h ·ʳ f.w).h ≡ unsigned_abs h.h → unsigned_abs g.h ≡ unsigned_abs h.h
    by f (inl e) s = ap (λ (r : Row). unsigned_abs r.h) e ∙ s
    by f (inr e) s = let d = ap (λ (r : Row). unsigned_abs r.h) e in d ∙ turned (h ·ʳ f.w).h ∙ s

-- 1 0 0 and -1 0 0 are equivalent, and 0 0 0 is not one with them
opposites : AreEquivalent Friedel both (along (pos 1)) (along (negsuc 0))
unfolding ◌·ʳ◌ neg_row
opposites = record { by = identity_operator; member = (0, omega arith, refl); same = inr refl }

itself : (h : ℤ) → AreEquivalent Friedel both (along h) (along h)
unfolding ◌·ʳ◌
itself h = record { by = identity_operator; member = (0, omega arith, refl); same = inl (λ i. record { h = as_it_is h i; k = nothing h i; l = nothing h i }) }
  where
    as_it_is : (x : ℤ) → x ≡ x *ℤ pos 1 +ℤ o *ℤ o +ℤ o *ℤ o
    as_it_is x = omega (arith, ints)

    nothing : (x : ℤ) → o ≡ x *ℤ o +ℤ o *ℤ pos 1 +ℤ o *ℤ o
    nothing x = omega (arith, ints)

apart : AreEquivalent Friedel both (along (pos 1)) (along o) → ⊥
apart a = omega (arith, one_size (along (pos 1)) (along o) a)

apart_back : AreEquivalent Friedel both (along o) (along (pos 1)) → ⊥
apart_back a = omega (arith, one_size (along o) (along (pos 1)) a)

-- ---- the class list: 1 0 0 and 0 0 0

abbrev region : Region
region = class_region Friedel both box

before : (x y : ℤ) → ComesBefore (along x) (along y) → y <ℤ x
before x y (inl l) = l
before x y (inr (e, inl l)) = absurd (omega (arith, ints))
before x y (inr (e, inr r)) = absurd (let l = r.1 in omega (arith, ints))

one_first : IsListed region (along (pos 1))
one_first = record { in_region = inside (pos 1) (omega arith); first = each_row (λ q. AreEquivalent Friedel both (along (pos 1)) q → ComesBefore q (along (pos 1)) → ⊥) (λ a l. let m = before (pos 1) (pos 1) l in omega (arith, ints)) (λ a l. let m = before o (pos 1) l in omega (arith, ints)) (λ a l. let m = before (negsuc 0) (pos 1) l in omega (arith, ints)) }

none_first : IsListed region (along o)
none_first = record { in_region = inside o (omega arith); first = each_row (λ q. AreEquivalent Friedel both (along o) q → ComesBefore q (along o) → ⊥) (λ a l. apart_back a) (λ a l. let m = before o o l in omega (arith, ints)) (λ a l. let m = before (negsuc 0) o l in omega (arith, ints)) }

not_first : IsListed region (along (negsuc 0)) → ⊥
unfolding ◌·ʳ◌ neg_row
not_first l = l.first (along (pos 1)) (inside (pos 1) (omega arith)) (record { by = identity_operator; member = (0, omega arith, refl); same = inr refl }) (inl (omega (arith, ints)))

-- no member shifts a phase, so no row is absent
present : (h : Row) → IsAbsent both h → ⊥
unfolding ◌·ʳᶜ◌
present h a = a.shifts (⊎_elim (λ e. subst (λ (f : Operator). phase_shift h f ≡ o) e (ap (λ x. int_rem_euclid x (pos UNIT)) (nothing h.h h.k h.l))) (λ e. subst (λ (f : Operator). phase_shift h f ≡ o) e (ap (λ x. int_rem_euclid x (pos UNIT)) (nothing h.h h.k h.l))) (in_both a.by a.member))
  where
    nothing : (x y z : ℤ) → x *ℤ o +ℤ y *ℤ o +ℤ z *ℤ o ≡ o
    nothing x y z = omega (arith, ints)

phase : (h : ℤ) → IsMark Friedel both (along h) (Phase 0)
unfolding ◌·ʳ◌ ◌·ʳᶜ◌ neg_row
phase h = record { friedel = refl; present = present (along h); by = inverting; member = (1, omega arith, refl); reverses = λ i. record { h = opposite h i; k = nothing h i; l = nothing h i }; phase = ap (λ x. int_rem_euclid x (pos UNIT)) (unshifted h) }
  where
    opposite : (x : ℤ) → x *ℤ negsuc 0 +ℤ o *ℤ o +ℤ o *ℤ o ≡ neg_ℤ x
    opposite x = omega (arith, ints)

    nothing : (x : ℤ) → x *ℤ o +ℤ o *ℤ negsuc 0 +ℤ o *ℤ o ≡ o
    nothing x = omega (arith, ints)

    unshifted : (x : ℤ) → x *ℤ o +ℤ o *ℤ o +ℤ o *ℤ o ≡ o
    unshifted x = omega (arith, ints)

-- the class of 1 0 0 is 1 0 0 and -1 0 0, and that of 0 0 0 itself alone
abbrev pair : List Row
pair = along (pos 1) ∷ along (negsuc 0) ∷ []

not_one : along (pos 1) ≡ along (negsuc 0) → ⊥
not_one e = let x : pos 1 ≡ negsuc 0 = ap (λ (r : Row). r.h) e in omega (arith, ints)

of_one : (g : Row) → AreEquivalent Friedel both (along (pos 1)) g → Contains pair g
unfolding ◌·ʳ◌ neg_row
of_one g a = ⊎_elim (λ e. by (subst (λ f. IsSameReflection Friedel (along (pos 1) ·ʳ f.w) g) (sym e) a.same)) (λ e. by' (subst (λ f. IsSameReflection Friedel (along (pos 1) ·ʳ f.w) g) (sym e) a.same)) (in_both a.by a.member)
  where
    here : along (pos 1) ≡ g → Contains pair g
    here e = subst (Contains pair) e (0, omega arith, refl)

    there : along (negsuc 0) ≡ g → Contains pair g
    there e = subst (Contains pair) e (1, omega arith, refl)

    by : (g ≡ along (pos 1)) ⊎ (g ≡ along (negsuc 0)) → Contains pair g
    by (inl e) = here (sym e)
    by (inr e) = there (sym e)

    by' : (g ≡ along (negsuc 0)) ⊎ (g ≡ along (pos 1)) → Contains pair g
    by' (inl e) = there (sym e)
    by' (inr e) = here (sym e)

class_of_one : IsClass Friedel both (along (pos 1)) pair
class_of_one = record {
  exactly = λ g. ((λ c. ⊎_elim (λ e. subst (AreEquivalent Friedel both (along (pos 1))) e (itself (pos 1))) (λ d. ⊎_elim (λ e. subst (AreEquivalent Friedel both (along (pos 1))) e opposites) (λ n. lists.not_in_nil g n) (lists.Contains-cases g (along (negsuc 0)) [] d)) (lists.Contains-cases g (along (pos 1)) (along (negsuc 0) ∷ []) c)), of_one g);
  once = AllPairs-cons (λ (a b : Row). a ≢ b) (along (pos 1)) (along (negsuc 0) ∷ []) (All-from_recursion (λ b. along (pos 1) ≢ b) (along (negsuc 0) ∷ []) (not_one, tt)) (λ i j d l m. absurd (omega arith));
}

of_none : (g : Row) → AreEquivalent Friedel both (along o) g → Contains (along o ∷ []) g
unfolding ◌·ʳ◌ neg_row
of_none g a = ⊎_elim (λ e. by (subst (λ f. IsSameReflection Friedel (along o ·ʳ f.w) g) (sym e) a.same)) (λ e. by (subst (λ f. IsSameReflection Friedel (along o ·ʳ f.w) g) (sym e) a.same)) (in_both a.by a.member)
  where
    by : (g ≡ along o) ⊎ (g ≡ along o) → Contains (along o ∷ []) g
    by (inl e) = subst (Contains (along o ∷ [])) (sym e) (0, omega arith, refl)
    by (inr e) = subst (Contains (along o ∷ [])) (sym e) (0, omega arith, refl)

class_of_none : IsClass Friedel both (along o) (along o ∷ [])
class_of_none = record {
  exactly = λ g. ((λ c. ⊎_elim (λ e. subst (AreEquivalent Friedel both (along o)) e (itself o)) (λ n. lists.not_in_nil g n) (lists.Contains-cases g (along o) [] c)), of_none g);
  once = λ i j d l m. absurd (omega arith);
}

abbrev line : ℤ → ℕ → ℕ → Mark → ClassLine
line h n fixers mark = record { index = along h; size = n; fixers = fixers; mark = mark }

line_of_one : IsLine Friedel both (line (pos 1) 2 1 (Phase 0))
unfolding ◌·ʳ◌
line_of_one = record { size = λ class c. one_length Friedel both (along (pos 1)) pair class class_of_one c; fixers = refl; mark = phase (pos 1) }

line_of_none : IsLine Friedel both (line o 1 2 (Phase 0))
unfolding ◌·ʳ◌
line_of_none = record { size = λ class c. one_length Friedel both (along o) (along o ∷ []) class class_of_none c; fixers = refl; mark = phase o }

not_its_size : IsLine Friedel both (line (pos 1) 1 1 (Phase 0)) → ⊥
not_its_size l = omega (arith, l.size pair class_of_one)

not_its_fixers : IsLine Friedel both (line (pos 1) 2 2 (Phase 0)) → ⊥
unfolding ◌·ʳ◌
not_its_fixers l = omega (arith, l.fixers)

not_free : IsLine Friedel both (line (pos 1) 2 1 Free) → ⊥
not_free l = l.mark.unrestricted 0 (phase (pos 1))

abbrev two_lines : List ClassLine
two_lines = line (pos 1) 2 1 (Phase 0) ∷ line o 1 2 (Phase 0) ∷ []

class_list : IsClassList Friedel both box two_lines
class_list = record {
  exactly = λ r. (
    (λ c. ⊎_elim (λ e. subst (IsListed region) e one_first) (λ d. ⊎_elim (λ e. subst (IsListed region) e none_first) (λ n. lists.not_in_nil r n) (lists.Contains-cases r (along o) [] d)) (lists.Contains-cases r (along (pos 1)) (along o ∷ []) c)),
    (λ l. each_row (λ r. IsListed region r → Contains (along (pos 1) ∷ along o ∷ []) r) (λ m. (0, omega arith, refl)) (λ m. (1, omega arith, refl)) (λ m. absurd (not_first m)) r l.in_region l),
  );
  lines = All-from_recursion (IsLine Friedel both) two_lines (line_of_one, (line_of_none, tt));
  ordered = AllPairs-cons (λ (a b : ClassLine). ComesBefore a.index b.index) (line (pos 1) 2 1 (Phase 0)) (line o 1 2 (Phase 0) ∷ []) (All-from_recursion (λ (b : ClassLine). ComesBefore (along (pos 1)) b.index) (line o 1 2 (Phase 0) ∷ []) (inl (omega (arith, ints)), tt)) (λ i j d l m. absurd (omega arith));
}

-- the list without its second line is none
no_class_list : IsClassList Friedel both box (line (pos 1) 2 1 (Phase 0) ∷ []) → ⊥
no_class_list l = ⊎_elim (λ e. by e) (λ n. lists.not_in_nil (along o) n) (lists.Contains-cases (along o) (along (pos 1)) [] ((l.exactly (along o)).1 none_first))
  where
    by : along (pos 1) ≡ along o → ⊥
    by e = let x : pos 1 ≡ o = ap (λ (r : Row). r.h) e in omega (arith, ints)

-- of both lines the first alone has an equivalent of -1 0 0
its_line : IsOnlyLineOf Friedel both box two_lines (along (negsuc 0)) (line (pos 1) 2 1 (Phase 0))
its_line = record {
  listed = (0, omega arith, refl);
  equivalent = opposites;
  only = λ other c a. ⊎_elim (λ e. sym e) (λ d. ⊎_elim (λ e. absurd (of_origin (subst (λ (l : ClassLine). AreEquivalent Friedel both l.index (along (negsuc 0))) (sym e) a))) (λ n. lists.not_in_nil other n) (lists.Contains-cases other (line o 1 2 (Phase 0)) [] d)) (lists.Contains-cases other (line (pos 1) 2 1 (Phase 0)) (line o 1 2 (Phase 0) ∷ []) c);
}
  where
    of_origin : AreEquivalent Friedel both (along o) (along (negsuc 0)) → ⊥
    of_origin a = omega (arith, one_size (along o) (along (negsuc 0)) a)

not_its_line : IsOnlyLineOf Friedel both box two_lines (along (negsuc 0)) (line o 1 2 (Phase 0)) → ⊥
not_its_line l = omega (arith, one_size (along o) (along (negsuc 0)) l.equivalent)

-- ---- walks

tagged : IsTagged box (true ∷ false ∷ true ∷ []) (along (negsuc 0))
unfolding place_of
tagged = refl

not_tagged : IsTagged box (true ∷ false ∷ true ∷ []) (along o) → ⊥
unfolding place_of
not_tagged t = false≢true t

-- before the first line no row has a tag
abbrev tags_of : List Bool → Walk
tags_of tags = record { size = box; pairs = Friedel; place = 0; tags = tags }

begun : IsTagWalk region (class_lines Friedel both box) 0 (false ∷ false ∷ false ∷ []) []
unfolding place_of
begun = record {
  tagged = λ r i. ((λ t. absurd (each_row (λ r. IsTagged box (false ∷ false ∷ false ∷ []) r → ⊥) false≢true false≢true false≢true r i t)), (λ t. lists.not_in_nil t.line t.member));
  passed = λ r i l. absurd (omega (arith, l));
  listed = All-nil _;
  before = All-nil _;
  lines = All-nil _;
  ordered = λ i j d l m. absurd (omega (arith, m));
}

walk : IsWalk both (tags_of (false ∷ false ∷ false ∷ [])) []
unfolding IsStrictlySortedBy
walk = record {
  group = record {
    first = refl;
    distinct = AllPairs-cons (λ f g. f ≢ g) identity_operator (inverting ∷ []) (All-from_recursion (λ g. identity_operator ≢ g) (inverting ∷ []) (apart_members, tt)) (λ i j d l m. absurd (omega arith));
    closed = closed_list.closed;
    sorted = (tt, tt);
    narrow = All-from_recursion IsNarrow both (record { is_operator = cell_operators.one_in; within_two = omega arith }, (record { is_operator = inverting_is_operator; within_two = omega arith }, tt));
    within = omega arith;
  };
  tags = begun;
}
  where
    apart_members : identity_operator ≢ inverting
    apart_members e = let x : pos 1 ≡ negsuc 0 = ap (λ (f : Operator). f.w.xx) e in omega (arith, ints)

not_begun : IsWalk both (tags_of (true ∷ false ∷ false ∷ [])) [] → ⊥
unfolding place_of
not_begun w = let t = (w.tags.tagged (along (pos 1)) (inside (pos 1) (omega arith))).0 refl in lists.not_in_nil t.line t.member

-- ---- boxes of other sizes

no_larger : IsNoLarger (record { h = 1; k = 2; l = 0 }) (record { h = 1; k = 3; l = 0 })
no_larger = record { h = omega arith; k = omega arith; l = omega arith }

larger : IsNoLarger (record { h = 1; k = 3; l = 0 }) (record { h = 2; k = 2; l = 0 }) → ⊥
larger n = let k = n.k in omega (arith, k)
