-- Worked examples: the definitions on literals, in parts of a cell of 24.
use Rattle.std.proofs.Common.{◌≡◌, ◌≢◌, ◌∷◌, [], ℕ, zero, suc, ◌<◌, ◌≤◌, ◌⊎◌, inl, inr, ⊎_elim, List, ℤ, pos, negsuc, Contains, ap, ◌∙◌, refl, subst, arith}
use Rattle.std.proofs.lemmas.Int.{ints}
use Rattle.std.proofs.lemmas.List.Kept.{AllPairs-cons}
use Rattle.std.proofs.lemmas.Map.Made.{IsDistinct-from_AllPairs}
use Rattle.std.proofs.lemmas.List.Elements.{All-nil, All-push, All-from_recursion}
use Rattle.lattice_algebra.specs.Matrix.{Matrix, Column, matrix_of, det, adjugate, scaled, inverse_matrix, identity, origin, ◌·◌, ◌·ᶜ◌, ◌+ᶜ◌, ◌+ᵐ◌, neg_column, times, IsUnimodular}
use Rattle.lattice_algebra.specs.Operator.{Operator, AreParts, modulo, product, inverse, IsInverse, IsOperator, identity_operator}
use Rattle.lattice_algebra.specs.Map.{Map, ◌∘◌, AreInverse, undo, operator_of, IsShift}
use Rattle.lattice_algebra.specs.Point.{Point, ◌≈◌, image, HasCoordinatesWithin}
use Rattle.lattice_algebra.specs.Powers.{power, sum_of_powers, IsOrder}
use Rattle.lattice_algebra.proofs.Operators.{operators}
use Rattle.finite_groups.specs.Groups.{Group}
use Rattle.finite_groups.specs.Words.{IsLetter, value, Span, Closes, IsClosedList}
use Rattle.finite_groups.proofs.Members as members
use Rattle.finite_groups.proofs.Closing.{spans, too_many, span_one, span_gen}

abbrev pub column : ℤ → ℤ → ℤ → Column
column x y z = record { x = x; y = y; z = z }

-- -1
abbrev pub minus : ℤ
minus = negsuc 0

-- -x,-y,-z
abbrev pub inversion : Matrix
inversion = matrix_of (minus ∷ pos 0 ∷ pos 0 ∷ pos 0 ∷ minus ∷ pos 0 ∷ pos 0 ∷ pos 0 ∷ minus ∷ [])

-- -y,x-y,z
abbrev pub threefold : Matrix
threefold = matrix_of (pos 0 ∷ minus ∷ pos 0 ∷ pos 1 ∷ minus ∷ pos 0 ∷ pos 0 ∷ pos 0 ∷ pos 1 ∷ [])

-- -x+y,-x,z
abbrev pub threefold_back : Matrix
threefold_back = matrix_of (minus ∷ pos 1 ∷ pos 0 ∷ minus ∷ pos 0 ∷ pos 0 ∷ pos 0 ∷ pos 0 ∷ pos 1 ∷ [])

-- -y,x,z
abbrev fourfold : Matrix
fourfold = matrix_of (pos 0 ∷ minus ∷ pos 0 ∷ pos 1 ∷ pos 0 ∷ pos 0 ∷ pos 0 ∷ pos 0 ∷ pos 1 ∷ [])

-- y,-x,z
abbrev fourfold_back : Matrix
fourfold_back = matrix_of (pos 0 ∷ pos 1 ∷ pos 0 ∷ minus ∷ pos 0 ∷ pos 0 ∷ pos 0 ∷ pos 0 ∷ pos 1 ∷ [])

-- the inverse of -y,x-y,z is -x+y,-x,z
threefold_is_unimodular : IsUnimodular threefold
unfolding ◌·◌
threefold_is_unimodular = (threefold_back, refl, refl)

the_inverse_matrix : inverse_matrix threefold ≡ threefold_back
unfolding det adjugate scaled
the_inverse_matrix = refl

-- -1 and 25 parts are 23 and 1, modulo the cell
parts_in_the_cell : modulo 24 (column minus (pos 25) (pos 24)) ≡ column (pos 23) (pos 1) (pos 0)
unfolding modulo
parts_in_the_cell = refl

-- the order of the factors: -y,x,z after x+1/24,y,z is -y,x+1/24,z, and before it -y+1/24,x,z
abbrev shift : Operator
shift = record { w = identity; t = column (pos 1) (pos 0) (pos 0) }

abbrev turn : Operator
turn = record { w = fourfold; t = origin }

turn_after : product 24 turn shift ≡ record { w = fourfold; t = column (pos 0) (pos 1) (pos 0) }
unfolding product modulo ◌·◌ ◌·ᶜ◌ ◌+ᶜ◌
turn_after = refl

turn_before : product 24 shift turn ≡ record { w = fourfold; t = column (pos 1) (pos 0) (pos 0) }
unfolding product modulo ◌·◌ ◌·ᶜ◌ ◌+ᶜ◌
turn_before = refl

-- the inverse of -y+1/4,x,z+1/4 is y,-x+1/4,z+3/4
abbrev screw : Operator
screw = record { w = fourfold; t = column (pos 6) (pos 0) (pos 6) }

abbrev screw_back : ℤ → Operator
screw_back y = record { w = fourfold_back; t = column (pos 0) y (pos 18) }

screw_inverse : IsInverse 24 screw (screw_back (pos 6))
unfolding modulo ◌·◌ ◌·ᶜ◌ neg_column
screw_inverse = record { left = refl; right = refl; translation = refl }

same_inverse : inverse 24 screw ≡ screw_back (pos 6)
unfolding inverse modulo det adjugate scaled ◌·ᶜ◌ neg_column
same_inverse = refl

-- and not y,-x+3/4,z+3/4
no_other_inverse : IsInverse 24 screw (screw_back (pos 18)) → ⊥
unfolding modulo ◌·ᶜ◌ neg_column
no_other_inverse i = let e : pos 18 ≡ pos 6 = ap (λ (c : Column). c.y) i.translation in omega (arith, ints)

-- maps keep their whole shifts: the glide plane x,-y+1/2,z+1/2, twice, is the translation by a cell along z
abbrev glide : ℤ → Map
glide z = record { w = matrix_of (pos 1 ∷ pos 0 ∷ pos 0 ∷ pos 0 ∷ minus ∷ pos 0 ∷ pos 0 ∷ pos 0 ∷ pos 1 ∷ []); s = column (pos 0) (pos 12) z }

glide_twice : glide (pos 12) ∘ glide (pos 12) ≡ record { w = identity; s = column (pos 0) (pos 0) (pos 24) }
unfolding ◌∘◌ ◌·◌ ◌·ᶜ◌ ◌+ᶜ◌
glide_twice = refl

-- so it is undone by x,-y+1/2,z-1/2
glide_undone : AreInverse (glide (pos 12)) (glide (negsuc 11))
unfolding ◌∘◌ ◌·◌ ◌·ᶜ◌ ◌+ᶜ◌
glide_undone = record { left = refl; right = refl }

undoing_glide : undo (glide (pos 12)) ≡ glide (negsuc 11)
unfolding undo det adjugate scaled ◌·ᶜ◌ neg_column
undoing_glide = refl

-- and not by itself
glide_not_by_itself : AreInverse (glide (pos 12)) (glide (pos 12)) → ⊥
unfolding ◌∘◌ ◌·ᶜ◌ ◌+ᶜ◌
glide_not_by_itself i = let e : pos 24 ≡ pos 0 = ap (λ (g : Map). g.s.z) i.left in omega (arith, ints)

-- the order of two maps: -y,x,z after x+1,y,z is -y,x+1,z
maps_in_order : record { w = fourfold; s = origin } ∘ record { w = identity; s = column (pos 24) (pos 0) (pos 0) } ≡ record { w = fourfold; s = column (pos 0) (pos 24) (pos 0) }
unfolding ◌∘◌ ◌·◌ ◌·ᶜ◌ ◌+ᶜ◌
maps_in_order = refl

-- -x-1/24,-y,-z+2 is the operator -x+23/24,-y,-z, a cell back along x and two on along z
abbrev moved_inversion : Map
moved_inversion = record { w = inversion; s = column minus (pos 0) (pos 48) }

its_operator : operator_of 24 moved_inversion ≡ record { w = inversion; t = column (pos 23) (pos 0) (pos 0) }
unfolding operator_of modulo
its_operator = refl

its_shift : IsShift 24 moved_inversion (column minus (pos 0) (pos 2))
unfolding modulo ◌+ᶜ◌ times
its_shift = refl

not_its_shift : IsShift 24 moved_inversion (column (pos 1) (pos 0) (pos 2)) → ⊥
unfolding modulo ◌+ᶜ◌ times
not_its_shift e = let x : minus ≡ pos 47 = ap (λ (c : Column). c.x) e in omega (arith, ints)

-- y,x,-z with the shift 1,0,-1 takes 1/2,1/3,0 to 4/3,1/2,-1
abbrev pub point : ℤ → ℤ → ℤ → ℤ → Point
point x y z d = record { n = column x y z; d = d }

abbrev two : Map
two = record { w = matrix_of (pos 0 ∷ pos 1 ∷ pos 0 ∷ pos 1 ∷ pos 0 ∷ pos 0 ∷ pos 0 ∷ pos 0 ∷ minus ∷ []); s = column (pos 24) (pos 0) (negsuc 23) }

an_image : image 24 two (point (pos 3) (pos 2) (pos 0) (pos 6)) ≈ point (pos 8) (pos 3) (negsuc 5) (pos 6)
unfolding image times ◌·ᶜ◌ ◌+ᶜ◌
an_image = refl

-- and not to 1/3,1/2,-1
not_an_image : image 24 two (point (pos 3) (pos 2) (pos 0) (pos 6)) ≈ point (pos 2) (pos 3) (negsuc 5) (pos 6) → ⊥
unfolding image times ◌·ᶜ◌ ◌+ᶜ◌
not_an_image e = let x : pos 1152 ≡ pos 288 = ap (λ (c : Column). c.x) e in omega (arith, ints)

-- 3/2 is within 2 and not within 1
within_two : HasCoordinatesWithin 2 (point (pos 3) (negsuc 2) (pos 0) (pos 2))
within_two = record { first = omega arith; second = omega arith; third = omega arith }

not_within_one : HasCoordinatesWithin 1 (point (pos 3) (negsuc 2) (pos 0) (pos 2)) → ⊥
not_within_one h = omega (arith, h.first)

-- the powers of -y,x-y,z: its order is 3, and their sum is three times the projection on z
squared : power threefold 2 ≡ threefold_back
unfolding power ◌·◌
squared = refl

its_sum : sum_of_powers threefold 3 ≡ matrix_of (pos 0 ∷ pos 0 ∷ pos 0 ∷ pos 0 ∷ pos 0 ∷ pos 0 ∷ pos 0 ∷ pos 0 ∷ pos 3 ∷ [])
unfolding sum_of_powers power ◌·◌ ◌+ᵐ◌
its_sum = refl

pub its_order : IsOrder threefold 3
unfolding power ◌·◌
its_order = record { positive = omega arith; returns = refl; least = least }
  where
    least : (j : ℕ) → 0 < j → power threefold j ≡ identity → 3 ≤ j
    least zero p e = absurd (omega arith)
    least (suc zero) p e = absurd (let x : pos 0 ≡ pos 1 = ap (λ (m : Matrix). m.xx) e in omega (arith, ints))
    least (suc (suc zero)) p e = absurd (let x : minus ≡ pos 1 = ap (λ (m : Matrix). m.xx) e in omega (arith, ints))
    least (suc (suc (suc j))) p e = omega arith

-- and not 6, though the sixth power is the identity
not_its_order : IsOrder threefold 6 → ⊥
unfolding power ◌·◌
not_its_order o = let e : 6 ≤ 3 = o.least 3 (omega arith) refl in omega arith

-- ---- words in operators

listed : (f g : Operator) → Contains (f ∷ []) g → f ≡ g
listed f g c = ⊎_elim (λ e. e) (λ n. members.not_in_nil g n) (members.Contains-cases g f [] c)

pub some_parts : 0 < 24
some_parts = omega arith

abbrev pub F : Group
F = operators 24 some_parts

-- the word of -y,x,z and then x+1/24,y,z has the value -y,x+1/24,z: the left letter is done last
a_value : value F (turn ∷ shift ∷ []) ≡ record { w = fourfold; t = column (pos 0) (pos 1) (pos 0) }
unfolding product modulo ◌·◌ ◌·ᶜ◌ ◌+ᶜ◌
a_value = refl

empty_word : value F [] ≡ identity_operator
empty_word = refl

parts_of : (x y z : ℕ) → x < 24 → y < 24 → z < 24 → AreParts 24 (column (pos x) (pos y) (pos z))
parts_of x y z p q r = record { x = (omega (arith, ints), omega (arith, ints)); y = (omega (arith, ints), omega (arith, ints)); z = (omega (arith, ints), omega (arith, ints)) }

fourfold_is_unimodular : IsUnimodular fourfold_back
unfolding ◌·◌
fourfold_is_unimodular = (fourfold, refl, refl)

-- the inverse of a listed operator is a letter
a_letter : IsLetter F (screw ∷ []) (screw_back (pos 6))
unfolding product modulo ◌·◌ ◌·ᶜ◌ ◌+ᶜ◌
a_letter = inr (screw, (0, omega arith, refl), record { unimodular = fourfold_is_unimodular; in_cell = parts_of 0 6 18 (omega arith) (omega arith) (omega arith) }, refl)

-- and its square is in the span, but is no letter
abbrev squared_screw : Operator
squared_screw = record { w = matrix_of (minus ∷ pos 0 ∷ pos 0 ∷ pos 0 ∷ minus ∷ pos 0 ∷ pos 0 ∷ pos 0 ∷ pos 1 ∷ []); t = column (pos 6) (pos 6) (pos 12) }

in_span : Span F (screw ∷ []) squared_screw
unfolding product modulo ◌·◌ ◌·ᶜ◌ ◌+ᶜ◌
in_span = (screw ∷ screw ∷ [], All-push (IsLetter F (screw ∷ [])) (screw ∷ []) screw (All-push (IsLetter F (screw ∷ [])) [] screw (All-nil _) (inl (0, omega arith, refl))) (inl (0, omega arith, refl)), refl)

no_letter : IsLetter F (screw ∷ []) squared_screw → ⊥
unfolding product modulo ◌·◌ ◌·ᶜ◌ ◌+ᶜ◌
no_letter (inl c) = let e : pos 0 ≡ minus = ap (λ (f : Operator). f.w.xx) (listed screw squared_screw c) in omega (arith, ints)
no_letter (inr l) = let e : pos 18 ≡ pos 0 = ap (λ (f : Operator). f.t.z) (ap (λ f. product 24 f squared_screw) (listed screw l.0 l.1) ∙ l.3) in omega (arith, ints)

-- x,y,z and -x,-y,-z are a closed list
abbrev pub inverting : Operator
inverting = record { w = inversion; t = origin }

abbrev pub both : List Operator
both = identity_operator ∷ inverting ∷ []

pub inverting_is_operator : IsOperator 24 inverting
unfolding ◌·◌
inverting_is_operator = record { unimodular = (inversion, refl, refl); in_cell = parts_of 0 0 0 (omega arith) (omega arith) (omega arith) }

pub in_both : (f : Operator) → Contains both f → (identity_operator ≡ f) ⊎ (inverting ≡ f)
in_both f c = ⊎_elim (λ e. inl e) (λ d. inr (listed inverting f d)) (members.Contains-cases f identity_operator (inverting ∷ []) c)

pub closed_list : IsClosedList F both
unfolding product modulo ◌·◌ ◌·ᶜ◌ ◌+ᶜ◌
closed_list = record {
  distinct = IsDistinct-from_AllPairs F.same both (AllPairs-cons (λ f g. f ≢ g) identity_operator (inverting ∷ []) (All-from_recursion (λ g. identity_operator ≢ g) (inverting ∷ []) (apart, tt)) (λ i j d l m. absurd (omega arith)));
  valid = All-from_recursion (IsOperator 24) both (F.one_in, (inverting_is_operator, tt));
  has_one = (0, omega arith, refl);
  closed = λ f g p q. ⊎_elim
      (λ a. ⊎_elim (λ b. at identity_operator identity_operator f g a b (0, omega arith, refl)) (λ b. at identity_operator inverting f g a b (1, omega arith, refl)) (in_both g q))
      (λ a. ⊎_elim (λ b. at inverting identity_operator f g a b (1, omega arith, refl)) (λ b. at inverting inverting f g a b (0, omega arith, refl)) (in_both g q))
      (in_both f p);
}
  where
    apart : identity_operator ≢ inverting
    apart e = let x : pos 1 ≡ minus = ap (λ (f : Operator). f.w.xx) e in omega (arith, ints)

    at : (f g h k : Operator) → f ≡ h → g ≡ k → Contains both (product 24 f g) → Contains both (product 24 h k)
    at f g h k p q c = subst (λ v. Contains both (product 24 v k)) p (subst (λ v. Contains both (product 24 f v)) q c)

-- and -y,x-y,z alone is none
not_closed : IsClosedList F (record { w = threefold; t = origin } ∷ []) → ⊥
not_closed c = let e : pos 0 ≡ pos 1 = ap (λ (f : Operator). f.w.xx) (listed _ identity_operator c.has_one) in omega (arith, ints)

-- -x,-y,-z closes in two operators, and not in one
abbrev Any : Operator → Type 0
Any f = Unit {0}

closes_in_two : Closes F Any 2 (inverting ∷ [])
closes_in_two = (both, omega arith, λ f s. spans F (inverting ∷ []) both (All-from_recursion (IsOperator 24) (inverting ∷ []) (inverting_is_operator, tt)) closed_list.distinct closed_list.valid closed_list.has_one step f s, λ f s. tt)
  where
    step : (f g : Operator) → Contains both f → Contains (inverting ∷ []) g → Contains both (product 24 f g)
    step f g p q = closed_list.closed f g p (subst (Contains both) (listed inverting g q) (1, omega arith, refl))

closes_in_one : Closes F Any 1 (inverting ∷ []) → ⊥
closes_in_one = too_many F Any 1 (inverting ∷ []) both closed_list.distinct (All-from_recursion (Span F (inverting ∷ [])) both (span_one F (inverting ∷ []), (by_letter, tt))) (omega arith)
  where
    by_letter : Span F (inverting ∷ []) inverting
    by_letter = subst (Span F (inverting ∷ [])) (F.left inverting inverting_is_operator) (span_gen F (inverting ∷ []) identity_operator inverting (span_one F (inverting ∷ [])) (0, omega arith, refl))
