-- Three texts are one index, one box or one grid at most, and one text one seed, and whether they are is decided.
use Rattle.std.proofs.Common.{◌≡◌, ◌⊎◌, ◌^◌, List, ℕ, ℤ, inl, inr, ⊎_elim, refl, arith}
use Rattle.std.proofs.lemmas.Bool.{cases_lt}
use Rattle.lattice_algebra.specs.Operator.{AreWithin}
use Rattle.lattice_algebra.proofs.Numbers.{within_or_not}
use Rattle.phase_rules.specs.declared.TheConstants.{MAX_INDEX}
use Rattle.phase_rules.specs.Rows.{Row}
use Rattle.reflections.specs.declared.TheConstants.{MAX_HALF, MAX_PLACES}
use Rattle.reflections.specs.Boxes.{Box, IsBoxInRange, places}
use Rattle.grid_tags.specs.declared.TheConstants.{MAX_SIDE, MAX_POINTS}
use Rattle.grid_tags.specs.Grids.{Grid, IsSide, IsGridInRange, points}
use Rattle.triplet_text.specs.Integers.{IsNatural, IsInteger}
use Rattle.triplet_text.proofs.IntegerLaw.{one_natural, natural_or_none, one_integer, integer_or_none}
use Rattle.basis_change.proofs.Decided.{OrNot, both, at_most, likewise}
use Rattle.data_lines.specs.declared.number.TheConstants.{NUMBER_DIGITS}
use Rattle.sg_cli.specs.declared.TheConstants.{SEED_DIGITS}
use Rattle.sg_cli.specs.Words.{AreIndexTexts, AreBoxTexts, AreGridTexts, IsSeedText}
use Rattle.sg_cli.proofs.ThreeWords.{SaidOrNone}
use Rattle.sg_cli.proofs.ThreeNumbers.{one_of_numbers, numbers_or_none}

-- ---- an index

abbrev row_numbers : Row → ℤ × ℤ × ℤ
row_numbers h = (h.h, h.k, h.l)

abbrev row_of : ℤ × ℤ × ℤ → Row
row_of n = record { h = n.0; k = n.1; l = n.2 }

abbrev IsIndexInRange : Row → Type 0
IsIndexInRange h = AreWithin MAX_INDEX h.h h.k h.l

pub one_index : (x y z : List ℕ) (g h : Row) → AreIndexTexts x y z g → AreIndexTexts x y z h → g ≡ h
one_index = one_of_numbers (IsInteger NUMBER_DIGITS) row_numbers IsIndexInRange (one_integer NUMBER_DIGITS) row_of (λ h. refl)

pub index_or_none : (x y z : List ℕ) → SaidOrNone AreIndexTexts x y z
index_or_none = numbers_or_none (IsInteger NUMBER_DIGITS) row_numbers IsIndexInRange (one_integer NUMBER_DIGITS) row_of (λ h. refl) (λ n. refl) (integer_or_none NUMBER_DIGITS) (λ h. within_or_not MAX_INDEX h.h h.k h.l)

-- ---- a box

abbrev box_numbers : Box → ℕ × ℕ × ℕ
box_numbers b = (b.h, b.k, b.l)

abbrev box_of : ℕ × ℕ × ℕ → Box
box_of n = record { h = n.0; k = n.1; l = n.2 }

box_in_range_or_not : (b : Box) → OrNot (IsBoxInRange b)
box_in_range_or_not b =
    likewise (both (both (at_most b.h MAX_HALF) (at_most b.k MAX_HALF)) (both (at_most b.l MAX_HALF) (at_most (places b) MAX_PLACES)))
    (λ w. record { h = w.0.0; k = w.0.1; l = w.1.0; few = w.1.1 }) (λ r. ((r.h, r.k), (r.l, r.few)))

pub one_box : (x y z : List ℕ) (a b : Box) → AreBoxTexts x y z a → AreBoxTexts x y z b → a ≡ b
one_box = one_of_numbers (IsNatural NUMBER_DIGITS) box_numbers IsBoxInRange (one_natural NUMBER_DIGITS) box_of (λ b. refl)

pub box_or_none : (x y z : List ℕ) → SaidOrNone AreBoxTexts x y z
box_or_none = numbers_or_none (IsNatural NUMBER_DIGITS) box_numbers IsBoxInRange (one_natural NUMBER_DIGITS) box_of (λ b. refl) (λ n. refl) (natural_or_none NUMBER_DIGITS) box_in_range_or_not

-- ---- a grid

abbrev grid_numbers : Grid → ℕ × ℕ × ℕ
grid_numbers s = (s.a, s.b, s.c)

abbrev grid_of : ℕ × ℕ × ℕ → Grid
grid_of n = record { a = n.0; b = n.1; c = n.2 }

side_or_not : (n : ℕ) → OrNot (IsSide n)
side_or_not n = both (at_most 1 n) (at_most n MAX_SIDE)

grid_in_range_or_not : (s : Grid) → OrNot (IsGridInRange s)
grid_in_range_or_not s =
    likewise (both (both (side_or_not s.a) (side_or_not s.b)) (both (side_or_not s.c) (at_most (points s) MAX_POINTS)))
    (λ w. record { a = w.0.0; b = w.0.1; c = w.1.0; few = w.1.1 }) (λ r. ((r.a, r.b), (r.c, r.few)))

pub one_grid : (x y z : List ℕ) (a b : Grid) → AreGridTexts x y z a → AreGridTexts x y z b → a ≡ b
one_grid = one_of_numbers (IsNatural NUMBER_DIGITS) grid_numbers IsGridInRange (one_natural NUMBER_DIGITS) grid_of (λ s. refl)

pub grid_or_none : (x y z : List ℕ) → SaidOrNone AreGridTexts x y z
grid_or_none = numbers_or_none (IsNatural NUMBER_DIGITS) grid_numbers IsGridInRange (one_natural NUMBER_DIGITS) grid_of (λ s. refl) (λ n. refl) (natural_or_none NUMBER_DIGITS) grid_in_range_or_not

-- ---- a seed

pub one_seed : (text : List ℕ) (a b : ℕ) → IsSeedText text a → IsSeedText text b → a ≡ b
one_seed text a b p q = one_natural SEED_DIGITS text a b p.number q.number

pub seed_or_none : (text : List ℕ) → ((seed : ℕ) × IsSeedText text seed) ⊎ ((seed : ℕ) → IsSeedText text seed → ⊥)
seed_or_none text =
    ⊎_elim
    (λ n. ⊎_elim
    (λ few. inl (n.0, record { number = n.1; in_range = few }))
    (λ many. inr (λ seed h. let same = one_natural SEED_DIGITS text seed n.0 h.number n.1 in let few = h.in_range in omega (arith, same, few, many)))
    (cases_lt n.0 (2 ^ 32)))
    (λ none. inr (λ seed h. none seed h.number))
    (natural_or_none SEED_DIGITS text)
