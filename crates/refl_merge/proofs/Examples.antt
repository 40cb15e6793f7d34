-- The definitions on examples.
use Rattle.std.proofs.Common.{◌≡◌, ℤ, pos, negsuc, List, [], ◌∷◌, ◌++◌, length, true, false, refl, codes}
use Rattle.std.specs.Fmt.{digits}
use Rattle.lattice_algebra.specs.Operator.{identity_operator}
use Rattle.phase_rules.specs.declared.pairs.Pairs.TheVariants.{Friedel, Apart}
use Rattle.phase_rules.specs.Rows.{Row, ◌·ʳ◌, neg_row}
use Rattle.refl_merge.specs.declared.measured.Measured.{Measured}
use Rattle.refl_merge.specs.declared.merged.MergedLine.{MergedLine}
use Rattle.refl_merge.specs.Keys.{IsAbove}
use Rattle.refl_merge.specs.Merged.{same_reflection, are_equivalent, lines_of_class, sum_of_values}
use Rattle.refl_merge.specs.Texts.{class_text, observed_text, merged_text}

abbrev row : ℤ → ℤ → ℤ → Row
row h k l = record { h = h; k = k; l = l }

abbrev measured : Row → ℤ → Measured
measured h v = record { index = h; value = v }

-- ---- the order

above_by_the_first : IsAbove (row (pos 1) (negsuc 8) (pos 0)) (row (pos 0) (pos 5) (pos 5))
above_by_the_first = refl

above_by_the_second : IsAbove (row (pos 1) (pos 0) (negsuc 3)) (row (pos 1) (negsuc 0) (pos 7))
above_by_the_second = refl

above_by_the_third : IsAbove (row (pos 1) (pos 2) (pos 3)) (row (pos 1) (pos 2) (negsuc 3))
above_by_the_third = refl

-- ---- one class

abbrev lines : List Measured
lines = measured (row (pos 1) (pos 0) (pos 0)) (pos 3) ∷ measured (row (negsuc 0) (pos 0) (pos 0)) (pos 4) ∷ []

opposite_by_friedel : same_reflection Friedel (row (pos 1) (pos 0) (pos 0)) (row (negsuc 0) (pos 0) (pos 0)) ≡ true
unfolding neg_row
opposite_by_friedel = refl

opposite_apart : same_reflection Apart (row (pos 1) (pos 0) (pos 0)) (row (negsuc 0) (pos 0) (pos 0)) ≡ false
opposite_apart = refl

both_by_friedel : length (lines_of_class Friedel (identity_operator ∷ []) (row (pos 1) (pos 0) (pos 0)) lines) ≡ 2
unfolding are_equivalent ◌·ʳ◌ neg_row
both_by_friedel = refl

one_apart : lines_of_class Apart (identity_operator ∷ []) (row (pos 1) (pos 0) (pos 0)) lines ≡ measured (row (pos 1) (pos 0) (pos 0)) (pos 3) ∷ []
unfolding are_equivalent ◌·ʳ◌
one_apart = refl

sum_below_zero : sum_of_values (measured (row (pos 0) (pos 1) (pos 0)) (pos 7) ∷ measured (row (pos 0) (negsuc 0) (pos 0)) (negsuc 11) ∷ []) ≡ negsuc 4
sum_below_zero = refl

-- ---- the text

abbrev shown : MergedLine
shown = record { key = pos 0 ∷ pos 1 ∷ pos 0 ∷ []; count = 2; sum = pos 5; absent = true; observed = true }

class_line : class_text shown ≡ codes "0 1 0 2 5 absent" ++ 10 ∷ []
unfolding digits
class_line = refl

observed_line : observed_text shown ≡ codes "0 1 0" ++ 10 ∷ []
unfolding digits
observed_line = refl

whole_text : merged_text (shown ∷ []) ≡ codes "0 1 0 2 5 absent" ++ 10 ∷ codes "observed absences 1" ++ 10 ∷ codes "0 1 0" ++ 10 ∷ []
unfolding digits
whole_text = refl

no_classes : merged_text [] ≡ codes "observed absences 0" ++ 10 ∷ []
unfolding digits
no_classes = refl
