-- Whole numbers of at most `NUMBER_DIGITS` digits.
use Rattle.std.proofs.Common.{◌≡◌, ◌^◌, ◌<◌, ℕ, ℤ, List, unsigned_abs, w32, w64, FitsSigned, to_z, of_z, ap, sym, subst, ◌∙◌, arith}
use Rattle.std.proofs.lemmas.Int.{ints, to_z-of_z}
use Rattle.triplet_text.specs.Integers.{IsInteger}
use Rattle.triplet_text.proofs.IntegerLaw.{integer_small}
use Rattle.data_lines.specs.declared.number.TheConstants.{NUMBER_DIGITS}

module _ (text : List ℕ) (n : ℤ) (is : IsInteger NUMBER_DIGITS text n) where
  small : unsigned_abs n < 10 ^ 9
  small = integer_small NUMBER_DIGITS is

  wide : to_z w64 (of_z w64 n) ≡ n
  wide = let l = small in omega (arith, ints, l)

  pub narrow : FitsSigned w32 n
  narrow = let l = small in omega (arith, ints, l)

  pub number_fits : FitsSigned w32 (to_z w64 (of_z w64 n))
  number_fits = subst (FitsSigned w32) (sym wide) narrow

  pub number_kept : IsInteger NUMBER_DIGITS text (to_z w32 (of_z w32 (to_z w64 (of_z w64 n))))
  number_kept = subst (IsInteger NUMBER_DIGITS text) (sym (ap (λ z. to_z w32 (of_z w32 z)) wide ∙ to_z-of_z w32 n narrow)) is
