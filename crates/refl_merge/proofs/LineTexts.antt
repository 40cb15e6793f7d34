-- What a measured line writes: a value at most, and whether it writes one is decided.
use Rattle.std.proofs.Common.{◌≡◌, ◌+◌, ◌*◌, ◌-◌, ◌^◌, ◌<◌, ◌≤◌, ℕ, suc, ◌==◌, mul-le-mul, le_refl, ℤ, pos, unsigned_abs, true, List, [], ◌∷◌, length, refl, sym, subst, ◌∙◌, arith, w32, ◌⊎◌, inl, inr}
use Rattle.std.proofs.Math.Nat.{pow-suc, pow-le-pow_right}
use Rattle.std.proofs.lemmas.Bool.Decides.{nat_tests}
use Rattle.std.proofs.lemmas.List.Splits.{length-slice_split}
use Rattle.std.proofs.lemmas.List.Sums.{count_by-le-length}
use Rattle.lattice_algebra.proofs.Machine.{back, kept}
use Rattle.lattice_algebra.proofs.Numbers.{abs_neg, within_or_not}
use Rattle.lattice_algebra.specs.Operator.{AreWithin}
use Rattle.phase_rules.specs.declared.TheConstants.{MAX_INDEX}
use Rattle.triplet_text.specs.Bytes.{is_digit, line_feed}
use Rattle.triplet_text.specs.Grammar.{value_of}
use Rattle.triplet_text.specs.Tokens.{Each}
use Rattle.triplet_text.specs.Integers.{IsNatural, IsInteger, bare, plus, minus}
use Rattle.triplet_text.specs.Lines.{lines_of, end, skipped, read}
use Rattle.triplet_text.proofs.IntegerLaw.{one_integer, IntegerOrNone, integer_or_none}
use Rattle.data_lines.specs.Fields.{fields_of}
use Rattle.data_lines.proofs.DataLaws.{WrittenOrNot}
use Rattle.refl_merge.specs.declared.measured.Measured.{Measured}
use Rattle.data_lines.specs.declared.number.TheConstants.{NUMBER_DIGITS}
use Rattle.refl_merge.specs.MeasuredLines.{IsMeasuredLine, AreMeasuredLines}

-- ---- what a line writes

module _ (line h k l value : List ℕ) (fields : fields_of line ≡ h ∷ k ∷ l ∷ value ∷ []) where
  -- a line with these fields has their numbers
  pub record HasNumbers (m : Measured) : Type 0 where
    pub is_h : IsInteger NUMBER_DIGITS h m.index.h
    pub is_k : IsInteger NUMBER_DIGITS k m.index.k
    pub is_l : IsInteger NUMBER_DIGITS l m.index.l
    pub is_value : IsInteger NUMBER_DIGITS value m.value

  numbers_of_fields : (m : Measured) → IsMeasuredLine line m → HasNumbers m
  numbers_of_fields m w =
      let same : w.h ∷ w.k ∷ w.l ∷ w.value ∷ [] ≡ h ∷ k ∷ l ∷ value ∷ [] = sym w.fields ∙ fields in
      let a : w.h ≡ h = cc in
      let b : w.k ≡ k = cc in
      let c : w.l ≡ l = cc in
      let d : w.value ≡ value = cc in
      record {
        is_h = subst (λ t. IsInteger NUMBER_DIGITS t m.index.h) a w.is_h;
        is_k = subst (λ t. IsInteger NUMBER_DIGITS t m.index.k) b w.is_k;
        is_l = subst (λ t. IsInteger NUMBER_DIGITS t m.index.l) c w.is_l;
        is_value = subst (λ t. IsInteger NUMBER_DIGITS t m.value) d w.is_value;
      }

  -- where the first three are no index in range
  pub no_index : (x y z : ℤ) → IsInteger NUMBER_DIGITS h x → IsInteger NUMBER_DIGITS k y → IsInteger NUMBER_DIGITS l z → (AreWithin MAX_INDEX x y z → ⊥) → (m : Measured) → IsMeasuredLine line m → ⊥
  no_index x y z p q r none m w =
      let n = numbers_of_fields m w in
      let a : m.index.h ≡ x = one_integer NUMBER_DIGITS h m.index.h x n.is_h p in
      let b : m.index.k ≡ y = one_integer NUMBER_DIGITS k m.index.k y n.is_k q in
      let c : m.index.l ≡ z = one_integer NUMBER_DIGITS l m.index.l z n.is_l r in
      none (subst (AreWithin MAX_INDEX x y) c (subst (λ v. AreWithin MAX_INDEX x v m.index.l) b (subst (λ v. AreWithin MAX_INDEX v m.index.k m.index.l) a w.in_range)))

  one_with_numbers : (a b : Measured) → HasNumbers a → HasNumbers b → a ≡ b
  one_with_numbers a b p q =
      let x : a.index.h ≡ b.index.h = one_integer NUMBER_DIGITS h a.index.h b.index.h p.is_h q.is_h in
      let y : a.index.k ≡ b.index.k = one_integer NUMBER_DIGITS k a.index.k b.index.k p.is_k q.is_k in
      let z : a.index.l ≡ b.index.l = one_integer NUMBER_DIGITS l a.index.l b.index.l p.is_l q.is_l in
      let v : a.value ≡ b.value = one_integer NUMBER_DIGITS value a.value b.value p.is_value q.is_value in
      λ i. record { index = record { h = x i; k = y i; l = z i }; value = v i }

  numbers_decided : IntegerOrNone NUMBER_DIGITS h → IntegerOrNone NUMBER_DIGITS k → IntegerOrNone NUMBER_DIGITS l → IntegerOrNone NUMBER_DIGITS value → WrittenOrNot IsMeasuredLine line
  numbers_decided (inl x) (inl y) (inl z) (inl v) = by (within_or_not MAX_INDEX x.0 y.0 z.0)
    where
      by : AreWithin MAX_INDEX x.0 y.0 z.0 ⊎ (AreWithin MAX_INDEX x.0 y.0 z.0 → ⊥) → WrittenOrNot IsMeasuredLine line
      by (inl w) = inl (
        record { index = record { h = x.0; k = y.0; l = z.0 }; value = v.0 },
        record { h = h; k = k; l = l; value = value; fields = fields; is_h = x.1; is_k = y.1; is_l = z.1; in_range = w; is_value = v.1 },
      )
      by (inr n) = inr (no_index x.0 y.0 z.0 x.1 y.1 z.1 n)
  numbers_decided (inr n) b c d = inr (λ m w. n m.index.h (numbers_of_fields m w).is_h)
  numbers_decided (inl x) (inr n) c d = inr (λ m w. n m.index.k (numbers_of_fields m w).is_k)
  numbers_decided (inl x) (inl y) (inr n) d = inr (λ m w. n m.index.l (numbers_of_fields m w).is_l)
  numbers_decided (inl x) (inl y) (inl z) (inr n) = inr (λ m w. n m.value (numbers_of_fields m w).is_value)

four_or_not : (line : List ℕ) (fields : List (List ℕ)) → fields_of line ≡ fields → WrittenOrNot IsMeasuredLine line
four_or_not line (h ∷ k ∷ l ∷ value ∷ []) e = numbers_decided line h k l value e (integer_or_none NUMBER_DIGITS h) (integer_or_none NUMBER_DIGITS k) (integer_or_none NUMBER_DIGITS l) (integer_or_none NUMBER_DIGITS value)
four_or_not line [] e = inr (λ m w. let f = sym w.fields ∙ e in absurd cc)
four_or_not line (a ∷ []) e = inr (λ m w. let f = sym w.fields ∙ e in absurd cc)
four_or_not line (a ∷ b ∷ []) e = inr (λ m w. let f = sym w.fields ∙ e in absurd cc)
four_or_not line (a ∷ b ∷ c ∷ []) e = inr (λ m w. let f = sym w.fields ∙ e in absurd cc)
four_or_not line (a ∷ b ∷ c ∷ d ∷ f ∷ more) e = inr (λ m w. let g = sym w.fields ∙ e in absurd cc)

pub measured_or_not : (line : List ℕ) → WrittenOrNot IsMeasuredLine line
measured_or_not line = four_or_not line (fields_of line) refl

pub one_measured : (line : List ℕ) (a b : Measured) → IsMeasuredLine line a → IsMeasuredLine line b → a ≡ b
one_measured line a b p q = one_with_numbers line p.h p.k p.l p.value p.fields a b (numbers_of_fields line p.h p.k p.l p.value p.fields a p) (numbers_of_fields line p.h p.k p.l p.value p.fields b q)

-- the same of numbers that were passed on
pub no_index_passed : (x y z : ℤ) → (AreWithin MAX_INDEX (back w32 x) (back w32 y) (back w32 z) → ⊥) → AreWithin MAX_INDEX x y z → ⊥
no_index_passed x y z none w =
    let a = kept w32 MAX_INDEX x w.first tt in
    let b = kept w32 MAX_INDEX y w.second tt in
    let c = kept w32 MAX_INDEX z w.third tt in
    none (subst (AreWithin MAX_INDEX (back w32 x) (back w32 y)) (sym c) (subst (λ v. AreWithin MAX_INDEX (back w32 x) v z) (sym b) (subst (λ v. AreWithin MAX_INDEX v y z) (sym a) w)))
