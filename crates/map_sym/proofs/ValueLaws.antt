-- What data lines write: values of at most nine digits, and as many of them as there are grid points in a cell, or not.
use Rattle.std.proofs.Common.{◌≡◌, ℕ, ℤ, List, [], ◌∷◌, length, ◌⊎◌, inl, inr, ⊎_elim, refl, sym, ap, subst, ◌∙◌}
use Rattle.std.proofs.lemmas.Bool.{cases_eq}
use Rattle.triplet_text.specs.Integers.{IsInteger}
use Rattle.triplet_text.proofs.IntegerLaw.{one_integer, integer_or_none}
use Rattle.data_lines.specs.Fields.{fields_of}
use Rattle.data_lines.specs.DataLines.{AreWritten}
use Rattle.data_lines.proofs.DataLaws.{same_values, no_bad_line, written_or_bad, WrittenOrNot}
use Rattle.grid_tags.specs.Grids.{Grid, points}
use Rattle.data_lines.specs.declared.number.TheConstants.{NUMBER_DIGITS}
use Rattle.map_sym.specs.SummedMaps.{GridValues}
use Rattle.map_sym.specs.ValueLines.{IsValueLine, AreValuesOf, IsFirstBad, IsOtherCount}

-- ---- what lines write

pub one_value : (line : List ℕ) (y z : ℤ) → IsValueLine line y → IsValueLine line z → y ≡ z
one_value line y z p q =
    let same : p.field ≡ q.field = let e : p.field ∷ [] ≡ q.field ∷ [] = sym p.is_field ∙ q.is_field in cc in
    one_integer NUMBER_DIGITS q.field y z (subst (λ f. IsInteger NUMBER_DIGITS f y) same p.is_value) q.is_value

pub value_or_none : (line : List ℕ) → WrittenOrNot IsValueLine line
value_or_none line = by (fields_of line) refl
  where
    by : (fields : List (List ℕ)) → fields_of line ≡ fields → WrittenOrNot IsValueLine line
    by [] e = inr (λ z w. let same : [] ≡ w.field ∷ [] = sym e ∙ w.is_field in absurd cc)
    by (field ∷ []) e = ⊎_elim
        (λ is. inl (is.0, record { field = field; is_field = e; is_value = is.1 }))
        (λ none. inr (λ z w. let same : field ≡ w.field = let f : field ∷ [] ≡ w.field ∷ [] = sym e ∙ w.is_field in cc in none z (subst (λ f. IsInteger NUMBER_DIGITS f z) (sym same) w.is_value)))
        (integer_or_none NUMBER_DIGITS field)
    by (field ∷ next ∷ fields) e = inr (λ z w. let same : field ∷ next ∷ fields ≡ w.field ∷ [] = sym e ∙ w.is_field in absurd cc)

pub one_list : (lines : List (List ℕ)) (a b : List ℤ) → AreWritten IsValueLine lines a → AreWritten IsValueLine lines b → a ≡ b
one_list lines a b p q = same_values IsValueLine one_value lines a b p q

module _ (lines : List (List ℕ)) (grid : Grid) where
  pub values_or_not : (first : ℕ) → ((given : GridValues) × AreValuesOf lines grid given) ⊎ ((k : ℕ) × IsFirstBad first lines k) ⊎ ((n : ℕ) × IsOtherCount lines grid n)
  values_or_not first = ⊎_elim
      (λ w. ⊎_elim
      (λ e. inl (record { size = grid; values = w.0 }, record { size = refl; all = e; written = w.1 }))
      (λ e. inr (inr (length w.0, record { values = w.0; written = w.1; count = refl; other = e })))
      (cases_eq (length w.0) (points grid)))
      (λ b. inr (inl b))
      (written_or_bad IsValueLine value_or_none first lines)

  pub values_or_bad : (first : ℕ) (given : GridValues) (k : ℕ) → AreValuesOf lines grid given → IsFirstBad first lines k → ⊥
  values_or_bad first given k v b = no_bad_line IsValueLine first lines given.values k v.written b

  pub bad_or_count : (first k n : ℕ) → IsFirstBad first lines k → IsOtherCount lines grid n → ⊥
  bad_or_count first k n b o = no_bad_line IsValueLine first lines o.values k o.written b

  pub values_or_count : (given : GridValues) (n : ℕ) → AreValuesOf lines grid given → IsOtherCount lines grid n → ⊥
  values_or_count given n v o = o.other (o.count ∙ ap length (one_list lines o.values given.values o.written v.written) ∙ v.all ∙ ap points v.size)

  pub one_grid_values : (a b : GridValues) → AreValuesOf lines grid a → AreValuesOf lines grid b → a ≡ b
  one_grid_values a b p q =
      let size = p.size ∙ sym q.size in
      let values = one_list lines a.values b.values p.written q.written in
      λ h. record { size = size h; values = values h }

  pub one_count : (m n : ℕ) → IsOtherCount lines grid m → IsOtherCount lines grid n → m ≡ n
  one_count m n p q = p.count ∙ ap length (one_list lines p.values q.values p.written q.written) ∙ sym q.count
