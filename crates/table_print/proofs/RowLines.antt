-- The line of a row has the row's numbers.
use Rattle.std.proofs.Common.{◌≡◌, ℕ, ◌+◌, ◌<◌, ◌≤◌, ◌^◌, List, [], ◌∷◌, ◌++◌, decimal, refl, sym, ◌∙◌, append_assoc, arith}
use Rattle.std.proofs.lemmas.Fmt.{digits_decimal, decimal_injective}
use Rattle.std.proofs.lemmas.List.{append_cancel_right}
use Rattle.std.proofs.lemmas.Str.Parse.{IsDigitsTest, numerals_by_value}
use Rattle.lattice_algebra.specs.Operator.{Operator}
use Rattle.space_groups.specs.Rows.{Row}
use Rattle.triplet_text.specs.Bytes.{space, line_feed}
use Rattle.triplet_text.specs.Printing.{affine_text, IsPrintable, HasPrintableComponents, IsSameMap}
use Rattle.triplet_text.proofs.AffineValues.{component_by_component}
use Rattle.table_print.specs.Rows.{numbers_of_key, shown_row, row_line}

-- bytes that are digits
abbrev AreDigits : List ℕ → Type 0
AreDigits [] = Unit {0}
AreDigits (byte ∷ rest) = (48 ≤ byte) × (byte ≤ 57) × AreDigits rest

digits_test : IsDigitsTest AreDigits
digits_test = record { empty = tt; parts = λ c cs h. ((h.0, h.1), h.2); more = λ c cs k h. (k.0, k.1, h) }

decimal_digits : (n : ℕ) → n < 2 ^ 64 → AreDigits (decimal n)
decimal_digits n h = digits_decimal (numerals_by_value AreDigits digits_test) n h

-- digits end where the first space stands
cut_at_space : (a b u v : List ℕ) → AreDigits a → AreDigits b → a ++ space ∷ u ≡ b ++ space ∷ v → (a ≡ b) × (u ≡ v)
cut_at_space [] [] u v p q e = (refl, cc)
cut_at_space [] (d ∷ b) u v p q e = absurd (let h : space ≡ d = cc in omega (arith, h, q.0))
cut_at_space (c ∷ a) [] u v p q e = absurd (let h : c ≡ space = cc in omega (arith, h, p.0))
cut_at_space (c ∷ a) (d ∷ b) u v p q e =
    let h : c ≡ d = cc in
    let t : a ++ space ∷ u ≡ b ++ space ∷ v = cc in
    let r = cut_at_space a b u v p.2 q.2 t in
    ((λ i. h i ∷ r.0 i), r.1)

-- the number of points, and the key
abbrev behind_place : ℕ → Row → List ℕ
behind_place n r = decimal r.mult ++ space ∷ affine_text n (numbers_of_key r.key)

place_first : (n k : ℕ) (r : Row) → shown_row n k r ≡ decimal (k + 1) ++ space ∷ behind_place n r
place_first n k r = append_assoc (decimal (k + 1)) (space ∷ decimal r.mult) (space ∷ affine_text n (numbers_of_key r.key))

-- equal lines have one place, one number of points, and one map
abbrev pub HaveOneLine : ℕ → ℕ → Row → ℕ → ℕ → Row → Type 0
HaveOneLine n j r m k s = (j ≡ k) × (r.mult ≡ s.mult) × IsSameMap n (numbers_of_key r.key) m (numbers_of_key s.key)

pub one_row : ((d e : ℕ) (f g : Operator) → HasPrintableComponents d f → HasPrintableComponents e g → affine_text d f ≡ affine_text e g → IsSameMap d f e g) → (n m j k : ℕ) (r s : Row) → j + 1 < 2 ^ 64 → k + 1 < 2 ^ 64 → r.mult < 2 ^ 64 → s.mult < 2 ^ 64
    → IsPrintable n (numbers_of_key r.key) → IsPrintable m (numbers_of_key s.key) → row_line n j r ≡ row_line m k s → HaveOneLine n j r m k s
one_row one_map n m j k r s hj hk hr hs p q e =
    let shown = sym (place_first n j r) ∙ append_cancel_right (shown_row n j r) (shown_row m k s) (line_feed ∷ []) e ∙ place_first m k s in
    let first = cut_at_space (decimal (j + 1)) (decimal (k + 1)) (behind_place n r) (behind_place m s) (decimal_digits (j + 1) hj) (decimal_digits (k + 1) hk) shown in
    let second = cut_at_space (decimal r.mult) (decimal s.mult) (affine_text n (numbers_of_key r.key)) (affine_text m (numbers_of_key s.key)) (decimal_digits r.mult hr) (decimal_digits s.mult hs) first.1 in
    let places = decimal_injective (j + 1) (k + 1) hj hk first.0 in
    (omega (arith, places), decimal_injective r.mult s.mult hr hs second.0, one_map n m (numbers_of_key r.key) (numbers_of_key s.key) (component_by_component n (numbers_of_key r.key) p) (component_by_component m (numbers_of_key s.key) q) second.1)
