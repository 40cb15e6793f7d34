-- Each component that can be printed is read back, by computing them all.
use Rattle.std.proofs.Common.{◌≡◌, ℕ, zero, suc, ◌<◌, ◌≤◌, Bool, true, false, not, ◌&&◌, ◌||◌, eqb, leb, List, [], ◌∷◌, length, Option, Some, None, refl, arith}
use Rattle.std.specs.Prelude.{ℤ, pos, negsuc, unsigned_abs}
use Rattle.std.specs.List.{list_all}
use Rattle.std.specs.Ordering.{int_eq}
use Rattle.std.specs.Fmt.{digits}
use Rattle.std.proofs.lemmas.Int.{ints}
use Rattle.std.proofs.lemmas.Bool.Decides.{Decides-int_eq}
use borrow.Author.Tests.{leb-true}
use Rattle.lattice_algebra.specs.Operator.{AreWithin, IsPart}
use Rattle.exact_ops.specs.declared.TheConstants.{UNIT}
use Rattle.triplet_text.specs.declared.component.Component.{Component}
use Rattle.triplet_text.specs.Bytes.{is_blank, is_quote, comma}
use Rattle.triplet_text.specs.Sums.{sum_of}
use Rattle.triplet_text.specs.Fractions.{common_divisor_up_to}
use Rattle.triplet_text.specs.Printing.{component_text}
use Rattle.triplet_text.specs.Tokens.{Each}
use Rattle.triplet_text.proofs.Options.{both}
use Rattle.triplet_text.proofs.Ranges.{all_below, below_each}

-- neither a blank nor a quote nor a comma
abbrev pub is_plain : ℕ → Bool
is_plain byte = not (is_blank byte || is_quote byte || eqb byte comma)

-- what is to be found of a component's text
abbrev is_value : Option Component → ℤ → ℤ → ℤ → ℕ → Bool
is_value None x y z t = false
is_value (Some v) x y z t = int_eq v.x x && int_eq v.y y && int_eq v.z z && int_eq v.parts (pos t)

abbrev is_fine : List ℕ → ℤ → ℤ → ℤ → ℕ → Bool
is_fine text x y z t = is_value (sum_of text) x y z t && list_all is_plain text && leb (length text) 50

abbrev reads_back : ℤ → ℤ → ℤ → ℕ → Bool
reads_back x y z t = is_fine (component_text 1 x y z (pos t)) x y z t

abbrev five : List ℤ
five = negsuc 1 ∷ negsuc 0 ∷ pos 0 ∷ pos 1 ∷ pos 2 ∷ []

abbrev all_at : ℤ → Bool
all_at x = list_all (λ y. list_all (λ z. all_below UNIT (reads_back x y z)) five) five

minus_two : all_at (negsuc 1) ≡ true
unfolding digits common_divisor_up_to
minus_two = refl

minus_one : all_at (negsuc 0) ≡ true
unfolding digits common_divisor_up_to
minus_one = refl

at_zero : all_at (pos 0) ≡ true
unfolding digits common_divisor_up_to
at_zero = refl

at_one : all_at (pos 1) ≡ true
unfolding digits common_divisor_up_to
at_one = refl

at_two : all_at (pos 2) ≡ true
unfolding digits common_divisor_up_to
at_two = refl

-- each of the five
small_cases : (P : ℤ → Type 0) → P (negsuc 1) → P (negsuc 0) → P (pos 0) → P (pos 1) → P (pos 2) → (x : ℤ) → unsigned_abs x ≤ 2 → P x
small_cases P a b c d e (pos zero) h = c
small_cases P a b c d e (pos (suc zero)) h = d
small_cases P a b c d e (pos (suc (suc zero))) h = e
small_cases P a b c d e (pos (suc (suc (suc n)))) h = absurd (omega (arith, ints, h))
small_cases P a b c d e (negsuc zero) h = b
small_cases P a b c d e (negsuc (suc zero)) h = a
small_cases P a b c d e (negsuc (suc (suc n))) h = absurd (omega (arith, ints, h))

at_five : (f : ℤ → Bool) → list_all f five ≡ true → (x : ℤ) → unsigned_abs x ≤ 2 → f x ≡ true
at_five f e x h =
    let a = both (f (negsuc 1)) _ e in
    let b = both (f (negsuc 0)) _ a.1 in
    let c = both (f (pos 0)) _ b.1 in
    let d = both (f (pos 1)) _ c.1 in
    let k = both (f (pos 2)) _ d.1 in
    small_cases (λ x. f x ≡ true) a.0 b.0 c.0 d.0 k.0 x h

each_reads_back : (x y z : ℤ) (t : ℕ) → AreWithin 2 x y z → t < UNIT → reads_back x y z t ≡ true
each_reads_back x y z t small lt =
    let all = small_cases (λ x. all_at x ≡ true) minus_two minus_one at_zero at_one at_two x small.first in
    let a = at_five (λ y. list_all (λ z. all_below UNIT (reads_back x y z)) five) all y small.second in
    let b = at_five (λ z. all_below UNIT (reads_back x y z)) a z small.third in
    below_each UNIT (reads_back x y z) b t lt

-- the text of a component is read back, and is short and plain
pub record IsReadBack (text : List ℕ) (x y z parts : ℤ) : Type 0 where
  pub reads : sum_of text ≡ Some (record { x = x; y = y; z = z; parts = parts })
  pub plain : Each is_plain text
  pub short : length text ≤ 50

value_from : (o : Option Component) (x y z : ℤ) (t : ℕ) → is_value o x y z t ≡ true → o ≡ Some (record { x = x; y = y; z = z; parts = pos t })
value_from None x y z t e = absurd cc
value_from (Some v) x y z t e =
    let a = both (int_eq v.x x && int_eq v.y y && int_eq v.z z) (int_eq v.parts (pos t)) e in
    let b = both (int_eq v.x x && int_eq v.y y) (int_eq v.z z) a.0 in
    let c = both (int_eq v.x x) (int_eq v.y y) b.0 in
    let ex : v.x ≡ x = (Decides-int_eq v.x x).0 c.0 in
    let ey : v.y ≡ y = (Decides-int_eq v.y y).0 c.1 in
    let ez : v.z ≡ z = (Decides-int_eq v.z z).0 b.1 in
    let et : v.parts ≡ pos t = (Decides-int_eq v.parts (pos t)).0 a.1 in
    λ i. Some (record { x = ex i; y = ey i; z = ez i; parts = et i })

each_plain : (text : List ℕ) → list_all is_plain text ≡ true → Each is_plain text
each_plain [] e = tt
each_plain (byte ∷ text) e = let h = both (is_plain byte) (list_all is_plain text) e in (h.0, each_plain text h.1)

read_back_from : (text : List ℕ) (x y z : ℤ) (t : ℕ) → is_fine text x y z t ≡ true → IsReadBack text x y z (pos t)
read_back_from text x y z t e =
    let a = both (is_value (sum_of text) x y z t && list_all is_plain text) (leb (length text) 50) e in
    let b = both (is_value (sum_of text) x y z t) (list_all is_plain text) a.0 in
    record { reads = value_from (sum_of text) x y z t b.0; plain = each_plain text b.1; short = leb-true _ _ a.1 }

pub component_back : (x y z parts : ℤ) → AreWithin 2 x y z → IsPart UNIT parts → IsReadBack (component_text 1 x y z parts) x y z parts
component_back x y z (pos t) small part = read_back_from (component_text 1 x y z (pos t)) x y z t (each_reads_back x y z t small (omega (arith, ints, part)))
component_back x y z (negsuc t) small part = absurd (omega (arith, ints, part))
