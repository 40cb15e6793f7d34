-- The text of a fraction in lowest terms.
use Rattle.std.specs.Prelude.{◌==◌, ◌&&◌, if◌then◌else◌, ℕ, zero, suc, ℤ, pos, negsuc, unsigned_abs, List, ◌∷◌, ◌++◌, ◌/◌, ◌%◌, decimal}
use Rattle.triplet_text.specs.Bytes.{slash, minus_sign}

-- the greatest number from 1 to k that divides n and d; 0 where k is 0
unfoldable pub common_divisor_up_to : ℕ → ℕ → ℕ → ℕ
common_divisor_up_to n d zero = 0
common_divisor_up_to n d (suc k) = if n % suc k == 0 && d % suc k == 0 then suc k else common_divisor_up_to n d k

-- the greatest common divisor of n and d, where d is not 0
abbrev pub gcd : ℕ → ℕ → ℕ
gcd n d = common_divisor_up_to n d d

-- p over q as it is written: q is left out where it is 1
abbrev pub quotient_text : ℕ → ℕ → List ℕ
quotient_text p q = if q == 1 then decimal p else decimal p ++ slash ∷ decimal q

-- n over d in lowest terms
abbrev pub fraction_text : ℕ → ℕ → List ℕ
fraction_text n d = let g = gcd n d in quotient_text (n / g) (d / g)

-- the fraction n over d, with a minus before a negative one
abbrev pub frac_text : ℤ → ℤ → List ℕ
frac_text (pos n) d = fraction_text n (unsigned_abs d)
frac_text (negsuc n) d = minus_sign ∷ fraction_text (suc n) (unsigned_abs d)
