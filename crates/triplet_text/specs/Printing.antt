-- The text of an affine map, and of an operator: three components with commas between them.
use Rattle.std.specs.Prelude.{◌≡◌, ◌<◌, ◌≤◌, ◌==◌, if◌then◌else◌, ℕ, zero, suc, ◌*◌, ◌^◌, ℤ, pos, negsuc, unsigned_abs, List, [], ◌∷◌, ◌++◌, fold}
use Rattle.lattice_algebra.specs.Matrix.{scaled, times}
use Rattle.lattice_algebra.specs.Operator.{Operator, HasEntriesWithin, AreWithin}
use Rattle.lattice_algebra.specs.Map.{Map}
use Rattle.exact_ops.specs.declared.TheConstants.{UNIT}
use Rattle.triplet_text.specs.declared.printing.TheConstants.{OVER_LIMIT, PARTS_LIMIT, COMPONENT_LIMIT}
use Rattle.triplet_text.specs.Bytes.{star, plus_sign, minus_sign, comma, zero_digit, letter_x, letter_y, letter_z}
use Rattle.triplet_text.specs.Fractions.{fraction_text}

-- n over d times a letter, where n is not 0: the letter alone where n over d is 1
abbrev pub multiple_text : ℕ → ℕ → ℕ → List ℕ
multiple_text n d letter = if n == d then letter ∷ [] else fraction_text n d ++ star ∷ letter ∷ []

-- the text of a number by that of its size, with a minus before a negative one, and nothing for 0
abbrev pub signed_text : (ℕ → List ℕ) → ℤ → List ℕ
signed_text size (pos zero) = []
signed_text size (pos (suc n)) = size (suc n)
signed_text size (negsuc n) = minus_sign ∷ size (suc n)

-- n over d times a letter
abbrev pub coefficient_text : ℕ → ℤ → ℕ → List ℕ
coefficient_text d n letter = signed_text (λ size. multiple_text size d letter) n

-- the fraction n over d
abbrev pub constant_text : ℕ → ℤ → List ℕ
constant_text d n = signed_text (λ size. fraction_text size d) n

-- one more term, with a plus before it unless it is the first or begins with a minus
abbrev pub joined : List ℕ → List ℕ → List ℕ
joined text [] = text
joined [] (byte ∷ term) = byte ∷ term
joined (first ∷ text) (byte ∷ term) = (first ∷ text) ++ (if byte == minus_sign then byte ∷ term else plus_sign ∷ byte ∷ term)

-- the terms in the order x, y, z, constant: coefficients over d, and a constant over UNIT * d
abbrev pub terms_text : ℕ → ℤ → ℤ → ℤ → ℤ → List ℕ
terms_text d x y z parts = fold joined [] (coefficient_text d x letter_x ∷ coefficient_text d y letter_y ∷ coefficient_text d z letter_z ∷ constant_text (UNIT * d) parts ∷ [])

-- 0 where there is no term
abbrev pub or_zero : List ℕ → List ℕ
or_zero [] = zero_digit ∷ []
or_zero (byte ∷ text) = byte ∷ text

abbrev pub component_text : ℕ → ℤ → ℤ → ℤ → ℤ → List ℕ
component_text d x y z parts = or_zero (terms_text d x y z parts)

abbrev pub with_commas : List ℕ → List ℕ → List ℕ → List ℕ
with_commas a b c = a ++ comma ∷ b ++ comma ∷ c

-- the size of each of three numbers is below a limit
abbrev pub AreBelow : ℕ → ℤ → ℤ → ℤ → Type 0
AreBelow limit x y z = (unsigned_abs x < limit) × (unsigned_abs y < limit) × (unsigned_abs z < limit)

-- the map with the matrix f.w over d, and the translation f.t over UNIT * d
abbrev pub affine_text : ℕ → Operator → List ℕ
affine_text d f = with_commas (component_text d f.w.xx f.w.xy f.w.xz f.t.x) (component_text d f.w.yx f.w.yy f.w.yz f.t.y) (component_text d f.w.zx f.w.zy f.w.zz f.t.z)

-- the maps that can be printed: over at most OVER_LIMIT, with entries from -2 to 2, and with at most PARTS_LIMIT parts on both sides of 0
pub record IsPrintable (d : ℕ) (f : Operator) : Type 0 where
  pub positive : 0 < d
  pub over : d ≤ OVER_LIMIT
  pub narrow : HasEntriesWithin (2 * d) f.w
  pub parts : AreWithin PARTS_LIMIT f.t.x f.t.y f.t.z

-- the maps whose components can be printed one by one: over at most COMPONENT_LIMIT, with entries of 32 bits and parts of 64 bits
pub record HasPrintableComponents (d : ℕ) (f : Operator) : Type 0 where
  pub positive : 0 < d
  pub over : d ≤ COMPONENT_LIMIT
  pub entries : HasEntriesWithin (2 ^ 31) f.w
  pub parts : AreWithin (2 ^ 63) f.t.x f.t.y f.t.z

-- f over d and g over e are one map: the entries and the parts have equal cross products
pub record IsSameMap (d : ℕ) (f : Operator) (e : ℕ) (g : Operator) : Type 0 where
  pub matrix : scaled (pos e) f.w ≡ scaled (pos d) g.w
  pub translation : times (pos e) f.t ≡ times (pos d) g.t

abbrev pub operator_text : Operator → List ℕ
operator_text f = affine_text 1 f

-- the translation of the map with its whole shifts
abbrev pub map_text : Map → List ℕ
map_text g = affine_text 1 (record { w = g.w; t = g.s })
