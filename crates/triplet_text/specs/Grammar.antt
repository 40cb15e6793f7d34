-- The triplet grammar: which lines are triplets, and what they say. docs/formats.md has it in words.
use Rattle.std.specs.Prelude.{◌≡◌, ◌<◌, ◌≤◌, ◌⊎◌, if◌then◌else◌, ℕ, ◌+◌, ◌-◌, ◌*◌, ◌^◌, pos, neg_ℤ, ◌+ℤ◌, true, List, [], ◌∷◌, ◌++◌, length, decimal}
use Rattle.std.specs.Int.{◌∣◌}
use Rattle.lattice_algebra.specs.Operator.{Operator, modulo}
use Rattle.exact_ops.specs.declared.TheConstants.{UNIT}
use Rattle.triplet_text.specs.declared.component.Component.{Component}
use Rattle.triplet_text.specs.declared.triplet.TheConstants.{LINE_LENGTH}
use Rattle.triplet_text.specs.Bytes.{is_blank, is_digit, is_quote, is_x, is_y, is_z, comma, star, plus_sign, minus_sign, point, slash, zero_digit}
use Rattle.triplet_text.specs.Tokens.{Token, Sign, Mark, Letter, Number, Each, HasTokens}

-- ---- numbers

-- the number that digits write: each counts ten times the one behind it
abbrev pub value_of : List ℕ → ℕ
value_of [] = 0
value_of (digit ∷ digits) = (digit - zero_digit) * 10 ^ length digits + value_of digits

-- a whole number: one to six digits
pub record IsWhole (run : List ℕ) (n : ℕ) : Type 0 where
  pub some : 0 < length run
  pub few : length run ≤ 6
  pub digits : Each is_digit run
  pub value : n ≡ value_of run

-- a decimal: up to six digits, a point and up to three digits, at least one digit in all; it says so many parts of a cell
pub record IsDecimal (run : List ℕ) (parts : ℕ) : Type 0 where
  pub front : List ℕ
  pub back : List ℕ
  pub cut : run ≡ front ++ point ∷ back
  pub digits : Each is_digit (front ++ back)
  pub some : 0 < length front + length back
  pub few_before : length front ≤ 6
  pub few_after : length back ≤ 3
  pub value : parts * 10 ^ length back ≡ value_of (front ++ back) * UNIT

-- a whole number over a divisor of UNIT, which is written in decimal without a zero before it; it says so many parts of a cell
pub record IsFraction (over under : List ℕ) (parts : ℕ) : Type 0 where
  pub n : ℕ
  pub d : ℕ
  pub whole : IsWhole over n
  pub written : under ≡ decimal d
  pub divides : d ∣ UNIT
  pub value : parts * d ≡ n * UNIT

-- ---- terms

-- so many times the coordinate of a letter
abbrev pub times : ℕ → ℕ → Component
times n letter = record {
  x = pos (if is_x letter then n else 0);
  y = pos (if is_y letter then n else 0);
  z = pos (if is_z letter then n else 0);
  parts = pos 0;
}

-- so many parts of a cell
abbrev pub translation : ℕ → Component
translation parts = record { x = pos 0; y = pos 0; z = pos 0; parts = pos parts }

-- a letter; a whole number of one digit and a letter, without or with a star between them; so many cells; a fraction; a decimal
pub data IsTerm : List Token → Component → Type 0 where
  letter : {byte : ℕ} → IsTerm (Letter byte ∷ []) (times 1 byte)
  digit_letter : {digit byte n : ℕ} → IsWhole (digit ∷ []) n → IsTerm (Number (digit ∷ []) ∷ Letter byte ∷ []) (times n byte)
  digit_star_letter : {digit byte n : ℕ} → IsWhole (digit ∷ []) n → IsTerm (Number (digit ∷ []) ∷ Mark star ∷ Letter byte ∷ []) (times n byte)
  cells : {run : List ℕ} {n : ℕ} → IsWhole run n → IsTerm (Number run ∷ []) (translation (n * UNIT))
  fraction : {over under : List ℕ} {parts : ℕ} → IsFraction over under parts → IsTerm (Number over ∷ Mark slash ∷ Number under ∷ []) (translation parts)
  decimal_cells : {run : List ℕ} {parts : ℕ} → IsDecimal run parts → IsTerm (Number run ∷ []) (translation parts)

-- ---- sums

-- behind a minus sign each number is negated
abbrev pub negated : Component → Component
negated a = record { x = neg_ℤ a.x; y = neg_ℤ a.y; z = neg_ℤ a.z; parts = neg_ℤ a.parts }

-- coefficients of one letter are added, and so are the parts of a cell
abbrev pub added : Component → Component → Component
added a b = record { x = a.x +ℤ b.x; y = a.y +ℤ b.y; z = a.z +ℤ b.z; parts = a.parts +ℤ b.parts }

-- no term says this
abbrev pub nothing : Component
nothing = record { x = pos 0; y = pos 0; z = pos 0; parts = pos 0 }

-- a term behind one sign
pub data IsSignedTerm : List Token → Component → Type 0 where
  plus : {term : List Token} {a : Component} → IsTerm term a → IsSignedTerm (Sign plus_sign ∷ term) a
  minus : {term : List Token} {a : Component} → IsTerm term a → IsSignedTerm (Sign minus_sign ∷ term) (negated a)

-- any number of terms, each behind one sign
pub data AreSignedTerms : List Token → Component → Type 0 where
  none : AreSignedTerms [] nothing
  more : {first rest : List Token} {a b : Component} → IsSignedTerm first a → AreSignedTerms rest b → AreSignedTerms (first ++ rest) (added a b)

-- a sum: a term with or without a sign before it, and any number of further terms, each behind one sign
pub data IsSum : List Token → Component → Type 0 where
  term_first : {first rest : List Token} {a b : Component} → IsTerm first a → AreSignedTerms rest b → IsSum (first ++ rest) (added a b)
  sign_first : {first rest : List Token} {a b : Component} → IsSignedTerm first a → AreSignedTerms rest b → IsSum (first ++ rest) (added a b)

-- ---- lines

-- three sums with commas between them: the rows of the matrix, and the translation modulo the cell
pub record AreThreeSums (tokens : List Token) (f : Operator) : Type 0 where
  pub first : List Token
  pub second : List Token
  pub third : List Token
  pub a : Component
  pub b : Component
  pub c : Component
  pub cut : tokens ≡ first ++ Mark comma ∷ (second ++ Mark comma ∷ third)
  pub first_is : IsSum first a
  pub second_is : IsSum second b
  pub third_is : IsSum third c
  pub rows : f.w ≡ record { xx = a.x; xy = a.y; xz = a.z; yx = b.x; yy = b.y; yz = b.z; zx = c.x; zy = c.y; zz = c.z }
  pub translation : f.t ≡ modulo UNIT (record { x = a.parts; y = b.parts; z = c.parts })

-- a text between two like quotes, with blanks or none around them
pub record IsQuoted (line text : List ℕ) : Type 0 where
  pub before : List ℕ
  pub after : List ℕ
  pub quote : ℕ
  pub cut : line ≡ before ++ quote ∷ (text ++ quote ∷ after)
  pub blank_before : Each is_blank before
  pub blank_after : Each is_blank after
  pub is_quote : is_quote quote ≡ true

-- what a line has within: the text between its quotes where it is quoted, else the line
abbrev pub IsWithin : List ℕ → List ℕ → Type 0
IsWithin line text = IsQuoted line text ⊎ ((text ≡ line) × ((other : List ℕ) → ¬ IsQuoted line other))

-- a line of at most LINE_LENGTH bytes is a triplet that says f where the tokens within it are three sums that say f
pub record IsTriplet (line : List ℕ) (f : Operator) : Type 0 where
  pub short : length line ≤ LINE_LENGTH
  pub text : List ℕ
  pub tokens : List Token
  pub within : IsWithin line text
  pub has_tokens : HasTokens text tokens
  pub sums : AreThreeSums tokens f
