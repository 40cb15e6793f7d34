-- What the text of an affine map says: the value of each number that is written in it. The map's matrix is counted over d, and its translation over UNIT * d.
use Rattle.std.specs.Prelude.{◌≡◌, ◌<◌, ℕ, ◌*◌, true, List, [], ◌∷◌, ◌++◌}
use Rattle.std.specs.Int.{IsGcd}
use Rattle.lattice_algebra.specs.Operator.{Operator}
use Rattle.exact_ops.specs.declared.TheConstants.{UNIT}
use Rattle.triplet_text.specs.declared.component.Component.{Component}
use Rattle.triplet_text.specs.Bytes.{is_sign, comma, star, slash, minus_sign}
use Rattle.triplet_text.specs.Tokens.{is_letter}
use Rattle.triplet_text.specs.Components.{behind}
use Rattle.triplet_text.specs.Coordinates.{AreDigits}
use Rattle.triplet_text.specs.Grammar.{value_of, times, translation, added, nothing}

-- the number n / d in digits: p, or p/q in lowest terms
pub data HasValue (n d : ℕ) : List ℕ → Type 0 where
  whole : {p : List ℕ} → AreDigits p → value_of p * d ≡ n → HasValue n d p
  fraction : {p q : List ℕ} → AreDigits p → AreDigits q → 1 < value_of q → IsGcd (value_of p) (value_of q) 1 → value_of p * d ≡ n * value_of q → HasValue n d (p ++ slash ∷ q)

-- a letter, which is d / d of it; n / d, a star and a letter; or a constant, n / (UNIT * d)
pub data IsAffineTerm (d : ℕ) : List ℕ → Component → Type 0 where
  letter : (byte : ℕ) → is_letter byte ≡ true → IsAffineTerm d (byte ∷ []) (times d byte)
  multiple : (byte : ℕ) {number : List ℕ} {n : ℕ} → HasValue n d number → is_letter byte ≡ true → IsAffineTerm d (number ++ star ∷ byte ∷ []) (times n byte)
  constant : {number : List ℕ} {n : ℕ} → HasValue n (UNIT * d) number → IsAffineTerm d number (translation n)

-- any number of terms, each behind one sign
pub data AreAffineTerms (d : ℕ) : List ℕ → Component → Type 0 where
  none : AreAffineTerms d [] nothing
  more : {sign : ℕ} {first rest : List ℕ} {a b : Component} → is_sign sign ≡ true → IsAffineTerm d first a → AreAffineTerms d rest b → AreAffineTerms d (sign ∷ (first ++ rest)) (added (behind sign a) b)

-- a term with a minus before it or none, and further terms, each behind one sign: their numbers are added up
pub data IsAffineSum (d : ℕ) : List ℕ → Component → Type 0 where
  bare : {first rest : List ℕ} {a b : Component} → IsAffineTerm d first a → AreAffineTerms d rest b → IsAffineSum d (first ++ rest) (added a b)
  minus : {text : List ℕ} {a : Component} → AreAffineTerms d (minus_sign ∷ text) a → IsAffineSum d (minus_sign ∷ text) a

-- three sums with commas between them: the rows of the matrix, and the translation
pub record IsAffineText (d : ℕ) (text : List ℕ) (f : Operator) : Type 0 where
  pub first : List ℕ
  pub second : List ℕ
  pub third : List ℕ
  pub cut : text ≡ first ++ comma ∷ (second ++ comma ∷ third)
  pub x : IsAffineSum d first (record { x = f.w.xx; y = f.w.xy; z = f.w.xz; parts = f.t.x })
  pub y : IsAffineSum d second (record { x = f.w.yx; y = f.w.yy; z = f.w.yz; parts = f.t.y })
  pub z : IsAffineSum d third (record { x = f.w.zx; y = f.w.zy; z = f.w.zz; parts = f.t.z })
