-- The tokens of a triplet, and a text as tokens one behind the other.
use Rattle.std.specs.Prelude.{◌≡◌, ◌||◌, ◌==◌, ◌<◌, ℕ, Bool, true, false, List, [], ◌∷◌, ◌++◌, length}
use Rattle.std.specs.List.{AllByRecursion}
use Rattle.triplet_text.specs.Bytes.{is_sign, is_blank, is_digit, is_x, is_y, is_z, comma, star, slash, point}

-- a sign, a mark or a letter, by its byte; or a number, by its bytes
pub data Token : Type 0 where
  Sign : ℕ → Token
  Mark : ℕ → Token
  Letter : ℕ → Token
  Number : List ℕ → Token

-- the bytes of a token
abbrev pub bytes_of : Token → List ℕ
bytes_of (Sign byte) = byte ∷ []
bytes_of (Mark byte) = byte ∷ []
bytes_of (Letter byte) = byte ∷ []
bytes_of (Number run) = run

-- each byte of the text passes
abbrev pub Each : (ℕ → Bool) → List ℕ → Type 0
Each passes text = AllByRecursion (λ byte. passes byte ≡ true) text

-- a comma, a star or a slash
abbrev pub is_mark : ℕ → Bool
is_mark byte = byte == comma || byte == star || byte == slash

-- one of x y z X Y Z
abbrev pub is_letter : ℕ → Bool
is_letter byte = is_x byte || is_y byte || is_z byte

-- a digit or a point
abbrev pub is_in_number : ℕ → Bool
is_in_number byte = is_digit byte || byte == point

-- which tokens there are; a number is one or more digits and points
abbrev pub IsToken : Token → Type 0
IsToken (Sign byte) = is_sign byte ≡ true
IsToken (Mark byte) = is_mark byte ≡ true
IsToken (Letter byte) = is_letter byte ≡ true
IsToken (Number run) = (0 < length run) × Each is_in_number run

-- whether the first byte is a blank
abbrev pub begins_with_blank : List ℕ → Bool
begins_with_blank [] = false
begins_with_blank (byte ∷ text) = is_blank byte

-- what may follow a token: behind a number a letter stands at once, and another number only after a blank
abbrev pub MayFollow : Token → List Token → List ℕ → Type 0
MayFollow (Number run) (Letter byte ∷ tokens) rest = begins_with_blank rest ≡ false
MayFollow (Number run) (Number other ∷ tokens) rest = begins_with_blank rest ≡ true
MayFollow token tokens rest = Unit {0}

-- blanks or none, a token, and a rest in which these tokens may follow it
pub record IsBefore (token : Token) (tokens : List Token) (text : List ℕ) : Type 0 where
  pub blanks : List ℕ
  pub rest : List ℕ
  pub cut : text ≡ blanks ++ (bytes_of token ++ rest)
  pub blank : Each is_blank blanks
  pub is_token : IsToken token
  pub follow : MayFollow token tokens rest

-- a text is these tokens one behind the other, with blanks or none before each and at the end
abbrev pub HasTokens : List ℕ → List Token → Type 0
HasTokens text [] = Each is_blank text
HasTokens text (token ∷ tokens) = (first : IsBefore token tokens text) × HasTokens (first.rest) tokens
