-- Texts that have a line for each element of a list.
use Rattle.std.specs.Prelude.{◌≡◌, ℕ, List, [], ◌∷◌, ◌++◌}

-- a line for each element, in their order
pub data AreLines {A : Type 0} (IsLine : A → List ℕ → Type 0) : List A → List ℕ → Type 0 where
  end : AreLines IsLine [] []
  line : {x : A} {rest : List A} {first text : List ℕ} → IsLine x first → AreLines IsLine rest text → AreLines IsLine (x ∷ rest) (first ++ text)

-- some such text has this property
abbrev pub SomeText : (List ℕ → Type 0) → (List ℕ → Type 0) → Type 0
SomeText IsText IsSuch = (text : List ℕ) × IsText text × IsSuch text

-- no text
abbrev pub IsNothing : List ℕ → Type 0
IsNothing text = text ≡ []

-- such a text was added to the page
abbrev pub AddsSuch : (List ℕ → Type 0) → List ℕ → List ℕ → Type 0
AddsSuch IsSuch old new = SomeText IsSuch (λ text. new ≡ old ++ text)

-- a line was added to the page; before it stood what the texts were, and with it in front the texts still to come are such
pub record AddsLine (Before After : List ℕ → Type 0) (old new : List ℕ) : Type 0 where
  pub line : List ℕ
  pub added : new ≡ old ++ line
  pub before : (rest : List ℕ) → After rest → Before (line ++ rest)
  pub some : (rest : List ℕ) × After rest
