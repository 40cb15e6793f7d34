-- The divider of an input: the first line of two percent signs. Lines of operators stand before it, data lines after it.
use Rattle.std.specs.Prelude.{◌≡◌, ◌⊎◌, ℕ, ◌+◌, List, [], ◌∷◌, ◌++◌, length, take, drop, codes}
use Rattle.std.specs.List.{All}
use Rattle.triplet_text.specs.declared.parts.Split.{Split}
use Rattle.triplet_text.specs.Bytes.{is_blank}
use Rattle.triplet_text.specs.Tokens.{Each}
use Rattle.triplet_text.specs.Lines.{lines_of}

-- two percent signs, with blanks or none before and behind them
pub data IsDivider : List ℕ → Type 0 where
  percents : (before behind : List ℕ) → Each is_blank before → Each is_blank behind → IsDivider (before ++ (codes "%%" ++ behind))

abbrev pub HasNoDivider : List (List ℕ) → Type 0
HasNoDivider lines = All (λ line. ¬ IsDivider line) lines

-- the lines before the first divider, those after it, and the number of the first of these; without a divider all lines stand before
pub data AreDivided : List (List ℕ) → List (List ℕ) → List (List ℕ) → ℕ → Type 0 where
  divided : {head tail : List (List ℕ)} (divider : List ℕ) → IsDivider divider → HasNoDivider head → AreDivided (head ++ divider ∷ tail) head tail (length head + 2)
  whole : {head : List (List ℕ)} → HasNoDivider head → AreDivided head head [] (length head + 1)

-- ---- in the bytes of an input

-- these are the lines of the text; or there are none, and the text is empty
abbrev pub AreLinesOrNone : List (List ℕ) → List ℕ → Type 0
AreLinesOrNone lines text = (lines_of text ≡ lines) ⊎ ((lines ≡ []) × (text ≡ []))

-- head is where the first divider begins: the last line feed before it is there already, with an empty line behind it; tail is where the next line begins, or the end
pub record IsDividedAt (bytes : List ℕ) (split : Split) : Type 0 where
  pub head : List (List ℕ)
  pub divider : List ℕ
  pub tail : List (List ℕ)
  pub lines : lines_of bytes ≡ head ++ divider ∷ tail
  pub is_divider : IsDivider divider
  pub first : HasNoDivider head
  pub before : lines_of (take split.head bytes) ≡ head ++ [] ∷ []
  pub after : AreLinesOrNone tail (drop split.tail bytes)
  pub number : split.line ≡ length head + 2

-- no line is a divider, and head and tail are the length of the bytes
pub record IsWhole (bytes : List ℕ) (split : Split) : Type 0 where
  pub none : HasNoDivider (lines_of bytes)
  pub head : split.head ≡ length bytes
  pub tail : split.tail ≡ length bytes
  pub number : split.line ≡ length (lines_of bytes) + 1

abbrev pub IsSplit : List ℕ → Split → Type 0
IsSplit bytes split = IsDividedAt bytes split ⊎ IsWhole bytes split
