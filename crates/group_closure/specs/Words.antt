-- The group that listed operators generate: the values of all words in them and their inverses, modulo the cell.
-- International Tables A: the symmetry operations of a space group modulo its lattice translations.
use Rattle.std.specs.Prelude.{◌≡◌, ◌≢◌, ◌<◌, ◌≤◌, ◌⊎◌, List, length}
use Rattle.std.specs.List.{All, AllPairs, Contains, fold}
use Rattle.lattice_algebra.specs.Operator.{Operator, IsOperator, HasEntriesWithin, product, identity_operator}
use Rattle.exact_ops.specs.declared.TheConstants.{UNIT}
use Rattle.group_closure.specs.declared.TheConstants.{MAX_OPERATORS}

-- a letter is a listed operator, or the inverse of one
abbrev pub IsLetter : List Operator → Operator → Type 0
IsLetter list e = Contains list e ⊎ ((f : Operator) × Contains list f × IsOperator UNIT e × (product UNIT f e ≡ identity_operator))

-- the value of a word is the product of its letters modulo the cell, the identity where it has none
abbrev pub value : List Operator → Operator
value word = fold (product UNIT) identity_operator word

-- Span is the set of the values of all words
abbrev pub Span : List Operator → Operator → Type 0
Span list f = (word : List Operator) × All (IsLetter list) word × (value word ≡ f)

-- a list closes where some list of at most MAX_OPERATORS operators holds the value of every word, and every value has entries within 2
abbrev pub Closes : List Operator → Type 0
Closes list = (xs : List Operator) × (length xs ≤ MAX_OPERATORS) × ((f : Operator) → Span list f → Contains xs f) × ((f : Operator) → Span list f → HasEntriesWithin 2 f.w)

-- no two of the operators are the same
abbrev pub AreDistinct : List Operator → Type 0
AreDistinct ops = AllPairs (λ f g. f ≢ g) ops

-- more than MAX_OPERATORS operators of Span, no two the same
pub record AreTooMany (list many : List Operator) : Type 0 where
  pub spanned : All (Span list) many
  pub distinct : AreDistinct many
  pub beyond : MAX_OPERATORS < length many

-- an operator of Span that has an entry beyond 2
pub record IsTooWide (list : List Operator) (f : Operator) : Type 0 where
  pub spanned : Span list f
  pub wide : ¬ HasEntriesWithin 2 f.w

-- Span has more than MAX_OPERATORS members, or a member with an entry beyond 2
abbrev pub IsUnclosed : List Operator → Type 0
IsUnclosed list = ((many : List Operator) × AreTooMany list many) ⊎ ((f : Operator) × IsTooWide list f)
