-- A sum: a term with or without a sign before it, and any number of further terms, each with one sign before it.
use Rattle.std.specs.Prelude.{if◌then◌else◌, true, ◌≡◌, ℕ, List, [], ◌∷◌, Option, Some, option_and_then}
use Rattle.std.specs.List.{list_all}
use Rattle.triplet_text.specs.declared.component.Component.{Component}
use Rattle.triplet_text.specs.Bytes.{is_blank, is_sign}
use Rattle.triplet_text.specs.Pieces.{trim}
use Rattle.triplet_text.specs.Components.{no_terms, plus, behind}
use Rattle.triplet_text.specs.Terms.{term_of}

-- what stands before the first sign
abbrev pub before_sign : List ℕ → List ℕ
before_sign [] = []
before_sign (byte ∷ text) = if is_sign byte then [] else byte ∷ before_sign text

-- nothing, or a sign and what follows it
abbrev pub StartsWithSign : List ℕ → Type 0
StartsWithSign [] = Unit {0}
StartsWithSign (byte ∷ text) = is_sign byte ≡ true

-- each sign, with what stands between it and the next
abbrev pub behind_signs : List ℕ → List (ℕ × List ℕ)
behind_signs [] = []
behind_signs (byte ∷ text) = if is_sign byte then (byte, before_sign text) ∷ behind_signs text else behind_signs text

-- what is added so far, and the terms behind their signs
abbrev pub total : Component → List (ℕ × List ℕ) → Option Component
total a [] = Some a
total a (p ∷ ps) = option_and_then (λ t. total (plus a (behind p.0 t)) ps) (term_of (trim p.1))

-- a first term, which may be left out before a first sign, and the terms behind their signs
abbrev pub sum_by : List ℕ → List (ℕ × List ℕ) → Option Component
sum_by first [] = option_and_then (λ t. total t []) (term_of (trim first))
sum_by first (p ∷ ps) =
    if list_all is_blank first
    then total no_terms (p ∷ ps)
    else option_and_then (λ t. total t (p ∷ ps)) (term_of (trim first))

abbrev pub sum_of : List ℕ → Option Component
sum_of text = sum_by (before_sign text) (behind_signs text)
