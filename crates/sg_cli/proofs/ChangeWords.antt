-- A text is one change of basis at most, and two texts one change of the cell at most, and whether they are is decided.
use Rattle.std.proofs.Common.{◌≡◌, ◌⊎◌, ◌≤◌, List, ℕ, pos, inl, inr, ⊎_elim, refl, sym, ap, subst, ◌∙◌, arith}
use Rattle.std.proofs.lemmas.Int.{ints}
use Rattle.std.proofs.lemmas.Bool.{false≢true}
use Rattle.lattice_algebra.specs.Matrix.{Matrix, IsUnimodular, det}
use Rattle.lattice_algebra.specs.Operator.{Operator, HasEntriesWithin}
use Rattle.lattice_algebra.proofs.Numbers.{zero_or_other, entries_or_not}
use Rattle.space_groups.specs.Bases.{CoordinateChange, IsInvertible, IsChange, IsBasisChange}
use Rattle.space_groups.proofs.Changes.{IsInvertible-det}
use Rattle.std.specs.Prelude.{◌↔◌, Option, Some, None, IsSome, IfSome, IfNone}
use Rattle.triplet_text.specs.Integers.{IsNatural}
use Rattle.triplet_text.specs.Grammar.{IsTriplet}
use Rattle.triplet_text.proofs.GrammarLaw.{one_operator}
use Rattle.triplet_text.proofs.IntegerLaw.{one_natural, natural_or_none}
use Rattle.triplet_text.proofs.Decided.{triplet_or_none, unimodular_or_not}
use Rattle.basis_change.specs.declared.TheConstants.{MAX_CELL}
use Rattle.basis_change.proofs.Frames.{det_some}
use Rattle.basis_change.proofs.Decided.{OrNot, both, at_most}
use Rattle.sg_cli.specs.declared.TheConstants.{CELL_DIGITS}
use Rattle.sg_cli.specs.Words.{IsOne, AreTwo, IsBasisText, AreCellTexts}

-- ---- of the basis

pub one_basis : (text : List ℕ) (a b : CoordinateChange) → IsBasisText text a → IsBasisText text b → a ≡ b
one_basis text a b p q =
    p.change ∙ ap (λ (f : Operator). record { w = f.w; t = f.t; d = pos 1 }) (one_operator text p.operator q.operator p.triplet q.triplet) ∙ sym q.change

pub basis_or_none : (text : List ℕ) → ((c : CoordinateChange) × IsBasisText text c) ⊎ ((c : CoordinateChange) → IsBasisText text c → ⊥)
basis_or_none text =
    ⊎_elim
    (λ t. ⊎_elim
    (λ u. inl (record { w = t.0.w; t = t.0.t; d = pos 1 }, record { operator = t.0; triplet = t.1; unimodular = u; change = refl }))
    (λ n. inr (λ c h. n (subst (λ (f : Operator). IsUnimodular f.w) (one_operator text h.operator t.0 h.triplet t.1) h.unimodular)))
    (unimodular_or_not t.0.w))
    (λ none. inr (λ c h. none h.operator h.triplet))
    (triplet_or_none text)

-- a triplet of which no change was made
pub no_basis : (text : List ℕ) (f : Operator) (o : Option CoordinateChange) → IsTriplet text f → IsSome o ↔ IsUnimodular f.w → IfNone o ((c : CoordinateChange) → IsBasisText text c → ⊥)
no_basis text f (Some c) t s = tt
no_basis text f None t s = λ c h. false≢true (s.1 (subst (λ (g : Operator). IsUnimodular g.w) (one_operator text h.operator f h.triplet t) h.unimodular))

pub basis_change : (words : List (List ℕ)) (c : CoordinateChange) → IsOne IsBasisText words c → IsBasisChange c
basis_change words c h = subst IsBasisChange (sym h.say.change) (record { unimodular = h.say.unimodular; one = refl })

-- ---- of the cell

-- a denominator and a matrix that are in range
abbrev IsCellInRange : ℕ → Matrix → Type 0
IsCellInRange d w = ((1 ≤ d) × (d ≤ MAX_CELL)) × (HasEntriesWithin MAX_CELL w × IsInvertible w)

invertible_or_not : (w : Matrix) → OrNot (IsInvertible w)
invertible_or_not w = ⊎_elim (λ z. inr (λ i. det_some w i z)) (λ some. inl (IsInvertible-det w some)) (zero_or_other (det w))

cell_in_range_or_not : (d : ℕ) (w : Matrix) → OrNot (IsCellInRange d w)
cell_in_range_or_not d w = both (both (at_most 1 d) (at_most d MAX_CELL)) (both (entries_or_not MAX_CELL w) (invertible_or_not w))

abbrev cell_with : ℕ → Operator → CoordinateChange
cell_with d f = record { w = f.w; t = f.t; d = pos d }

module _ (over text : List ℕ) (d : ℕ) (f : Operator) (n : IsNatural CELL_DIGITS over d) (t : IsTriplet text f) where
  same_range : (c : CoordinateChange) → AreCellTexts over text c → IsCellInRange d f.w
  same_range c h =
      let e = one_natural CELL_DIGITS over h.d d h.number n in
      let g = one_operator text h.operator f h.triplet t in
      subst (λ (v : Matrix). IsCellInRange d v) (ap (λ (k : Operator). k.w) g) (subst (λ k. IsCellInRange k h.operator.w) e ((h.first, h.last), (h.within, h.invertible)))

  pub cell_said : OrNot (IsCellInRange d f.w) → ((c : CoordinateChange) × AreCellTexts over text c) ⊎ ((c : CoordinateChange) → AreCellTexts over text c → ⊥)
  cell_said (inl r) = inl (cell_with d f, record { d = d; operator = f; number = n; triplet = t; first = r.0.0; last = r.0.1; within = r.1.0; invertible = r.1.1; change = refl })
  cell_said (inr none) = inr (λ c h. none (same_range c h))

  -- what was made of a number and a triplet
  abbrev IsMade : Option CoordinateChange → Type 0
  IsMade o = IsSome o ↔ ((1 ≤ d) × (d ≤ MAX_CELL) × HasEntriesWithin MAX_CELL f.w × IsInvertible f.w)

  pub cell_made : (o : Option CoordinateChange) → IsMade o → IfSome o (λ c. c ≡ cell_with d f) → IfSome o (AreCellTexts over text)
  cell_made (Some c) s v = let r = s.0 refl in record { d = d; operator = f; number = n; triplet = t; first = r.0; last = r.1; within = r.2; invertible = r.3; change = v }
  cell_made None s v = tt

  pub no_cell : (o : Option CoordinateChange) → IsMade o → IfNone o ((c : CoordinateChange) → AreCellTexts over text c → ⊥)
  no_cell (Some c) s = tt
  no_cell None s = λ c h. let r = same_range c h in false≢true (s.1 (r.0.0, r.0.1, r.1.0, r.1.1))

pub one_cell : (over text : List ℕ) (a b : CoordinateChange) → AreCellTexts over text a → AreCellTexts over text b → a ≡ b
one_cell over text a b p q =
    let e = one_natural CELL_DIGITS over p.d q.d p.number q.number in
    let f = one_operator text p.operator q.operator p.triplet q.triplet in
    p.change ∙ (λ i. cell_with (e i) (f i)) ∙ sym q.change

pub cell_or_none : (over text : List ℕ) → ((c : CoordinateChange) × AreCellTexts over text c) ⊎ ((c : CoordinateChange) → AreCellTexts over text c → ⊥)
cell_or_none over text =
    ⊎_elim
    (λ n. ⊎_elim
    (λ t. cell_said over text n.0 t.0 n.1 t.1 (cell_in_range_or_not n.0 t.0.w))
    (λ none. inr (λ c h. none h.operator h.triplet))
    (triplet_or_none text))
    (λ none. inr (λ c h. none h.d h.number))
    (natural_or_none CELL_DIGITS over)

pub cell_change : (words : List (List ℕ)) (c : CoordinateChange) → AreTwo AreCellTexts words c → IsChange c
cell_change words c h =
    let first = h.say.first in
    subst IsChange (sym h.say.change) (record { invertible = h.say.invertible; positive = omega (arith, ints, first) })
