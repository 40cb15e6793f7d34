-- A label in place: its bytes, and zeros behind them.
use Rattle.std.specs.Prelude.{◌≡◌, ◌≤◌, ℕ, List, length, take}
use Rattle.std.proofs.Common.{ap, sym, ◌∙◌}
use Rattle.std.proofs.lemmas.List.{length-take-le}
use Rattle.atom_expand.specs.declared.label.Label.TheInside.{Inside}
use Rattle.atom_expand.specs.Labels.{IsLabel, with_zeros}

-- so many of the bytes are a label, and zeros stand behind them
pub record IsPadded (bytes : List ℕ) (len : ℕ) : Type 0 where
  pub within : len ≤ length bytes
  pub label : IsLabel (take len bytes)
  pub padding : bytes ≡ with_zeros (take len bytes) len

-- how a label is stored
abbrev pub padded : List ℕ → Inside
padded text = record { bytes = with_zeros text (length text); len = length text }

pub padded_back : (a : Inside) → IsPadded a.bytes a.len → padded (take a.len a.bytes) ≡ a
padded_back a h =
    let e = length-take-le a.len a.bytes h.within in
    let b = ap (with_zeros (take a.len a.bytes)) e ∙ sym h.padding in
    λ i. record { bytes = b i; len = e i }
