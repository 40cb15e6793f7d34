-- Blanks are dropped from the end one by one.
use Rattle.std.proofs.Common.{◌≡◌, ℕ, ◌+◌, true, false, List, [], ◌∷◌, ◌++◌, length, take, get_or, refl, sym, ap, ◌∙◌, arith}
use Rattle.std.proofs.lemmas.List.{take_more, take_all}
use Rattle.triplet_text.specs.Bytes.{is_blank}
use Rattle.triplet_text.specs.Pieces.{onto, trim_end}

pub blank_dropped : (text : List ℕ) (byte : ℕ) → is_blank byte ≡ true → trim_end (text ++ byte ∷ []) ≡ trim_end text
blank_dropped [] byte h = rw h refl
blank_dropped (first ∷ text) byte h = ap (onto first) (blank_dropped text byte h)

pub other_kept : (text : List ℕ) (byte : ℕ) → is_blank byte ≡ false → trim_end (text ++ byte ∷ []) ≡ text ++ byte ∷ []
other_kept [] byte h = rw h refl
other_kept (first ∷ []) byte h = ap (onto first) (other_kept [] byte h)
other_kept (first ∷ second ∷ text) byte h = ap (onto first) (other_kept (second ∷ text) byte h)

-- a text is what stands before its last byte, and that byte
pub with_last : (text : List ℕ) (n : ℕ) → n + 1 ≡ length text → text ≡ take n text ++ get_or text n 0 ∷ []
with_last text n e = sym (take_all (n + 1) text (omega arith)) ∙ take_more text n 0 (omega arith)
