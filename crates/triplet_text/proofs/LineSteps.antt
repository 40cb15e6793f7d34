-- Lines that were read one by one.
use Rattle.std.proofs.Common.{◌≡◌, ℕ, ◌+◌, ◌<◌, ◌≤◌, Bool, true, false, IsTrue, ◌↔◌, List, [], ◌∷◌, ◌++◌, Option, Some, None, MatchOption, Bor, length, sym, subst, ◌∙◌, refl, arith}
use Rattle.lattice_algebra.specs.Operator.{Operator}
use Rattle.triplet_text.specs.declared.lines.LineFault.{LineFault}
use Rattle.triplet_text.specs.declared.lines.LineFault.TheVariants.{Unreadable, NotUnimodular, NoMemory}
use borrow.Author.Tests.{eqb-true}
use Rattle.triplet_text.specs.Bytes.{is_blank, hash}
use Rattle.triplet_text.specs.Tokens.{Each}
use Rattle.triplet_text.specs.Pieces.{is_skipped}
use Rattle.triplet_text.specs.Lines.{IsSkipped, blank, comment, lines_of, IsRead, IsFaultAt, IsFaultOf, IsUnreadable, IsNotUnimodular, IsTripletLine}
use Rattle.triplet_text.proofs.SaidLines.{AreSaidBefore, first_bad}

-- ---- skipped lines

onto_skipped : (byte : ℕ) (line : List ℕ) → is_blank byte ≡ true → IsSkipped line → IsSkipped (byte ∷ line)
onto_skipped byte line b (blank h) = blank (b, h)
onto_skipped byte line b (comment blanks rest h) = comment (byte ∷ blanks) rest (b, h)

pub skipped_from : (line : List ℕ) → is_skipped line ≡ true → IsSkipped line
skipped_from [] e = blank tt
skipped_from (byte ∷ line) e = by (is_blank byte) refl (skipped_from line)
  where
    by : (b : Bool) → is_blank byte ≡ b → (is_skipped line ≡ true → IsSkipped line) → IsSkipped (byte ∷ line)
    by true h i = onto_skipped byte line h (i (rw h at e))
    by false h i = let is = eqb-true byte hash (rw h at e) in subst (λ (b : ℕ). IsSkipped (b ∷ line)) (sym is) (comment [] line tt)

skipped_blank : (line : List ℕ) → Each is_blank line → is_skipped line ≡ true
skipped_blank [] h = refl
skipped_blank (byte ∷ line) h = rw h.0 (skipped_blank line h.1)

skipped_comment : (blanks rest : List ℕ) → Each is_blank blanks → is_skipped (blanks ++ hash ∷ rest) ≡ true
skipped_comment [] rest h = refl
skipped_comment (byte ∷ blanks) rest h = rw h.0 (skipped_comment blanks rest h.1)

skipped_to : {line : List ℕ} → IsSkipped line → is_skipped line ≡ true
skipped_to (blank {line = line} h) = skipped_blank line h
skipped_to (comment blanks rest h) = skipped_comment blanks rest h

pub skipped_is : (line : List ℕ) (b : Bool) → b ≡ is_skipped line → IsTrue b ↔ IsSkipped line
skipped_is line b e = ((λ t. skipped_from line (sym e ∙ t)), (λ s. e ∙ skipped_to s))

pub not_skipped : (line : List ℕ) (b : Bool) → b ≡ is_skipped line → b ≡ false → ¬ IsSkipped line
not_skipped line b is e s = let k = skipped_to s in cc

-- ---- lines one by one

-- the lines that are left, and a number that falls with them
abbrev pub lines_left : Option (Bor (List ℕ)) → List (List ℕ)
lines_left None = []
lines_left (Some rest) = lines_of rest.now

abbrev pub left : Option (Bor (List ℕ)) → ℕ
left None = 0
left (Some rest) = length rest.now + 1

pub lines_cut : (rest : Option (Bor (List ℕ))) (text line : List ℕ) → MatchOption rest (lines_of text ≡ line ∷ []) (λ more. lines_of text ≡ line ∷ lines_of more.now) → lines_of text ≡ line ∷ lines_left rest
lines_cut None text line h = h
lines_cut (Some more) text line h = h

pub fewer_left : (rest : Option (Bor (List ℕ))) (text line : List ℕ) → MatchOption rest (line ≡ text) (λ more. length more.now < length text) → left rest ≤ length text
fewer_left None text line h = omega arith
fewer_left (Some more) text line h = omega arith

-- the lines before line k are read, and what they say is listed; the further ones are left
abbrev pub AreReadBefore : List (List ℕ) → List (List ℕ) → ℕ → List Operator → Type 0
AreReadBefore = AreSaidBefore IsRead 1

pub fault_found : (lines left : List (List ℕ)) (line : List ℕ) (k : ℕ) (list : List Operator) (fault : LineFault) → AreReadBefore lines (line ∷ left) k list → IsFaultAt k line fault → IsFaultOf lines fault
fault_found lines left line k list (Unreadable n) h f = first_bad IsRead IsUnreadable 1 lines left line k n list h f.0 f.1
fault_found lines left line k list (NotUnimodular n) h f = first_bad IsRead IsNotUnimodular 1 lines left line k n list h f.0 f.1
fault_found lines left line k list NoMemory h f = (k, first_bad IsRead IsTripletLine 1 lines left line k k list h refl f)
