-- The lines of elements that are asked by their places.
use Rattle.std.proofs.Common.{◌≡◌, ℕ, ◌+◌, ◌≤◌, List, [], ◌∷◌, ◌++◌, drop, length, Some, slice_get, Contains, refl, sym, ap, subst, ◌∙◌, take, take-append-drop}
use Rattle.std.specs.List.{flat_map}
use Rattle.std.proofs.lemmas.List.{drop_all, drop_more}
use Rattle.std.proofs.lemmas.Option.{slice_get_within, get_or_from_slice_get}
use Rattle.std.proofs.lemmas.List.Elements.{Contains-append_right}
use Rattle.page_print.specs.Lines.{AreLines, AddsSuch, AddsLine}
use Rattle.page_print.proofs.LineTexts.{some_lines}

module _ {A : Type 0} (IsLine : A → List ℕ → Type 0) (members : List A) where
  -- behind the last place there is no line
  pub none_left : (at : ℕ) → length members ≤ at → AreLines IsLine (drop at members) []
  none_left at l = subst (λ xs. AreLines IsLine xs []) (sym (drop_all at members l)) AreLines.end

  -- the line of the element at a place was added, and each element has a line
  pub adds_line : (at : ℕ) (x : A) (old new : List ℕ) → slice_get members at ≡ Some x → AddsSuch (IsLine x) old new → ((y : A) → Contains members y → (line : List ℕ) × IsLine y line)
      → AddsLine (AreLines IsLine (drop at members)) (AreLines IsLine (drop (at + 1) members)) old new
  adds_line at x old new is added each =
      let cut = drop_more members at x (slice_get_within members at x is) ∙ ap (λ y. y ∷ drop (at + 1) members) (get_or_from_slice_get members at x x is) in
      let whole = take-append-drop (at + 1) members in
      record {
        line = added.0;
        added = added.2;
        before = λ rest more. subst (λ xs. AreLines IsLine xs (added.0 ++ rest)) (sym cut) (AreLines.line added.1 more);
        some = some_lines IsLine (drop (at + 1) members) (λ y c. each y (subst (λ xs. Contains xs y) whole (Contains-append_right (take (at + 1) members) (drop (at + 1) members) y c)));
      }

-- where an element has one text
module _ {A : Type 0} (text_of : A → List ℕ) (members : List A) where
  abbrev IsTextFrom : ℕ → List ℕ → Type 0
  IsTextFrom at text = text ≡ flat_map text_of (drop at members)

  pub no_text_left : (at : ℕ) → length members ≤ at → IsTextFrom at []
  no_text_left at l = sym (ap (flat_map text_of) (drop_all at members l))

  pub adds_text : (at : ℕ) (x : A) (old new : List ℕ) → slice_get members at ≡ Some x → new ≡ old ++ text_of x → AddsLine (IsTextFrom at) (IsTextFrom (at + 1)) old new
  adds_text at x old new is added =
      let cut = drop_more members at x (slice_get_within members at x is) ∙ ap (λ y. y ∷ drop (at + 1) members) (get_or_from_slice_get members at x x is) in
      record {
        line = text_of x;
        added = added;
        before = λ rest more. ap (λ t. text_of x ++ t) more ∙ sym (ap (flat_map text_of) cut);
        some = (flat_map text_of (drop (at + 1) members), refl);
      }
