-- No two commands have one name, and whether a word is a name is decided.
use Rattle.std.specs.Prelude.{if◌then◌else◌}
use Rattle.std.proofs.Common.{◌≡◌, ◌⊎◌, ℕ, Bool, true, false, List, [], ◌∷◌, Option, Some, None, inl, inr, refl, sym, ap, ◌∙◌}
use Rattle.std.specs.Str.{bytes_eq}
use Rattle.std.proofs.lemmas.Slice.Eq.{bytes_eq-Decides}
use Rattle.sg_cli.specs.declared.words.Name.{Name}
use Rattle.sg_cli.specs.declared.words.Name.TheVariants as named
use Rattle.sg_cli.specs.Words.{written, all_names}

-- the first of the names that is written so
first_written : List Name → List ℕ → Option Name
first_written [] word = None
first_written (name ∷ names) word = if bytes_eq (written name) word then Some name else first_written names word

found : (name : Name) → first_written all_names (written name) ≡ Some name
unfolding first_written
found named.Ops = refl
found other = refl

pub one_name : (a b : Name) → written a ≡ written b → a ≡ b
one_name a b e = let same : Some a ≡ Some b = sym (found a) ∙ ap (first_written all_names) e ∙ found b in cc

written_so : (names : List Name) (word : List ℕ) (name : Name) → first_written names word ≡ Some name → written name ≡ word
unfolding first_written
written_so [] word name e = absurd cc
written_so (first ∷ names) word name e = by (bytes_eq (written first) word) refl e (written_so names word name)
  where
    by : (b : Bool) → bytes_eq (written first) word ≡ b → (if b then Some first else first_written names word) ≡ Some name → (first_written names word ≡ Some name → written name ≡ word) → written name ≡ word
    by true s f later = let is : first ≡ name = cc in ap written (sym is) ∙ (bytes_eq-Decides (written first) word).0 s
    by false s f later = later f

pub name_or_none : (word : List ℕ) → ((name : Name) × (word ≡ written name)) ⊎ ((name : Name) → word ≡ written name → ⊥)
name_or_none word = by (first_written all_names word) refl
  where
    by : (o : Option Name) → first_written all_names word ≡ o → ((name : Name) × (word ≡ written name)) ⊎ ((name : Name) → word ≡ written name → ⊥)
    by (Some name) e = inl (name, sym (written_so all_names word name e))
    by None e = inr (λ name is. let same = sym e ∙ ap (first_written all_names) is ∙ found name in absurd cc)
