-- Words are one command at most, and whether they are one is decided.
use Rattle.std.proofs.Common.{◌≡◌, ◌⊎◌, ℕ, Bool, true, false, List, [], ◌∷◌, inl, inr, refl, sym, ap, subst, ◌∙◌}
use Rattle.phase_rules.specs.declared.pairs.Pairs.{Pairs}
use Rattle.phase_rules.specs.declared.pairs.Pairs.TheVariants.{Friedel, Apart}
use Rattle.sg_cli.specs.declared.words.Name.{Name}
use Rattle.std.specs.Prelude.{codes}
use Rattle.sg_cli.specs.Words.{Family, Bare, OfPoint, OfIndex, OfBox, OfGrid, OfBasis, OfCell, OfSeed, OfPairs, pairs_words, IsSeedText, AreThree, AreIndexTexts, AreBoxTexts, AreGridTexts, IsBasisText, AreCellTexts, MayEndWith, are_apart, Given, HasArguments, written, family, Asked, IsAsked, IsNoCommand}
use Rattle.sg_cli.proofs.Names.{one_name, name_or_none}
use Rattle.sg_cli.proofs.ThreeWords.{three_long, one_of_three, three_or_none}
use Rattle.sg_cli.proofs.FurtherWord.{is_alone, one_may_end, may_end_or_not}
use Rattle.triplet_text.specs.Points.{ArePointTexts}
use Rattle.triplet_text.proofs.PointTexts.{point_of_texts, point_or_none}
use Rattle.sg_cli.proofs.FewWords.{one_of_one, one_or_none, one_of_two, two_or_none}
use Rattle.sg_cli.proofs.ChangeWords.{one_basis, basis_or_none, one_cell, cell_or_none}
use Rattle.sg_cli.proofs.NumberWords.{one_index, index_or_none, one_box, box_or_none, one_grid, grid_or_none, one_seed, seed_or_none}

-- ---- Friedel pairs

abbrev anomalous : List ℕ
anomalous = codes "anomalous"

one_pairs : (a b : Pairs) → are_apart a ≡ are_apart b → a ≡ b
one_pairs Friedel Friedel e = refl
one_pairs Friedel Apart e = absurd cc
one_pairs Apart Friedel e = absurd cc
one_pairs Apart Apart e = refl

some_pairs : (apart : Bool) → (pairs : Pairs) × (apart ≡ are_apart pairs)
some_pairs false = (Friedel, refl)
some_pairs true = (Apart, refl)

same_pairs : {A : Type 0} (a b : A × Pairs) → ◌≡◌ {A = A × Bool} (a.0, are_apart a.1) (b.0, are_apart b.1) → a ≡ b
same_pairs {A} a b e =
    let first = ap (λ (g : A × Bool). g.0) e in
    let second = one_pairs a.1 b.1 (ap (λ (g : A × Bool). g.1) e) in
    λ i. (first i, second i)

one_pairs_words : (a b : Pairs) (words : List (List ℕ)) → words ≡ pairs_words a → words ≡ pairs_words b → a ≡ b
one_pairs_words Friedel Friedel words p q = refl
one_pairs_words Friedel Apart words p q = let e = sym p ∙ q in absurd cc
one_pairs_words Apart Friedel words p q = let e = sym p ∙ q in absurd cc
one_pairs_words Apart Apart words p q = refl

pairs_or_none : (words : List (List ℕ)) → ((pairs : Pairs) × (words ≡ pairs_words pairs)) ⊎ ((pairs : Pairs) → words ≡ pairs_words pairs → ⊥)
pairs_or_none [] = inl (Friedel, refl)
pairs_or_none (first ∷ more) = by (is_alone anomalous (first ∷ more))
  where
    no : (first ∷ more ≡ anomalous ∷ [] → ⊥) → (pairs : Pairs) → first ∷ more ≡ pairs_words pairs → ⊥
    no n Friedel e = absurd cc
    no n Apart e = n e

    by : (first ∷ more ≡ anomalous ∷ []) ⊎ (first ∷ more ≡ anomalous ∷ [] → ⊥) → ((pairs : Pairs) × (first ∷ more ≡ pairs_words pairs)) ⊎ ((pairs : Pairs) → first ∷ more ≡ pairs_words pairs → ⊥)
    by (inl e) = inl (Apart, e)
    by (inr n) = inr (no n)

module _ {A : Type 0} (Say : List ℕ → List ℕ → List ℕ → A → Type 0) (words : List (List ℕ)) where
  abbrev Ends : A → Bool → Type 0
  Ends a apart = MayEndWith anomalous (λ three. AreThree Say three a) words apart

  with_pairs : ((g : A × Bool) × Ends g.0 g.1) ⊎ ((g : A × Bool) → Ends g.0 g.1 → ⊥) → ((g : A × Pairs) × Ends g.0 (are_apart g.1)) ⊎ ((g : A × Pairs) → Ends g.0 (are_apart g.1) → ⊥)
  with_pairs (inl h) = let p = some_pairs h.0.1 in inl ((h.0.0, p.0), subst (Ends h.0.0) p.1 h.1)
  with_pairs (inr none) = inr (λ g h. none (g.0, are_apart g.1) h)

-- ---- arguments, by their families

one_given : (f : Family) (a b : Given f) (words : List (List ℕ)) → HasArguments f a words → HasArguments f b words → a ≡ b
one_given Bare a b words p q = refl
one_given OfPoint a b words p q = one_of_three ArePointTexts point_of_texts a b words p q
one_given OfIndex a b words p q = same_pairs a b (one_may_end anomalous 3 (λ h three. AreThree AreIndexTexts three h) (three_long AreIndexTexts) (one_of_three AreIndexTexts one_index) (a.0, are_apart a.1) (b.0, are_apart b.1) words p q)
one_given OfBox a b words p q = same_pairs a b (one_may_end anomalous 3 (λ box three. AreThree AreBoxTexts three box) (three_long AreBoxTexts) (one_of_three AreBoxTexts one_box) (a.0, are_apart a.1) (b.0, are_apart b.1) words p q)
one_given OfGrid a b words p q = one_of_three AreGridTexts one_grid a b words p q
one_given OfBasis a b words p q = one_of_one IsBasisText one_basis a b words p q
one_given OfCell a b words p q = one_of_two AreCellTexts one_cell a b words p q
one_given OfSeed a b words p q = one_of_one IsSeedText one_seed a b words p q
one_given OfPairs a b words p q = one_pairs_words a b words p q

abbrev GivenOrNone : Family → List (List ℕ) → Type 0
GivenOrNone f words = ((given : Given f) × HasArguments f given words) ⊎ ((given : Given f) → HasArguments f given words → ⊥)

given_or_none : (f : Family) (words : List (List ℕ)) → GivenOrNone f words
given_or_none Bare [] = inl (tt, refl)
given_or_none Bare (word ∷ words) = inr (λ given e. absurd cc)
given_or_none OfPoint words = three_or_none ArePointTexts point_or_none words
given_or_none OfIndex words = with_pairs AreIndexTexts words (may_end_or_not anomalous 3 (λ h three. AreThree AreIndexTexts three h) (three_long AreIndexTexts) (three_or_none AreIndexTexts index_or_none) words)
given_or_none OfBox words = with_pairs AreBoxTexts words (may_end_or_not anomalous 3 (λ box three. AreThree AreBoxTexts three box) (three_long AreBoxTexts) (three_or_none AreBoxTexts box_or_none) words)
given_or_none OfGrid words = three_or_none AreGridTexts grid_or_none words
given_or_none OfBasis words = one_or_none IsBasisText basis_or_none words
given_or_none OfCell words = two_or_none AreCellTexts cell_or_none words
given_or_none OfSeed words = one_or_none IsSeedText seed_or_none words
given_or_none OfPairs words = pairs_or_none words

-- ---- commands

same_asked : (a b : Asked) (words : List (List ℕ)) → a.name ≡ b.name → HasArguments (family a.name) a.given words → HasArguments (family b.name) b.given words → a ≡ b
same_asked a b words e p =
    subst (λ (name : Name). (given : Given (family name)) → HasArguments (family name) given words → a ≡ record { name = name; given = given })
    e (λ given q. ap (λ (g : Given (family a.name)). record { name = a.name; given = g }) (one_given (family a.name) a.given given words p q)) b.given

pub one_asked : (words : List (List ℕ)) (a b : Asked) → IsAsked words a → IsAsked words b → a ≡ b
one_asked words a b p q =
    let e : written a.name ∷ p.arguments ≡ written b.name ∷ q.arguments = sym p.words_are ∙ q.words_are in
    let name : written a.name ≡ written b.name = cc in
    let arguments : p.arguments ≡ q.arguments = cc in
    same_asked a b q.arguments (one_name a.name b.name name) (subst (HasArguments (family a.name) a.given) arguments p.given) q.given

-- a word that is no name, or a name with no arguments of its own, is no command
pub no_name : (words : List (List ℕ)) (word : List ℕ) (arguments : List (List ℕ)) → words ≡ word ∷ arguments → ((name : Name) → word ≡ written name → ⊥) → IsNoCommand words
no_name words word arguments e none = λ a h. let same = sym e ∙ h.words_are in none a.name cc

pub no_given : (words : List (List ℕ)) (word : List ℕ) (arguments : List (List ℕ)) (name : Name) → words ≡ word ∷ arguments → word ≡ written name → ((given : Given (family name)) → HasArguments (family name) given arguments → ⊥) → IsNoCommand words
no_given words word arguments name e is none = λ a h.
    let same : word ∷ arguments ≡ written a.name ∷ h.arguments = sym e ∙ h.words_are in
    let rest : arguments ≡ h.arguments = cc in
    let one : name ≡ a.name = one_name name a.name cc in
    subst (λ (n : Name). ((given : Given (family n)) → HasArguments (family n) given arguments → ⊥) → ⊥) (sym one)
    (λ no. no a.given (subst (HasArguments (family a.name) a.given) (sym rest) h.given)) none

pub asked_or_none : (words : List (List ℕ)) → ((asked : Asked) × IsAsked words asked) ⊎ IsNoCommand words
asked_or_none [] = inr (λ a h. let e = h.words_are in absurd cc)
asked_or_none (word ∷ arguments) = by (name_or_none word)
  where
    by_arguments : (name : Name) → word ≡ written name → GivenOrNone (family name) arguments → ((asked : Asked) × IsAsked (word ∷ arguments) asked) ⊎ IsNoCommand (word ∷ arguments)
    by_arguments name is (inl g) = inl (record { name = name; given = g.0 }, record { arguments = arguments; words_are = ap (λ (w : List ℕ). w ∷ arguments) is; given = g.1 })
    by_arguments name is (inr none) = inr (no_given (word ∷ arguments) word arguments name refl is none)

    by : ((name : Name) × (word ≡ written name)) ⊎ ((name : Name) → word ≡ written name → ⊥) → ((asked : Asked) × IsAsked (word ∷ arguments) asked) ⊎ IsNoCommand (word ∷ arguments)
    by (inl n) = by_arguments n.0 n.1 (given_or_none (family n.0) arguments)
    by (inr none) = inr (no_name (word ∷ arguments) word arguments refl none)
