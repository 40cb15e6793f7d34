-- The first points of orbits, and the entries before a place.
use Rattle.std.proofs.Common.{◌≡◌, ◌↔◌, ◌⊎◌, ◌<◌, ◌∷◌, ◌++◌, [], ℕ, zero, suc, Bool, IsTrue, List, length, get_or, Option, Some, None, slice_get, inl, inr, ⊎_elim, sym, ap, subst, ◌∙◌, refl, arith}
use Rattle.std.proofs.lemmas.Option.{slice_get_read, slice_get_within}
use Rattle.std.specs.Prelude.{IfNone}
use Rattle.lattice_algebra.specs.Point.{Point, ◌≈◌}
use Rattle.triplet_text.specs.Points.{ArePointTexts}
use Rattle.data_lines.specs.Fields.{fields_of}
use Rattle.atom_expand.specs.Sites.{AtomSite, IsAtomLine}
use Rattle.atom_expand.specs.declared.expansion.Expanded.{Expanded}
use Rattle.atom_expand.specs.declared.expansion.Expanded.TheVariants.{Same}
use Rattle.atom_expand.specs.Steps.{BeginsWith, AreLinked}

pub same_some : {A : Type 0} (x y : A) → Some x ≡ Some y → x ≡ y
same_some x y e = cc

pub begins_is : (points : List Point) (r p : Point) (b : Bool) → slice_get points 0 ≡ Some r → IsTrue b ↔ (r ≈ p) → IsTrue b ↔ BeginsWith p points
begins_is points r p b e h = ((λ t. record { least = r; here = e; same = h.0 t }), (λ g. h.1 (subst (λ (v : Point). v ≈ p) (same_some g.least r (sym g.here ∙ e)) g.same)))

pub if_none : {A P Q : Type 0} (o : Option A) → (P → Q) → IfNone o P → IfNone o Q
if_none None f h = f h
if_none (Some x) f h = tt

-- an element that is read from the list
pub read_at : {A : Type 0} (items list : List A) (k at : ℕ) (x y : A) → items ≡ list → at ≡ k → k < length list → x ≡ get_or items at x → x ≡ y → slice_get list k ≡ Some y
read_at items list k at x y e f l g h = rw (sym e, sym f) (slice_get_read items (length items) at x refl (rw (e, f) l) g ∙ ap Some h)

-- a line whose fields are no label and three coordinates
pub no_site : (line label x y z : List ℕ) → fields_of line ≡ label ∷ x ∷ y ∷ z ∷ [] → ((p : Point) → ArePointTexts x y z p → ⊥) → (site : AtomSite) → IsAtomLine line site → ⊥
no_site line label x y z e none site h =
    let same : site.label ∷ h.x ∷ h.y ∷ h.z ∷ [] ≡ label ∷ x ∷ y ∷ z ∷ [] = sym h.fields ∙ e in
    let a : h.x ≡ x = cc in
    let b : h.y ≡ y = cc in
    let c : h.z ≡ z = cc in
    none site.at (subst (λ t. ArePointTexts x y t site.at) c (subst (λ t. ArePointTexts x t h.z site.at) b (subst (λ t. ArePointTexts t h.y h.z site.at) a h.at)))

-- ---- lists that grow by one

pub kept_at : {A : Type 0} (xs ys : List A) (k : ℕ) (x : A) → slice_get xs k ≡ Some x → slice_get (xs ++ ys) k ≡ Some x
kept_at [] ys k x e = absurd cc
kept_at (y ∷ xs) ys zero x e = e
kept_at (y ∷ xs) ys (suc k) x e = kept_at xs ys k x e

pub at_end : {A : Type 0} (xs : List A) (x : A) → slice_get (xs ++ x ∷ []) (length xs) ≡ Some x
at_end [] x = refl
at_end (y ∷ xs) x = at_end xs x

pub at_more : {A : Type 0} (xs : List A) (x y : A) (k : ℕ) → slice_get (xs ++ x ∷ []) k ≡ Some y → (slice_get xs k ≡ Some y) ⊎ ((k ≡ length xs) × (x ≡ y))
at_more [] x y zero e = inr (refl, same_some x y e)
at_more [] x y (suc k) e = absurd cc
at_more (z ∷ xs) x y zero e = inl e
at_more (z ∷ xs) x y (suc k) e = ⊎_elim (λ h. inl h) (λ h. inr (ap suc h.0, h.1)) (at_more xs x y k e)

-- the first site with an orbit has points under it, so it has a place in the list
pub linked_within : (items list : List Expanded) (k j : ℕ) → items ≡ list → AreLinked items → slice_get list k ≡ Some (Same j) → j < length list
linked_within items list k j e l h = let p = l k j (rw (sym e) at h) in subst (λ xs. j < length xs) e (slice_get_within items j _ p.1)

-- a place within the list has an element
pub some_at : {A : Type 0} (xs : List A) (k : ℕ) → k < length xs → (x : A) × (slice_get xs k ≡ Some x)
some_at [] k l = absurd (omega arith)
some_at (x ∷ xs) zero l = (x, refl)
some_at (x ∷ xs) (suc k) l = some_at xs k (omega (arith, l))
