-- What a walk over a list keeps: what holds of its first elements. And what is said of an answer that is none.
use Rattle.std.proofs.Common.{◌≡◌, ◌↔◌, Option, None, IfSome, IsSome, Result, Ok, Err, IfOk, OnOk, ◌≤◌, ◌<◌, ◌+◌, ◌++◌, ◌∷◌, [], ℕ, zero, suc, List, take, length, slice_get, Some, All, Contains, ap, sym, ◌∙◌, subst, refl, arith}
use Rattle.std.proofs.lemmas.Bool.{false≢true}
use Rattle.std.proofs.lemmas.List.{take_all}
use Rattle.std.proofs.lemmas.List.Elements.{All-contains, All-push, All-nil}
use Rattle.std.proofs.lemmas.Option.{get_or_from_slice_get, slice_get_within}
use Rattle.std.proofs.lemmas.Grind.{take_at_read}

pub contains_at : {X : Type 0} (xs : List X) (i : ℕ) (x : X) → slice_get xs i ≡ Some x → Contains xs x
contains_at xs i x e = (i, slice_get_within xs i x e, get_or_from_slice_get xs i x x e)

pub one_more : {X : Type 0} (xs : List X) (i : ℕ) (x : X) → slice_get xs i ≡ Some x → take (i + 1) xs ≡ take i xs ++ x ∷ []
one_more xs i x e = (take_at_read xs i x (slice_get_within xs i x e)).1 ∙ ap (λ v. take i xs ++ v ∷ []) (get_or_from_slice_get xs i x x e)

pub none_yet : {X : Type 0} (P : X → Type 0) (xs : List X) → All P (take 0 xs)
none_yet P [] = All-nil P
none_yet P (x ∷ xs) = All-nil P

pub one_more_of : {X : Type 0} (P : X → Type 0) (xs : List X) (i : ℕ) (x : X) → slice_get xs i ≡ Some x → All P (take i xs) → P x → All P (take (i + 1) xs)
one_more_of P xs i x e a p = subst (All P) (sym (one_more xs i x e)) (All-push P (take i xs) x a p)

pub all_of : {X : Type 0} (P : X → Type 0) (xs : List X) (i : ℕ) → length xs ≤ i → All P (take i xs) → All P xs
all_of P xs i l a = subst (All P) (take_all i xs l) a

pub at_of : {X : Type 0} (P : X → Type 0) (xs : List X) (i : ℕ) (x : X) → slice_get xs i ≡ Some x → All P xs → P x
at_of P xs i x e a = All-contains P xs x a (contains_at xs i x e)

-- ---- one list behind another

pub read_front : {X : Type 0} (xs ys : List X) (i : ℕ) → i < length xs → slice_get (xs ++ ys) i ≡ slice_get xs i
read_front [] ys i l = absurd (omega arith)
read_front (x ∷ xs) ys zero l = refl
read_front (x ∷ xs) ys (suc i) l = read_front xs ys i (omega (arith, l))

pub read_behind : {X : Type 0} (xs ys : List X) (i j : ℕ) → i ≡ length xs + j → slice_get (xs ++ ys) i ≡ slice_get ys j
read_behind [] ys i j e = ap (slice_get ys) (omega (arith, e))
read_behind (x ∷ xs) ys zero j e = absurd (omega (arith, e))
read_behind (x ∷ xs) ys (suc i) j e = read_behind xs ys i j (omega (arith, e))

-- ---- none

pub none_some : {A : Type 0} (o : Option A) (P : Type 0) → o ≡ None → (P → ⊥) → IsSome o ↔ P
none_some o P e h = ((λ s. absurd (false≢true (subst IsSome e s))), (λ p. absurd (h p)))

pub none_if : {A : Type 0} (o : Option A) (P : A → Type 0) → o ≡ None → IfSome o P
none_if o P e = subst (λ v. IfSome v P) (sym e) tt

-- ---- what is said of an Ok

pub IfOk_then : {A E : Type 0} (r : Result A E) (P Q : A → Type 0) → IfOk r P → ((a : A) → P a → Q a) → IfOk r Q
IfOk_then (Ok a) P Q p f = f a p
IfOk_then (Err e) P Q p f = tt

pub IfOk_both : {A E : Type 0} (r : Result A E) (P Q R : A → Type 0) → IfOk r P → IfOk r Q → ((a : A) → P a → Q a → R a) → IfOk r R
IfOk_both (Ok a) P Q R p q f = f a p q
IfOk_both (Err e) P Q R p q f = tt

pub IfOk_on : {A E : Type 0} (r : Result A E) (P Q : A → Type 0) (D : Type 0) → IfOk r P → OnOk r D → ((a : A) → P a → D → Q a) → IfOk r Q
IfOk_on (Ok a) P Q D p d f = f a p d
IfOk_on (Err e) P Q D p d f = tt

pub OnOk_from : {A E : Type 0} (r : Result A E) (P : A → Type 0) (D : Type 0) → IfOk r P → ((a : A) → P a → D) → OnOk r D
OnOk_from (Ok a) P D p f = f a p
OnOk_from (Err e) P D p f = tt

pub OnOk_on : {A E : Type 0} (r : Result A E) (P : A → Type 0) (C D : Type 0) → IfOk r P → OnOk r C → ((a : A) → P a → C → D) → OnOk r D
OnOk_on (Ok a) P C D p c f = f a p c
OnOk_on (Err e) P C D p c f = tt
