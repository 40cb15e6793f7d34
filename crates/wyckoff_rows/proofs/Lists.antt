-- Places in lists that grow.
use Rattle.std.proofs.Common.{◌≡◌, ◌<◌, ◌+◌, ℕ, zero, suc, List, [], ◌∷◌, ◌++◌, length, get_or, slice_get, Some, Contains, map, option_map, ap, sym, ◌∙◌, arith, length-append, refl}
use Rattle.std.proofs.lemmas.Option.{slice_get-get_or, slice_get_within, get_or_from_slice_get, slice_get-map}
use Rattle.std.proofs.lemmas.List.{get_or_append_left}
use Rattle.wyckoff_rows.specs.Steps.{last_set}
use Rattle.wyckoff_rows.specs.declared.entry.Entry.{Entry}

pub some_at : {X : Type 0} (xs : List X) (k : ℕ) → k < length xs → (x : X) × (slice_get xs k ≡ Some x)
some_at [] k h = absurd (omega (arith, h))
some_at (x ∷ xs) k h = (get_or (x ∷ xs) k x, slice_get-get_or (x ∷ xs) k x h)

pub contains_at : {X : Type 0} (xs : List X) (k : ℕ) (x : X) → slice_get xs k ≡ Some x → Contains xs x
contains_at xs k x e = (k, slice_get_within xs k x e, get_or_from_slice_get xs k x x e)

pub at_contains : {X : Type 0} (xs : List X) (x : X) (c : Contains xs x) → slice_get xs c.0 ≡ Some x
at_contains xs x c = slice_get-get_or xs c.0 x c.1 ∙ ap Some c.2

pub at_append : {X : Type 0} (xs ys : List X) (k : ℕ) (x : X) → slice_get xs k ≡ Some x → slice_get (xs ++ ys) k ≡ Some x
at_append xs ys k x e =
    let h : k < length xs = slice_get_within xs k x e in
    slice_get-get_or (xs ++ ys) k x (omega (arith, length-append xs ys)) ∙ ap Some (get_or_append_left xs ys x k h ∙ get_or_from_slice_get xs k x x e)

pub back_append : {X : Type 0} (xs ys : List X) (k : ℕ) (x : X) → k < length xs → slice_get (xs ++ ys) k ≡ Some x → slice_get xs k ≡ Some x
back_append xs ys k x h e = slice_get-get_or xs k x h ∙ ap Some (sym (get_or_append_left xs ys x k h) ∙ get_or_from_slice_get (xs ++ ys) k x x e)

pub at_seam : {X : Type 0} (xs : List X) (x : X) → slice_get (xs ++ x ∷ []) (length xs) ≡ Some x
at_seam [] x = refl
at_seam (y ∷ xs) x = at_seam xs x

pub contains_last : {X : Type 0} (xs : List X) (x : X) → Contains (xs ++ x ∷ []) x
contains_last xs x = contains_at (xs ++ x ∷ []) (length xs) x (at_seam xs x)

pub map_at : {X Y : Type 0} (f : X → Y) (xs : List X) (k : ℕ) (x : X) → slice_get xs k ≡ Some x → slice_get (map f xs) k ≡ Some (f x)
map_at f xs k x e = slice_get-map f xs k ∙ ap (option_map f) e

pub last_appended : (xs : List Entry) (t : Entry) → last_set (xs ++ t ∷ []) ≡ t.set
last_appended [] t = refl
last_appended (u ∷ []) t = refl
last_appended (u ∷ v ∷ xs) t = last_appended (v ∷ xs) t

pub last_at : (xs : List Entry) (n : ℕ) (t : Entry) → length xs ≡ n + 1 → slice_get xs n ≡ Some t → last_set xs ≡ t.set
last_at [] n t h e = cc
last_at (u ∷ []) zero t h e = let q : u ≡ t = cc in ap (λ (x : Entry). x.set) q
last_at (u ∷ []) (suc n) t h e = cc
last_at (u ∷ v ∷ xs) zero t h e = absurd (omega (arith, h))
last_at (u ∷ v ∷ xs) (suc n) t h e = last_at (v ∷ xs) n t (omega (arith, h)) e
