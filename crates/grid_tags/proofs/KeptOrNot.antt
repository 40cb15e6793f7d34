-- Whether a group keeps a grid is decided.
use Rattle.std.proofs.Common.{◌⊎◌, ◌<◌, ℕ, ℤ, pos, ◌*ℤ◌, List, [], ◌∷◌, inl, inr, ⊎_elim, subst, Contains}
use Rattle.std.specs.Int.RustNames.{int_div, int_rem}
use Rattle.finite_groups.proofs.Members as lists
use Rattle.lattice_algebra.specs.Operator.{Operator}
use Rattle.lattice_algebra.proofs.Numbers.{zero_or_other}
use Rattle.lattice_algebra.proofs.Quotients.{rem_of_multiple, multiple_of_quotient}
use Rattle.exact_ops.specs.declared.TheConstants.{UNIT}
use Rattle.exact_ops.proofs.Narrow.{some_parts}
use Rattle.grid_tags.specs.Grids.{Grid, IsGridInRange, IsKept, IsKeptBy}
use Rattle.grid_tags.specs.Steps.{IsWhole, IsAxisKept}
use Rattle.grid_tags.proofs.Images.{HasSides, axes_kept, kept_by_axes}
use Rattle.grid_tags.proofs.Tags.{sides_of}

abbrev pub OrNot : Type 0 → Type 0
OrNot A = A ⊎ (A → ⊥)

-- three facts at once
all_three : {A B C D : Type 0} → (A → B → C → D) → (D → A) → (D → B) → (D → C) → OrNot A → OrNot B → OrNot C → OrNot D
all_three f p q r (inl a) (inl b) (inl c) = inl (f a b c)
all_three f p q r (inr n) b c = inr (λ d. n (p d))
all_three f p q r (inl a) (inr n) c = inr (λ d. n (q d))
all_three f p q r (inl a) (inl b) (inr n) = inr (λ d. n (r d))

whole_or_not : (w : ℤ) (n m : ℕ) → 0 < m → OrNot (IsWhole w n m)
whole_or_not w n m h = ⊎_elim
    (λ z. inl (int_div (w *ℤ pos n) (pos m), multiple_of_quotient (w *ℤ pos n) (pos m) z))
    (λ k. inr (λ whole. k (rem_of_multiple (w *ℤ pos n) (pos m) whole.0 h whole.1)))
    (zero_or_other (int_rem (w *ℤ pos n) (pos m)))

axis_or_not : (u v t : ℤ) (n m l : ℕ) → 0 < m → 0 < l → OrNot (IsAxisKept u v t n m l)
axis_or_not u v t n m l hm hl = all_three (λ a b c. record { second = a; third = b; shift = c }) (λ k. k.second) (λ k. k.third) (λ k. k.shift)
    (whole_or_not u n m hm) (whole_or_not v n l hl) (whole_or_not t n UNIT some_parts)

kept_by_or_not : (s : Grid) → HasSides s → (f : Operator) → OrNot (IsKeptBy s f)
kept_by_or_not s h f = ⊎_elim (λ a. inl (kept_by_axes s h f a)) (λ n. inr (λ k. n (axes_kept s h f k)))
    (all_three (λ a b c. record { x = a; y = b; z = c }) (λ k. k.x) (λ k. k.y) (λ k. k.z)
    (axis_or_not f.w.xy f.w.xz f.t.x s.a s.b s.c h.b h.c)
    (axis_or_not f.w.yx f.w.yz f.t.y s.b s.a s.c h.a h.c)
    (axis_or_not f.w.zx f.w.zy f.t.z s.c s.a s.b h.a h.b))

each_or_not : {X : Type 0} (P : X → Type 0) → ((x : X) → OrNot (P x)) → (xs : List X) → OrNot ((x : X) → Contains xs x → P x)
each_or_not P d [] = inl (λ x c. lists.not_in_nil x c)
each_or_not P d (x ∷ xs) = by (d x) (each_or_not P d xs)
  where
    by : OrNot (P x) → OrNot ((y : _) → Contains xs y → P y) → OrNot ((y : _) → Contains (x ∷ xs) y → P y)
    by (inl p) (inl q) = inl (λ y c. ⊎_elim (λ e. subst P e p) (λ m. q y m) (lists.Contains-cases y x xs c))
    by (inr n) q = inr (λ all. n (all x (lists.Contains-here x xs)))
    by (inl p) (inr n) = inr (λ all. n (λ y c. all y (lists.Contains-later y x xs c)))

pub kept_or_not : (members : List Operator) (s : Grid) → IsGridInRange s → OrNot (IsKept members s)
kept_or_not members s range = each_or_not (IsKeptBy s) (kept_by_or_not s (sides_of s range)) members
