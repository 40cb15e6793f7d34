-- Lists to which elements of an operator are added, range by range.
use Rattle.std.proofs.Common.{◌≡◌, ◌⊎◌, inl, inr, ℤ, pos, ◌+ℤ◌, ◌≤ℤ◌, ◌<ℤ◌, List, [], ◌∷◌, ◌++◌, map, Contains, ap, sym, ◌∙◌, subst, arith, ⊎_elim, refl}
use Rattle.std.proofs.lemmas.Int.{ints, by_lt_z}
use Rattle.std.proofs.lemmas.List.{map-append}
use Rattle.std.proofs.lemmas.List.Elements.{Contains-append_left, Contains-append_right, Contains-append_cases}
use Rattle.lattice_algebra.specs.Matrix.{Column, coordinates}
use Rattle.lattice_algebra.specs.Operator.{Operator}
use Rattle.lattice_algebra.specs.Map.{Map}
use Rattle.exact_ops.specs.declared.moves.Move.{Move}
use Rattle.exact_ops.specs.Elements.{map_in}
use Rattle.exact_ops.specs.Moves.{map_with}
use Rattle.finite_groups.proofs.Members as lists
use Rattle.wyckoff_rows.specs.Steps.{IsIn, IsPushed}
use Rattle.wyckoff_rows.specs.declared.ranges.Range.{Range}

pub pushed_on : (P Q R : Column → Type 0) (f : Operator) (old now new : List Map) → IsPushed P f old now → IsPushed Q f now new → ((k : Column) → R k → P k ⊎ Q k) → ((k : Column) → P k → R k) → ((k : Column) → Q k → R k) → IsPushed R f old new
pushed_on P Q R f old now new p q cut left right = record {
  extends = λ c h. q.extends c (p.extends c h);
  more = λ k r. ⊎_elim (λ h. q.extends (map_with f (coordinates k)) (p.more k h)) (λ h. q.more k h) (cut k r);
  only = λ c h. ⊎_elim (λ m. ⊎_elim (λ o. inl o) (λ e. inr (e.0, left e.0 e.1, e.2)) (p.only c m)) (λ e. inr (e.0, right e.0 e.1, e.2)) (q.only c h);
}

pub pushed_as : (P R : Column → Type 0) (f : Operator) (old new : List Map) → IsPushed P f old new → ((k : Column) → R k → P k) → ((k : Column) → P k → R k) → IsPushed R f old new
pushed_as P R f old new p to back = record {
  extends = p.extends;
  more = λ k r. p.more k (to k r);
  only = λ c h. ⊎_elim (λ o. inl o) (λ e. inr (e.0, back e.0 e.1, e.2)) (p.only c h);
}

in_longer : (m c : Map) (list : List Map) → Contains list c → Contains (list ++ m ∷ []) c
in_longer m c list h = Contains-append_left list (m ∷ []) c h

in_last : (m c : Map) (list : List Map) → Contains (list ++ m ∷ []) c → Contains list c ⊎ (m ≡ c)
in_last m c list h = ⊎_elim (λ o. inl o) (λ o. ⊎_elim (λ e. inr e) (λ n. lists.not_in_nil c n) (lists.Contains-cases c m [] o)) (Contains-append_cases list (m ∷ []) c h)

in_end : (m : Map) (list : List Map) → Contains (list ++ m ∷ []) m
in_end m list = Contains-append_right list (m ∷ []) m (lists.Contains-here m [])

pub one_pushed : (f : Operator) (k : Column) (list : List Map) → IsPushed (λ j. j ≡ k) f list (list ++ map_with f (coordinates k) ∷ [])
one_pushed f k list =
    let m = map_with f (coordinates k) in
    record {
      extends = λ c h. in_longer m c list h;
      more = λ j e. subst (λ v. Contains (list ++ m ∷ []) (map_with f (coordinates v))) (sym e) (in_end m list);
      only = λ c h. ⊎_elim (λ o. inl o) (λ e. inr (k, refl, e)) (in_last m c list h);
    }

pub move_pushed : (f : Operator) (k : Column) (m : Move) (items new : List Move) → map_in m ≡ map_with f (coordinates k) → new ≡ items ++ m ∷ [] → IsPushed (λ j. j ≡ k) f (map map_in items) (map map_in new)
move_pushed f k m items new is e = subst (IsPushed (λ j. j ≡ k) f (map map_in items)) (sym (ap (map map_in) e ∙ map-append map_in items (m ∷ []) ∙ ap (λ v. map map_in items ++ v ∷ []) is)) (one_pushed f k (map map_in items))

-- the whole numbers from low to below v + 1
pub split_at : (low v k : ℤ) → low ≤ℤ k → k <ℤ (v +ℤ pos 1) → ((low ≤ℤ k) × (k <ℤ v)) ⊎ (k ≡ v)
split_at low v k a b = by_lt_z k v (λ l. inl (a, l)) (λ l. inr (let e : k ≡ v = omega (arith, ints) in e))

pub less_more : (k v : ℤ) → k <ℤ v → k <ℤ (v +ℤ pos 1)
less_more k v l = omega (arith, ints)

-- ---- one coordinate

-- the part of a range below v
abbrev pub IsBefore : Range → ℤ → ℤ → Type 0
IsBefore r v k = (r.low ≤ℤ k) × (k <ℤ v)

-- v is where the range begins, or in it, or at its end
abbrev pub IsUpTo : Range → ℤ → Type 0
IsUpTo r v = (v ≤ℤ r.low) ⊎ (v ≤ℤ r.end)

before_in : (r : Range) (v k : ℤ) → IsUpTo r v → IsBefore r v k → IsIn r k
before_in r v k u b = (b.0, ⊎_elim (λ h. omega (arith, ints, h, b.0, b.1)) (λ h. omega (arith, ints, h, b.1)) u)

in_before : (r : Range) (v k : ℤ) → r.end ≤ℤ v → IsIn r k → IsBefore r v k
in_before r v k e b = (b.0, omega (arith, ints, e, b.1))

at_before : (r : Range) (v : ℤ) → r.low ≤ℤ v → IsBefore r (v +ℤ pos 1) v
at_before r v l = (l, omega (arith, ints))

before_more : (r : Range) (v k : ℤ) → IsBefore r v k → IsBefore r (v +ℤ pos 1) k
before_more r v k b = (b.0, less_more k v b.1)

none_before : (r : Range) (k : ℤ) → IsBefore r r.low k → ⊥
none_before r k b = omega (arith, ints, b.0, b.1)

pub next_up_to : (r : Range) (v : ℤ) → v <ℤ r.end → IsUpTo r (v +ℤ pos 1)
next_up_to r v l = inr (omega (arith, ints, l))

pub up_one : (l v : ℤ) → l ≤ℤ v → l ≤ℤ (v +ℤ pos 1)
up_one l v h = omega (arith, ints, h)

-- ---- the three loops

abbrev pub Line : ℤ → ℤ → Range → ℤ → Column → Type 0
Line x y zs v k = (k.x ≡ x) × (k.y ≡ y) × IsBefore zs v k.z

abbrev pub Plane : ℤ → Range → Range → ℤ → Column → Type 0
Plane x ys zs v k = (k.x ≡ x) × IsBefore ys v k.y × IsIn zs k.z

abbrev pub Box : Range → Range → Range → ℤ → Column → Type 0
Box xs ys zs v k = IsBefore xs v k.x × IsIn ys k.y × IsIn zs k.z

pub line_step : (f : Operator) (x y v : ℤ) (zs : Range) (old now new : List Map) → zs.low ≤ℤ v → IsPushed (Line x y zs v) f old now → IsPushed (λ j. j ≡ record { x = x; y = y; z = v }) f now new → IsPushed (Line x y zs (v +ℤ pos 1)) f old new
line_step f x y v zs old now new l p q = pushed_on (Line x y zs v) (λ j. j ≡ record { x = x; y = y; z = v }) (Line x y zs (v +ℤ pos 1)) f old now new p q
    (λ k r. ⊎_elim (λ h. inl (r.0, r.1, h)) (λ h. inr (λ i. record { x = r.0 i; y = r.1 i; z = h i })) (split_at zs.low v k.z r.2.0 r.2.1))
    (λ k r. (r.0, r.1, before_more zs v k.z r.2))
    (λ k e. (ap (λ (c : Column). c.x) e, ap (λ (c : Column). c.y) e, subst (IsBefore zs (v +ℤ pos 1)) (sym (ap (λ (c : Column). c.z) e)) (at_before zs v l)))

pub line_done : (f : Operator) (x y v : ℤ) (zs : Range) (old new : List Map) → IsUpTo zs v → zs.end ≤ℤ v → IsPushed (Line x y zs v) f old new → IsPushed (λ k. (k.x ≡ x) × (k.y ≡ y) × IsIn zs k.z) f old new
line_done f x y v zs old new u e p = pushed_as (Line x y zs v) (λ k. (k.x ≡ x) × (k.y ≡ y) × IsIn zs k.z) f old new p (λ k r. (r.0, r.1, in_before zs v k.z e r.2)) (λ k r. (r.0, r.1, before_in zs v k.z u r.2))

pub plane_step : (f : Operator) (x v : ℤ) (ys zs : Range) (old now new : List Map) → ys.low ≤ℤ v → IsPushed (Plane x ys zs v) f old now → IsPushed (λ k. (k.x ≡ x) × (k.y ≡ v) × IsIn zs k.z) f now new → IsPushed (Plane x ys zs (v +ℤ pos 1)) f old new
plane_step f x v ys zs old now new l p q = pushed_on (Plane x ys zs v) (λ k. (k.x ≡ x) × (k.y ≡ v) × IsIn zs k.z) (Plane x ys zs (v +ℤ pos 1)) f old now new p q
    (λ k r. ⊎_elim (λ h. inl (r.0, h, r.2)) (λ h. inr (r.0, h, r.2)) (split_at ys.low v k.y r.1.0 r.1.1))
    (λ k r. (r.0, before_more ys v k.y r.1, r.2))
    (λ k r. (r.0, subst (IsBefore ys (v +ℤ pos 1)) (sym r.1) (at_before ys v l), r.2))

pub plane_done : (f : Operator) (x v : ℤ) (ys zs : Range) (old new : List Map) → IsUpTo ys v → ys.end ≤ℤ v → IsPushed (Plane x ys zs v) f old new → IsPushed (λ k. (k.x ≡ x) × IsIn ys k.y × IsIn zs k.z) f old new
plane_done f x v ys zs old new u e p = pushed_as (Plane x ys zs v) (λ k. (k.x ≡ x) × IsIn ys k.y × IsIn zs k.z) f old new p (λ k r. (r.0, in_before ys v k.y e r.1, r.2)) (λ k r. (r.0, before_in ys v k.y u r.1, r.2))

pub box_step : (f : Operator) (v : ℤ) (xs ys zs : Range) (old now new : List Map) → xs.low ≤ℤ v → IsPushed (Box xs ys zs v) f old now → IsPushed (λ k. (k.x ≡ v) × IsIn ys k.y × IsIn zs k.z) f now new → IsPushed (Box xs ys zs (v +ℤ pos 1)) f old new
box_step f v xs ys zs old now new l p q = pushed_on (Box xs ys zs v) (λ k. (k.x ≡ v) × IsIn ys k.y × IsIn zs k.z) (Box xs ys zs (v +ℤ pos 1)) f old now new p q
    (λ k r. ⊎_elim (λ h. inl (h, r.1, r.2)) (λ h. inr (h, r.1, r.2)) (split_at xs.low v k.x r.0.0 r.0.1))
    (λ k r. (before_more xs v k.x r.0, r.1, r.2))
    (λ k r. (subst (IsBefore xs (v +ℤ pos 1)) (sym r.0) (at_before xs v l), r.1, r.2))

pub box_done : (f : Operator) (v : ℤ) (xs ys zs : Range) (old new : List Map) → IsUpTo xs v → xs.end ≤ℤ v → IsPushed (Box xs ys zs v) f old new → IsPushed (λ k. IsIn xs k.x × IsIn ys k.y × IsIn zs k.z) f old new
box_done f v xs ys zs old new u e p = pushed_as (Box xs ys zs v) (λ k. IsIn xs k.x × IsIn ys k.y × IsIn zs k.z) f old new p (λ k r. (in_before xs v k.x e r.0, r.1, r.2)) (λ k r. (before_in xs v k.x u r.0, r.1, r.2))
