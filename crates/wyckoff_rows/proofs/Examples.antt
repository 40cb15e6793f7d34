-- Worked examples: the definitions on literals, in parts of a cell of 24; only examples cite these.
use Rattle.std.proofs.Common.{◌≡◌, ◌≤◌, ◌⊎◌, ℕ, zero, suc, ℤ, pos, negsuc, ◌+ℤ◌, ◌*ℤ◌, unsigned_abs, Bool, true, false, Option, None, Some, List, [], ◌∷◌, slice_get, inl, inr, ⊎_elim, ap, sym, ◌∙◌, subst, refl, arith}
use Rattle.std.proofs.lemmas.Bool.{false≢true}
use Rattle.std.proofs.lemmas.Int.{ints}
use Rattle.std.proofs.lemmas.List.Elements.{All-nil, All-push}
use Rattle.std.specs.declared.cmp.Ordering.TheVariants.{Less, Greater}
use Rattle.finite_groups.proofs.Members as lists
use Rattle.lattice_algebra.specs.Matrix.{Matrix, Column, matrix_of, identity, origin, no_matrix, scaled, times, ◌·◌, ◌·ᶜ◌, ◌+ᶜ◌, ◌+ᵐ◌}
use Rattle.lattice_algebra.specs.Operator.{Operator, identity_operator, product, modulo, IsInverse, AreWithin}
use Rattle.lattice_algebra.specs.Map.{Map, identity_map, operator_of, IsShift}
use Rattle.lattice_algebra.proofs.Examples.{column, inversion, inverting, both, in_both}
use Rattle.lattice_algebra.proofs.Remainders.{modulo_is}
use Rattle.exact_ops.specs.declared.TheConstants.{UNIT}
use Rattle.exact_ops.proofs.Narrow.{some_parts}
use Rattle.affine_sets.specs.declared.keys.Sizes.{Sizes}
use Rattle.affine_sets.specs.declared.TheConstants.{MAX_GROWN_SHIFT}
use Rattle.affine_sets.specs.Subs.{AreShiftsWithin}
use Rattle.affine_sets.specs.Averages.{KeyOver}
use Rattle.space_groups.specs.Space.{ScaledPoint, IsElement, moved}
use Rattle.space_groups.proofs.ScaledPoints.{moved-identity}
use Rattle.space_groups.specs.Regions as Regions
use Rattle.space_groups.specs.Search.{FixAll}
use Rattle.wyckoff_rows.specs.declared.parts.Row.{Row}
use Rattle.wyckoff_rows.specs.declared.ranges.Range.{Range}
use Rattle.wyckoff_rows.specs.declared.spans.Taken.{Taken}
use Rattle.wyckoff_rows.specs.Laws.{general_row}
use Rattle.wyckoff_rows.specs.Shown.{row_cmp}
use Rattle.wyckoff_rows.specs.Spanning.{AreFew, rest_of, taken_column, with_units}
use Rattle.wyckoff_rows.specs.Spanning as spanning
use Rattle.wyckoff_rows.specs.Steps.{StandsFor, AreEnough, IsCovered, IsPlaceIn, IsInCoset, IsAlike, IsIn, AreTried, IsCandidate}

abbrev pub o : ℤ
o = pos 0

-- ---- columns that span an image

-- of x+y,x+y,0 the column x is enough, and no column is not
abbrev along_xy : Matrix
along_xy = matrix_of (pos 1 ∷ pos 1 ∷ o ∷ pos 1 ∷ pos 1 ∷ o ∷ o ∷ o ∷ o ∷ [])

abbrev sizes : ℕ → ℕ → ℕ → Sizes
sizes x y z = record { x = x; y = y; z = z }

one_is_enough : spanning.AreEnough along_xy (sizes 1 0 0)
unfolding Regions.diagonal ◌·◌ scaled
one_is_enough = record { number = pos 1; some = λ e. omega (arith, ints, e); weights = matrix_of (pos 1 ∷ pos 1 ∷ o ∷ o ∷ o ∷ o ∷ o ∷ o ∷ o ∷ []); combines = refl }

none_is_not : spanning.AreEnough along_xy (sizes 0 0 0) → ⊥
unfolding Regions.diagonal ◌·◌ scaled
none_is_not a = a.some (by a.number a.weights.xx a.weights.yx a.weights.zx (ap (λ (m : Matrix). m.xx) a.combines))
  where
    by : (n x y z : ℤ) → n *ℤ pos 1 ≡ o *ℤ x +ℤ o *ℤ y +ℤ o *ℤ z → n ≡ o
    by n x y z e = omega (arith, ints)

few : AreFew (sizes 192 0 1)
few = record { x = omega arith; y = omega arith; z = omega arith }

not_few : AreFew (sizes 0 193 0) → ⊥
not_few f = omega (arith, f.y)

the_rest : rest_of (pos 2) along_xy ≡ matrix_of (pos 1 ∷ negsuc 0 ∷ o ∷ negsuc 0 ∷ pos 1 ∷ o ∷ o ∷ o ∷ pos 2 ∷ [])
unfolding Regions.diagonal ◌+ᵐ◌ scaled
the_rest = refl

-- x and z taken
abbrev x_and_z : Taken
x_and_z = record { x = true; y = false; z = true }

as_a_column : taken_column x_and_z ≡ column (pos 1) o (pos 1)
as_a_column = refl

units_in_place : with_units along_xy x_and_z ≡ matrix_of (pos 1 ∷ pos 1 ∷ o ∷ o ∷ pos 1 ∷ o ∷ o ∷ o ∷ pos 1 ∷ [])
units_in_place = refl

-- ---- the order of rows

abbrev key : Matrix → ℤ → KeyOver
key m x = record { key = record { m = m; t = column x o o }; over = 2 }

abbrev row : ℕ → Matrix → ℤ → Row
row n m x = record { mult = n; key = key m x }

more_points_first : row_cmp (row 2 no_matrix (pos 24)) (row 1 along_xy o) ≡ Less
more_points_first = refl

then_the_greater_matrix : row_cmp (row 1 no_matrix o) (row 1 along_xy (pos 24)) ≡ Greater
then_the_greater_matrix = refl

then_the_lesser_translation : row_cmp (row 1 no_matrix o) (row 1 no_matrix (pos 24)) ≡ Less
then_the_lesser_translation = refl

-- ---- ranges

abbrev range : Range
range = record { low = negsuc 0; end = pos 3 }

first_in : IsIn range (negsuc 0)
first_in = (omega (arith, ints), omega (arith, ints))

end_not_in : IsIn range (pos 3) → ⊥
end_not_in i = let l = i.1 in omega (arith, ints, l)

-- ---- cosets, in P-1

placed : IsPlaceIn both (identity_map ∷ []) 0
unfolding operator_of modulo
placed = (identity_map, (0, omega arith, refl), refl)

not_same : identity ≡ inversion → ⊥
not_same e = let x : pos 1 ≡ negsuc 0 = ap (λ (m : Matrix). m.xx) e in omega (arith, ints, x)

not_placed : IsPlaceIn both (identity_map ∷ []) 1 → ⊥
unfolding operator_of
not_placed p = ⊎_elim (λ e. not_same (ap (λ (g : Map). g.w) e ∙ sym (of_some (operator_of UNIT p.0) p.2))) (λ n. lists.not_in_nil p.0 n) (lists.Contains-cases p.0 identity_map [] p.1)
  where
    matrix_in : Option Operator → Matrix
    matrix_in None = no_matrix
    matrix_in (Some f) = f.w

    of_some : (f : Operator) → Some inverting ≡ Some f → inversion ≡ f.w
    of_some f e = ap matrix_in e

in_coset : IsInCoset (identity_map ∷ []) inverting inverting
unfolding operator_of product modulo ◌·◌ ◌·ᶜ◌ ◌+ᶜ◌
in_coset = (identity_map, (0, omega arith, refl), inl refl)

alike : IsAlike (identity_map ∷ []) inverting inverting
unfolding operator_of product modulo ◌·◌ ◌·ᶜ◌ ◌+ᶜ◌
alike = (identity_map, (0, omega arith, refl), (identity_map, (0, omega arith, refl), inl refl))

not_in_coset : IsInCoset (identity_map ∷ []) inverting identity_operator → ⊥
unfolding operator_of product ◌·◌
not_in_coset c = ⊎_elim (λ e. by (subst (λ (s : Map). (identity_operator ≡ product UNIT (operator_of UNIT s) inverting) ⊎ IsInverse UNIT (product UNIT (operator_of UNIT s) inverting) identity_operator) (sym e) c.2)) (λ n. lists.not_in_nil c.0 n) (lists.Contains-cases c.0 identity_map [] c.1)
  where
    by : (identity_operator ≡ product UNIT (operator_of UNIT identity_map) inverting) ⊎ IsInverse UNIT (product UNIT (operator_of UNIT identity_map) inverting) identity_operator → ⊥
    by (inl e) = not_same (ap (λ (f : Operator). f.w) e)
    by (inr i) = not_same (sym i.left)

not_alike : IsAlike (identity_map ∷ []) inverting identity_operator → ⊥
unfolding operator_of product modulo ◌·◌ ◌·ᶜ◌ ◌+ᶜ◌
not_alike a = ⊎_elim (λ e. not_in_coset (subst (λ (s : Map). IsInCoset (identity_map ∷ []) (product UNIT inverting (operator_of UNIT s)) identity_operator) (sym e) a.2)) (λ n. lists.not_in_nil a.0 n) (lists.Contains-cases a.0 identity_map [] a.1)

-- ---- elements that stand for others, in P-1

-- the inversion at x / 48
abbrev inversion_at : ℤ → Map
inversion_at x = record { w = inversion; s = column x o o }

abbrev pub trivial : List Map
trivial = identity_map ∷ []

pub fixed : (z : ScaledPoint) → FixAll trivial z
fixed z e c = ⊎_elim (λ p. subst (λ (e : Map). moved e z ≡ z) p (moved-identity z)) (λ n. lists.not_in_nil e n) (lists.Contains-cases e identity_map [] c)

-- the inversion at the origin stands for that at 1,0,0: the shift by -1,0,0 moves what the one fixes to what the other fixes
abbrev back_by_one : Map
back_by_one = record { w = identity; s = column (negsuc 23) o o }

there : (z : ScaledPoint) → moved (inversion_at (pos 48)) z ≡ z → moved (inversion_at o) (moved back_by_one z) ≡ moved back_by_one z
unfolding moved times ◌·ᶜ◌ ◌+ᶜ◌
there z h =
    let x = ap (λ (v : ScaledPoint). v.n.x) h in
    let y = ap (λ (v : ScaledPoint). v.n.y) h in
    let w = ap (λ (v : ScaledPoint). v.n.z) h in
    λ i. record { n = record { x = first z.n.x z.n.y z.n.z (pos z.d) x i; y = second z.n.x z.n.y z.n.z (pos z.d) y i; z = third z.n.x z.n.y z.n.z (pos z.d) w i }; d = z.d; some = z.some }
  where
    first : (x y z d : ℤ) → negsuc 0 *ℤ x +ℤ o *ℤ y +ℤ o *ℤ z +ℤ d *ℤ pos 48 ≡ x
        → negsuc 0 *ℤ (pos 1 *ℤ x +ℤ o *ℤ y +ℤ o *ℤ z +ℤ d *ℤ negsuc 23) +ℤ o *ℤ (o *ℤ x +ℤ pos 1 *ℤ y +ℤ o *ℤ z +ℤ d *ℤ o) +ℤ o *ℤ (o *ℤ x +ℤ o *ℤ y +ℤ pos 1 *ℤ z +ℤ d *ℤ o) +ℤ d *ℤ o ≡ pos 1 *ℤ x +ℤ o *ℤ y +ℤ o *ℤ z +ℤ d *ℤ negsuc 23
    first x y z d e = omega (arith, ints)

    second : (x y z d : ℤ) → o *ℤ x +ℤ negsuc 0 *ℤ y +ℤ o *ℤ z +ℤ d *ℤ o ≡ y
        → o *ℤ (pos 1 *ℤ x +ℤ o *ℤ y +ℤ o *ℤ z +ℤ d *ℤ negsuc 23) +ℤ negsuc 0 *ℤ (o *ℤ x +ℤ pos 1 *ℤ y +ℤ o *ℤ z +ℤ d *ℤ o) +ℤ o *ℤ (o *ℤ x +ℤ o *ℤ y +ℤ pos 1 *ℤ z +ℤ d *ℤ o) +ℤ d *ℤ o ≡ o *ℤ x +ℤ pos 1 *ℤ y +ℤ o *ℤ z +ℤ d *ℤ o
    second x y z d e = omega (arith, ints)

    third : (x y z d : ℤ) → o *ℤ x +ℤ o *ℤ y +ℤ negsuc 0 *ℤ z +ℤ d *ℤ o ≡ z
        → o *ℤ (pos 1 *ℤ x +ℤ o *ℤ y +ℤ o *ℤ z +ℤ d *ℤ negsuc 23) +ℤ o *ℤ (o *ℤ x +ℤ pos 1 *ℤ y +ℤ o *ℤ z +ℤ d *ℤ o) +ℤ negsuc 0 *ℤ (o *ℤ x +ℤ o *ℤ y +ℤ pos 1 *ℤ z +ℤ d *ℤ o) +ℤ d *ℤ o ≡ o *ℤ x +ℤ o *ℤ y +ℤ pos 1 *ℤ z +ℤ d *ℤ o
    third x y z d e = omega (arith, ints)

back : (z : ScaledPoint) → moved (inversion_at o) (moved back_by_one z) ≡ moved back_by_one z → moved (inversion_at (pos 48)) z ≡ z
unfolding moved times ◌·ᶜ◌ ◌+ᶜ◌
back z h =
    let x = ap (λ (v : ScaledPoint). v.n.x) h in
    let y = ap (λ (v : ScaledPoint). v.n.y) h in
    let w = ap (λ (v : ScaledPoint). v.n.z) h in
    λ i. record { n = record { x = first z.n.x z.n.y z.n.z (pos z.d) x i; y = second z.n.x z.n.y z.n.z (pos z.d) y i; z = third z.n.x z.n.y z.n.z (pos z.d) w i }; d = z.d; some = z.some }
  where
    first : (x y z d : ℤ) → negsuc 0 *ℤ (pos 1 *ℤ x +ℤ o *ℤ y +ℤ o *ℤ z +ℤ d *ℤ negsuc 23) +ℤ o *ℤ (o *ℤ x +ℤ pos 1 *ℤ y +ℤ o *ℤ z +ℤ d *ℤ o) +ℤ o *ℤ (o *ℤ x +ℤ o *ℤ y +ℤ pos 1 *ℤ z +ℤ d *ℤ o) +ℤ d *ℤ o ≡ pos 1 *ℤ x +ℤ o *ℤ y +ℤ o *ℤ z +ℤ d *ℤ negsuc 23
        → negsuc 0 *ℤ x +ℤ o *ℤ y +ℤ o *ℤ z +ℤ d *ℤ pos 48 ≡ x
    first x y z d e = omega (arith, ints)

    second : (x y z d : ℤ) → o *ℤ (pos 1 *ℤ x +ℤ o *ℤ y +ℤ o *ℤ z +ℤ d *ℤ negsuc 23) +ℤ negsuc 0 *ℤ (o *ℤ x +ℤ pos 1 *ℤ y +ℤ o *ℤ z +ℤ d *ℤ o) +ℤ o *ℤ (o *ℤ x +ℤ o *ℤ y +ℤ pos 1 *ℤ z +ℤ d *ℤ o) +ℤ d *ℤ o ≡ o *ℤ x +ℤ pos 1 *ℤ y +ℤ o *ℤ z +ℤ d *ℤ o
        → o *ℤ x +ℤ negsuc 0 *ℤ y +ℤ o *ℤ z +ℤ d *ℤ o ≡ y
    second x y z d e = omega (arith, ints)

    third : (x y z d : ℤ) → o *ℤ (pos 1 *ℤ x +ℤ o *ℤ y +ℤ o *ℤ z +ℤ d *ℤ negsuc 23) +ℤ o *ℤ (o *ℤ x +ℤ pos 1 *ℤ y +ℤ o *ℤ z +ℤ d *ℤ o) +ℤ negsuc 0 *ℤ (o *ℤ x +ℤ o *ℤ y +ℤ pos 1 *ℤ z +ℤ d *ℤ o) +ℤ d *ℤ o ≡ o *ℤ x +ℤ o *ℤ y +ℤ pos 1 *ℤ z +ℤ d *ℤ o
        → o *ℤ x +ℤ o *ℤ y +ℤ negsuc 0 *ℤ z +ℤ d *ℤ o ≡ z
    third x y z d e = omega (arith, ints)

stands : StandsFor both trivial (inversion_at o) (inversion_at (pos 48))
unfolding operator_of modulo
stands = record { by = back_by_one; element = (0, omega arith, refl); points = λ z. ((λ h. (fixed (moved back_by_one z), there z h.1)), (λ h. (fixed z, back z h.1))) }

-- and not for that at 1/2,0,0: the elements move 1/2,0,0 to n + 1/2,0,0
pub half : ScaledPoint
half = record { n = column (pos 12) o o; d = 1; some = omega arith }

stands_not : StandsFor both trivial (inversion_at o) (inversion_at (pos 24)) → ⊥
unfolding half operator_of moved times ◌·ᶜ◌ ◌+ᶜ◌
stands_not s =
    let g = s.by in
    let x = ap (λ (v : ScaledPoint). v.n.x) ((s.points half).0 (fixed half, refl)).1 in
    let k = modulo_is UNIT some_parts g.s in
    ⊎_elim
    (λ e. by g.w.xx g.w.xy g.w.xz g.w.yx g.w.yy g.w.yz g.w.zx g.w.zy g.w.zz g.s.x g.s.y g.s.z k.0.x (inl (sym (ap (λ (f : Operator). f.w.xx) e))) (part g.s k.0 (ap (λ (f : Operator). f.t) e ∙ k.1)) x)
    (λ e. by g.w.xx g.w.xy g.w.xz g.w.yx g.w.yy g.w.yz g.w.zx g.w.zy g.w.zz g.s.x g.s.y g.s.z k.0.x (inr (sym (ap (λ (f : Operator). f.w.xx) e))) (part g.s k.0 (ap (λ (f : Operator). f.t) e ∙ k.1)) x)
    (in_both (operator_of UNIT g) s.element)
  where
    part : (c k : Column) → origin ≡ c +ᶜ times (pos 24) k → o ≡ c.x +ℤ pos 24 *ℤ k.x
    part c k e = ap (λ (v : Column). v.x) e

    by : (a b c d e f g h i x y z k : ℤ) → (a ≡ pos 1) ⊎ (a ≡ negsuc 0) → o ≡ x +ℤ pos 24 *ℤ k
        → negsuc 0 *ℤ (a *ℤ pos 12 +ℤ b *ℤ o +ℤ c *ℤ o +ℤ pos 1 *ℤ x) +ℤ o *ℤ (d *ℤ pos 12 +ℤ e *ℤ o +ℤ f *ℤ o +ℤ pos 1 *ℤ y) +ℤ o *ℤ (g *ℤ pos 12 +ℤ h *ℤ o +ℤ i *ℤ o +ℤ pos 1 *ℤ z) +ℤ pos 1 *ℤ o ≡ a *ℤ pos 12 +ℤ b *ℤ o +ℤ c *ℤ o +ℤ pos 1 *ℤ x → ⊥
    by a b c d e f g h i x y z k (inl p) q r = omega (arith, ints, p, q, r)
    by a b c d e f g h i x y z k (inr p) q r = omega (arith, ints, p, q, r)

-- an empty list is not enough, since the identity fixes each point
not_covered : (members : List Operator) → IsElement UNIT members identity_map → IsCovered members trivial [] identity_operator → ⊥
unfolding operator_of modulo half
not_covered members c h = let s = h identity_map c refl half (fixed half) (moved-identity half) in lists.not_in_nil s.0 s.1

not_enough : AreEnough both trivial [] → ⊥
unfolding operator_of modulo half
not_enough h = let s = h identity_map (0, omega arith, refl) half (fixed half) (moved-identity half) in lists.not_in_nil s.0 s.1

-- before the first place nothing was tried; the first member is not covered by an empty list
value : Option Bool → Bool
value None = false
value (Some b) = b

not_marked : (j : ℕ) → slice_get (false ∷ false ∷ []) j ≡ Some true → ⊥
unfolding value
not_marked zero e = false≢true (ap value e)
not_marked (suc zero) e = false≢true (ap value e)
not_marked (suc (suc j)) e = false≢true (ap value e)

none_tried : AreTried both trivial [] (false ∷ false ∷ []) 0
none_tried j f (inl l) e = absurd (omega (arith, l))
none_tried j f (inr t) e = absurd (not_marked j t)

not_tried : AreTried both trivial [] (false ∷ false ∷ []) 1 → ⊥
unfolding operator_of modulo
not_tried t = not_covered both (0, omega arith, refl) (t 0 identity_operator (inl (omega arith)) refl)

-- -x,-y,-z without whole shifts is a candidate, and x+1/2,y,z is no element
no_shift : (size : ℕ) (k : Column) → origin ≡ origin +ᶜ times (pos 24) k → AreWithin size k.x k.y k.z
unfolding ◌+ᶜ◌ times
no_shift size k e = record { first = by k.x (ap (λ (c : Column). c.x) e); second = by k.y (ap (λ (c : Column). c.y) e); third = by k.z (ap (λ (c : Column). c.z) e) }
  where
    none : (n : ℤ) → o ≡ o +ℤ pos 24 *ℤ n → n ≡ o
    none n e = omega (arith, ints)

    by : (n : ℤ) → o ≡ o +ℤ pos 24 *ℤ n → unsigned_abs n ≤ size
    by n e = subst (λ m. unsigned_abs m ≤ size) (sym (none n e)) (omega arith)

pub without_shift : (size : ℕ) (g : Map) → modulo UNIT g.s ≡ origin → g.s ≡ origin → AreShiftsWithin size (g ∷ [])
without_shift size g p q = All-push (λ (e : Map). (k : Column) → IsShift UNIT e k → AreWithin size k.x k.y k.z) [] g (All-nil _) (λ k e. no_shift size k (sym q ∙ e ∙ ap (λ c. c +ᶜ times (pos 24) k) p))

candidate : IsCandidate both (inversion_at o)
unfolding operator_of modulo
candidate = record { element = (1, omega arith, refl); shifts = without_shift MAX_GROWN_SHIFT (inversion_at o) refl refl }

no_candidate : IsCandidate both (record { w = identity; s = column (pos 12) o o }) → ⊥
unfolding operator_of modulo
no_candidate c = ⊎_elim (λ e. by e) (λ e. by' e) (in_both _ c.element)
  where
    by : identity_operator ≡ record { w = identity; t = column (pos 12) o o } → ⊥
    by e = let x : o ≡ pos 12 = ap (λ (f : Operator). f.t.x) e in omega (arith, ints, x)

    by' : inverting ≡ record { w = identity; t = column (pos 12) o o } → ⊥
    by' e = let x : o ≡ pos 12 = ap (λ (f : Operator). f.t.x) e in omega (arith, ints, x)

-- ---- the general position over 4 members

general_of_four : general_row 4 ≡ record { mult = 4; key = record { m = matrix_of (pos 4 ∷ o ∷ o ∷ o ∷ pos 4 ∷ o ∷ o ∷ o ∷ pos 4 ∷ []); t = origin } }
unfolding scaled
general_of_four = refl
