-- Points over multiples of UNIT are compared by smaller cross products.
use Rattle.std.proofs.Common.{◌≡◌, ◌⊎◌, inl, inr, ⊎_elim, int_eq, ◌↔◌, ◌≤◌, ◌*◌, ◌^◌, ◌∷◌, [], List, ℕ, ℤ, pos, ◌*ℤ◌, ◌<ℤ◌, ◌≤ℤ◌, unsigned_abs, Bool, IsTrue, eqb, of_z, to_z, to_z-of_z, T, ltb, FitsSigned, lt_of_le_of_lt, ap, ap₂, sym, ◌∙◌, arith}
use Rattle.std.proofs.lemmas.Bool.{eqb-true, eq-eqb, cases_Bool, false≢true}
use Rattle.std.specs.Cmp.{signed_Decides}
use Rattle.std.specs.Int.{int_wrapping_mul, int_wrap}
use Rattle.std.proofs.lemmas.Int.{ints, wrapping_mul_is, fits_signed_from_abs}
use lib.Dec.{ltb→lt}
use mir.Syntax.{w128}
use Rattle.lattice_algebra.specs.Matrix.{Column, times}
use Rattle.lattice_algebra.specs.Point.{Point, ◌≈◌}
use Rattle.lattice_algebra.proofs.Numbers.{cancel_number}
use Rattle.lattice_algebra.proofs.Ring.{var, ◌⊗◌, ring}
use Rattle.lattice_algebra.proofs.Machine.{IsWithin, back, fits, computed}
use Rattle.exact_ops.specs.declared.TheConstants.{UNIT, MAX_DENOMINATOR}
use Rattle.exact_ops.specs.Points.{IsPointInRange}
use Rattle.exact_ops.proofs.Bounds.{denominator_bound, numerator_bound, denominator_within, numerators_within, kept_denominator}
use Rattle.space_groups.specs.Space.{IsInCell}

-- ---- cross products in the machine

abbrev bounds : List ℕ
bounds = UNIT * MAX_DENOMINATOR ^ 3 ∷ MAX_DENOMINATOR ^ 3 ∷ UNIT * MAX_DENOMINATOR ^ 3 ∷ MAX_DENOMINATOR ^ 3 ∷ []

module _ (a d b e : ℤ) (within : IsWithin bounds (a ∷ d ∷ b ∷ e ∷ [])) where
  abbrev numbers : List ℤ
  numbers = a ∷ d ∷ b ∷ e ∷ []

  left : ℤ
  left = back w128 a *ℤ back w128 e

  right : ℤ
  right = back w128 b *ℤ back w128 d

  left_back : back w128 left ≡ a *ℤ e
  unfolding left
  left_back = computed w128 bounds numbers (var 0 ⊗ var 3) within tt

  right_back : back w128 right ≡ b *ℤ d
  unfolding right
  right_back = computed w128 bounds numbers (var 2 ⊗ var 1) within tt

  left_is : back w128 a *ℤ back w128 e ≡ a *ℤ e
  unfolding left
  left_is = sym (to_z-of_z (fits w128 bounds numbers (var 0 ⊗ var 3) within tt)) ∙ left_back

  right_is : back w128 b *ℤ back w128 d ≡ b *ℤ d
  unfolding right
  right_is = sym (to_z-of_z (fits w128 bounds numbers (var 2 ⊗ var 1) within tt)) ∙ right_back

  pub crossed : IsTrue (eqb (of_z w128 (back w128 a *ℤ back w128 e)) (of_z w128 (back w128 b *ℤ back w128 d))) ↔ (a *ℤ e ≡ b *ℤ d)
  unfolding left right
  crossed = ((λ t. sym left_back ∙ ap (to_z w128) (eqb-true _ _ t) ∙ right_back), (λ s. eq-eqb _ _ (ap (of_z w128) (left_is ∙ s ∙ sym right_is))))

-- ---- and of the points

over_unit : (u d e a b : ℤ) → pos 0 <ℤ u → ((u *ℤ e) *ℤ a ≡ (u *ℤ d) *ℤ b) ↔ (a *ℤ e ≡ b *ℤ d)
over_unit u d e a b h =
    let U = var 0 in
    let D = var 1 in
    let E = var 2 in
    let A = var 3 in
    let B = var 4 in
    let r = u ∷ d ∷ e ∷ a ∷ b ∷ [] in
    let one : u *ℤ (a *ℤ e) ≡ (u *ℤ e) *ℤ a = ring r (U ⊗ (A ⊗ E)) ((U ⊗ E) ⊗ A) tt in
    let two : (u *ℤ d) *ℤ b ≡ u *ℤ (b *ℤ d) = ring r ((U ⊗ D) ⊗ B) (U ⊗ (B ⊗ D)) tt in
    ((λ s. cancel_number u (a *ℤ e) (b *ℤ d) h (one ∙ s ∙ two)), (λ s. sym one ∙ ap (λ v. u *ℤ v) s ∙ sym two))

-- the coordinates agree, one by one
pub record AreSameRatios (p q : Point) (d e : ℤ) : Type 0 where
  pub x : p.n.x *ℤ e ≡ q.n.x *ℤ d
  pub y : p.n.y *ℤ e ≡ q.n.y *ℤ d
  pub z : p.n.z *ℤ e ≡ q.n.z *ℤ d

module _ (p q : Point) (d e : ℤ) (over_p : pos UNIT *ℤ d ≡ p.d) (over_q : pos UNIT *ℤ e ≡ q.d) where
  coordinate : (a b : ℤ) → (q.d *ℤ a ≡ p.d *ℤ b) ↔ (a *ℤ e ≡ b *ℤ d)
  coordinate a b =
      let o = over_unit (pos UNIT) d e a b (omega (arith, ints)) in
      let l : (pos UNIT *ℤ e) *ℤ a ≡ q.d *ℤ a = ap (λ v. v *ℤ a) over_q in
      let r : (pos UNIT *ℤ d) *ℤ b ≡ p.d *ℤ b = ap (λ v. v *ℤ b) over_p in
      ((λ s. o.0 (l ∙ s ∙ sym r)), (λ s. sym l ∙ o.1 s ∙ r))

  pub ratios_of : p ≈ q → AreSameRatios p q d e
  unfolding times
  ratios_of s = record {
    x = (coordinate p.n.x q.n.x).0 (ap (λ (c : Column). c.x) s);
    y = (coordinate p.n.y q.n.y).0 (ap (λ (c : Column). c.y) s);
    z = (coordinate p.n.z q.n.z).0 (ap (λ (c : Column). c.z) s);
  }

  pub same_of : AreSameRatios p q d e → p ≈ q
  unfolding times
  same_of r =
      let x = (coordinate p.n.x q.n.x).1 r.x in
      let y = (coordinate p.n.y q.n.y).1 r.y in
      let z = (coordinate p.n.z q.n.z).1 r.z in
      λ i. record { x = x i; y = y i; z = z i }

-- ---- points in the cell, whose numbers the machine keeps

size_in_cell : (n : ℕ) (x d : ℤ) → pos 0 ≤ℤ x → x <ℤ d → d ≤ℤ pos n → unsigned_abs x ≤ n
size_in_cell n x d l m k = omega (arith, ints)

-- the coordinates are small, and so is the denominator over UNIT
pub record AreSmall (p : Point) (d : ℤ) : Type 0 where
  pub x : unsigned_abs p.n.x ≤ UNIT * MAX_DENOMINATOR ^ 3
  pub y : unsigned_abs p.n.y ≤ UNIT * MAX_DENOMINATOR ^ 3
  pub z : unsigned_abs p.n.z ≤ UNIT * MAX_DENOMINATOR ^ 3
  pub over : unsigned_abs d ≤ MAX_DENOMINATOR ^ 3

pub small_in_cell : (p : Point) (d : ℤ) → IsPointInRange p → IsInCell p → unsigned_abs d ≤ MAX_DENOMINATOR ^ 3 → AreSmall p d
small_in_cell p d r c s = record {
  x = size_in_cell (UNIT * MAX_DENOMINATOR ^ 3) p.n.x p.d c.0 c.1 r.denominator;
  y = size_in_cell (UNIT * MAX_DENOMINATOR ^ 3) p.n.y p.d c.2 c.3 r.denominator;
  z = size_in_cell (UNIT * MAX_DENOMINATOR ^ 3) p.n.z p.d c.4 c.5 r.denominator;
  over = s;
}

-- what was asked of numbers that were passed on
pub asked : (b : Bool) (x d u e : ℤ) → IsWithin bounds (x ∷ d ∷ u ∷ e ∷ []) → IsTrue b ↔ (back w128 x *ℤ back w128 e ≡ back w128 u *ℤ back w128 d) → IsTrue b ↔ (x *ℤ e ≡ u *ℤ d)
asked b x d u e within h =
    let l = left_is x d u e within in
    let r = right_is x d u e within in
    ((λ t. sym l ∙ h.0 t ∙ r), (λ s. h.1 (l ∙ s ∙ sym r)))

-- ---- cross products in the bits that the machine keeps

fits_within : (n : ℕ) (z : ℤ) → unsigned_abs z ≤ n → T (ltb n (2 ^ 127)) → FitsSigned w128 z
fits_within n z h t = fits_signed_from_abs w128 z (lt_of_le_of_lt h (ltb→lt n (2 ^ 127) t))

-- equal products are kept alike
same_kept : (a b c d r s : ℤ) → FitsSigned w128 a → FitsSigned w128 b → FitsSigned w128 c → FitsSigned w128 d → r ≡ int_wrapping_mul w128 (back w128 a) (back w128 b) → s ≡ int_wrapping_mul w128 (back w128 c) (back w128 d) → a *ℤ b ≡ c *ℤ d → r ≡ s
same_kept a b c d r s fa fb fc fd e k p =
    e ∙ ap₂ (int_wrapping_mul w128) (to_z-of_z fa) (to_z-of_z fb) ∙ wrapping_mul_is w128 a b fa fb ∙ ap (int_wrap w128) p ∙ sym (wrapping_mul_is w128 c d fc fd) ∙ sym (ap₂ (int_wrapping_mul w128) (to_z-of_z fc) (to_z-of_z fd)) ∙ sym k

pub kept_apart : (p q : Point) (r s : ℤ) → IsPointInRange p → IsPointInRange q → r ≡ int_wrapping_mul w128 (back w128 q.d) (back w128 p.n.x) → s ≡ int_wrapping_mul w128 (back w128 p.d) (back w128 q.n.x) → p ≈ q → r ≡ s
unfolding times
kept_apart p q r s in_range other e k same =
    let fits_d : (x : Point) → IsPointInRange x → FitsSigned w128 x.d = λ x g. fits_within denominator_bound x.d (denominator_within x g) tt in
    let fits_x : (x : Point) → IsPointInRange x → FitsSigned w128 x.n.x = λ x g. fits_within numerator_bound x.n.x ((numerators_within x g).first) tt in
    same_kept q.d p.n.x p.d q.n.x r s (fits_d q other) (fits_x p in_range) (fits_d p in_range) (fits_x q other) e k (ap (λ (c : Column). c.x) same)

-- points over one denominator have equal first numbers
pub first_equal : (p q : Point) → IsPointInRange p → IsPointInRange q → of_z w128 p.d ≡ of_z w128 q.d → p ≈ q → p.n.x ≡ q.n.x
unfolding times
first_equal p q in_range other e same =
    let d : p.d ≡ q.d = sym (kept_denominator p in_range) ∙ ap (to_z w128) e ∙ kept_denominator q other in
    cancel_number p.d p.n.x q.n.x in_range.positive (ap (λ v. v *ℤ p.n.x) d ∙ ap (λ (c : Column). c.x) same)

-- ---- whether two points are one

number_or_not : (a b : ℤ) → (a ≡ b) ⊎ (a ≡ b → ⊥)
number_or_not a b = ⊎_elim (λ t. inl ((signed_Decides a b).0 t)) (λ f. inr (λ e. false≢true (sym f ∙ (signed_Decides a b).1 e))) (cases_Bool (int_eq a b))

pub same_or_not : (p q : Point) → (p ≈ q) ⊎ (p ≈ q → ⊥)
unfolding times
same_or_not p q = by (number_or_not _ _) (number_or_not _ _) (number_or_not _ _)
  where
    by : (q.d *ℤ p.n.x ≡ p.d *ℤ q.n.x) ⊎ (q.d *ℤ p.n.x ≡ p.d *ℤ q.n.x → ⊥) → (q.d *ℤ p.n.y ≡ p.d *ℤ q.n.y) ⊎ (q.d *ℤ p.n.y ≡ p.d *ℤ q.n.y → ⊥) → (q.d *ℤ p.n.z ≡ p.d *ℤ q.n.z) ⊎ (q.d *ℤ p.n.z ≡ p.d *ℤ q.n.z → ⊥) → (p ≈ q) ⊎ (p ≈ q → ⊥)
    by (inl x) (inl y) (inl z) = inl (λ i. record { x = x i; y = y i; z = z i })
    by (inr n) y z = inr (λ e. n (ap (λ (c : Column). c.x) e))
    by (inl x) (inr n) z = inr (λ e. n (ap (λ (c : Column). c.y) e))
    by (inl x) (inl y) (inr n) = inr (λ e. n (ap (λ (c : Column). c.z) e))
