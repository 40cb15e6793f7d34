-- What the order of a matrix divides, and the orders of the matrices of a group.
use Rattle.std.proofs.Common.{◌≡◌, ⊎_elim, ◌+◌, ◌*◌, ◌/◌, ◌%◌, ◌<◌, ◌≤◌, ℕ, zero, suc, pos, negsuc, ◌*ℤ◌, neg_ℤ, List, length, Contains, ap, sym, ◌∙◌, refl, arith}
use Rattle.std.specs.Int.{◌∣◌}
use Rattle.std.proofs.lemmas.Int.{ints}
use Rattle.std.proofs.lemmas.Nat.Gcd.{dvd_of_mod-eq-zero}
use Rattle.std.proofs.lemmas.List.Elements.{All-contains}
use Rattle.lattice_algebra.specs.Matrix.{Matrix, det, scaled, identity, ◌·◌, IsUnimodular}
use Rattle.lattice_algebra.specs.Operator.{Operator}
use Rattle.lattice_algebra.specs.Powers.{power, IsOrder}
use Rattle.lattice_algebra.proofs.Matrices.{identity-·, det-·, det-opposite, IsUnimodular-det, det-identity}
use Rattle.lattice_algebra.proofs.Powers.{power-zero, power-more, power-add, power-opposite}
use Rattle.exact_ops.specs.Narrow.{IsNarrow}
use Rattle.group_closure.specs.GroupList.{IsGroup}
use Rattle.lattice_algebra.proofs.Numbers.{positive_or_not}
use Rattle.op_types.specs.ProperPart.{IsProper, IsProperPart, opposite}
use Rattle.op_types.proofs.Members.{power-length}

-- ---- the powers that are the identity

power-multiple : (w : Matrix) (k q n : ℕ) → power w k ≡ identity → n ≡ q * k → power w n ≡ identity
power-multiple w k zero n e s = ap (power w) (let none : n ≡ 0 = omega arith in none) ∙ power-zero w
power-multiple w k (suc q) n e s =
    let more : n ≡ k + q * k = omega arith in
    ap (power w) more ∙ power-add w k (q * k) ∙ ap (λ m. m · power w (q * k)) e ∙ identity-· (power w (q * k)) ∙ power-multiple w k q (q * k) e refl

power-rest : (w : Matrix) (k q r n : ℕ) → power w k ≡ identity → n ≡ q * k + r → power w n ≡ power w r
power-rest w k q r n e s = ap (power w) s ∙ power-add w (q * k) r ∙ ap (λ m. m · power w r) (power-multiple w k q (q * k) e refl) ∙ identity-· (power w r)

-- the order divides each exponent that gives the identity
pub order_divides : (w : Matrix) (k n : ℕ) → IsOrder w k → power w n ≡ identity → k ∣ n
order_divides w k n o e =
    let positive = o.positive in
    let whole : n ≡ n / k * k + n % k = omega arith in
    dvd_of_mod-eq-zero k (none (n % k) (omega arith) (sym (power-rest w k (n / k) (n % k) n o.returns whole) ∙ e))
  where
    none : (r : ℕ) → r < k → power w r ≡ identity → r ≡ 0
    none zero l i = refl
    none (suc r) l i = absurd (let le : k ≤ suc r = o.least (suc r) (omega arith) i in omega arith)

-- ---- the opposite of an improper matrix

det-opposite_identity : det (opposite identity) ≡ negsuc 0
unfolding det scaled
det-opposite_identity = refl

det-power : (w : Matrix) (k : ℕ) → det w ≡ pos 1 → det (power w k) ≡ pos 1
det-power w zero e = ap det (power-zero w) ∙ det-identity
det-power w (suc k) e =
    let more : suc k ≡ k + 1 = omega arith in
    ap (λ n. det (power w n)) more ∙ ap det (power-more w k) ∙ det-· w (power w k) ∙ ap (λ d. d *ℤ det (power w k)) e ∙ ap (λ d. pos 1 *ℤ d) (det-power w k e)

-- the opposite of an improper matrix has determinant +1, and so has each of its powers
improper_power : (w : Matrix) (n : ℕ) → det w ≡ negsuc 0 → power w n ≡ identity → power (opposite w) n ≡ identity
improper_power w n d e =
    ⊎_elim (λ p. p ∙ e)
    (λ p. absurd (apart (sym (det-power (opposite w) n (det-opposite w ∙ ap neg_ℤ d)) ∙ ap det (p ∙ ap opposite e) ∙ det-opposite_identity)))
    (power-opposite w n)
  where
    apart : pos 1 ≡ negsuc 0 → ⊥
    apart s = omega (arith, ints)

is_improper : (w : Matrix) → IsUnimodular w → (IsProper w → ⊥) → det w ≡ negsuc 0
is_improper w u n = ⊎_elim (λ e. absurd (n (omega (arith, ints)))) (λ e. e) (IsUnimodular-det w u)

pub proper_power : (w p : Matrix) (n : ℕ) → IsUnimodular w → IsProperPart w p → power w n ≡ identity → power p n ≡ identity
proper_power w p n u h e =
    ⊎_elim (λ y. ap (λ m. power m n) (h.same y) ∙ e) (λ m. ap (λ q. power q n) (h.opposite_of m) ∙ improper_power w n (is_improper w u m) e) (positive_or_not (det w))

-- ---- the members of a group

-- the order of the matrix of a member divides the number of members
pub order_of_member : (members : List Operator) (f : Operator) (k : ℕ) → IsGroup members → Contains members f → IsOrder f.w k → k ∣ length members
order_of_member members f k g c o = order_divides f.w k (length members) o (power-length members f g c)

-- the same of its proper part
pub proper_order_of_member : (members : List Operator) (f : Operator) (p : Matrix) (k : ℕ) → IsGroup members → Contains members f → IsProperPart f.w p → IsOrder p k → k ∣ length members
proper_order_of_member members f p k g c h o =
    let valid = (All-contains IsNarrow members f g.narrow c).is_operator in
    order_divides p k (length members) o (proper_power f.w p (length members) valid.unimodular h (power-length members f g c))
