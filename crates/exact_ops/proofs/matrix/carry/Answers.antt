use Rattle.std.proofs.Common.{◌≡◌, ◌≤◌, ◌-◌, ◌*◌, ◌+◌, ◌/◌, ℤ, pos, negsuc, ◌+ℤ◌, unsigned_abs, arith, ap, ◌∙◌, sym, subst, w32, to_z, of_z}
use Rattle.std.proofs.lemmas.Int.{ints}
use Rattle.std.specs.Int.{int_div_euclid}
use Rattle.lattice_algebra.specs.Matrix.{sum_of_products}
use Rattle.lattice_algebra.proofs.Machine.{kept}
use Rattle.lattice_algebra.proofs.Numbers.{abs_add}
use Rattle.exact_ops.specs.declared.TheConstants.{UNIT}
use Rattle.exact_ops.proofs.Bounds.{three_passed, products_passed}
use Rattle.exact_ops.proofs.matrix.carry.Goals as goal

pub overflow_add-dot : goal.overflow_add-dot
overflow_add-dot c =
    let h : unsigned_abs c.dot.result ≤ 6 * (UNIT - 1) = c.dot.ensures.size 2 (UNIT - 1) (three_passed w32 2 _ _ _ c.requires.left tt) (three_passed w32 (UNIT - 1) _ _ _ c.requires.right tt) in
    omega (arith, ints)

quotient_within : (z : ℤ) → unsigned_abs z ≤ 7 * (UNIT - 1) → unsigned_abs (int_div_euclid z (pos UNIT)) ≤ 7
quotient_within (pos a) h = let l : a / UNIT ≤ 7 = omega arith in l
quotient_within (negsuc a) h = let l : a / UNIT + 1 ≤ 7 = omega arith in omega arith

sum_within : (s t : ℤ) → unsigned_abs s ≤ 6 * (UNIT - 1) → unsigned_abs t ≤ UNIT - 1 → unsigned_abs (s +ℤ t) ≤ 7 * (UNIT - 1)
sum_within s t h k = omega (arith, abs_add s t)

sum_is : (s t r : ℤ) → unsigned_abs s ≤ 6 * (UNIT - 1) → unsigned_abs t ≤ UNIT - 1 → s ≡ r → to_z w32 (of_z w32 (to_z w32 (of_z w32 s) +ℤ to_z w32 (of_z w32 t))) ≡ r +ℤ t
sum_is s t r h k e = let f : to_z w32 (of_z w32 (to_z w32 (of_z w32 s) +ℤ to_z w32 (of_z w32 t))) ≡ s +ℤ t = omega (arith, ints) in f ∙ ap (λ z. z +ℤ t) e

dot_size : (c : goal.After-div_euclid) → unsigned_abs c.dot.result ≤ 6 * (UNIT - 1)
dot_size c = c.dot.ensures.size 2 (UNIT - 1) (three_passed w32 2 _ _ _ c.requires.left tt) (three_passed w32 (UNIT - 1) _ _ _ c.requires.right tt)

dot_is : (c : goal.After-div_euclid) → c.dot.result ≡ sum_of_products c.args.a c.args.b c.args.c c.args.x c.args.y c.args.z
dot_is c = c.dot.ensures.value ∙ products_passed 2 (UNIT - 1) _ _ _ _ _ _ c.requires.left c.requires.right tt tt

quotient_is : (c : goal.After-div_euclid) → c.div_euclid.result ≡ int_div_euclid (sum_of_products c.args.a c.args.b c.args.c c.args.x c.args.y c.args.z +ℤ c.args.t) (pos UNIT)
quotient_is c =
    c.div_euclid.ensures ∙ ap (λ z. int_div_euclid z (pos UNIT)) (sum_is c.dot.result c.args.t _ (dot_size c) c.requires.by (dot_is c))

result_within : (c : goal.After-div_euclid) → unsigned_abs c.div_euclid.result ≤ 7
result_within c =
    subst (λ q. unsigned_abs q ≤ 7) (sym (quotient_is c))
    (quotient_within _ (sum_within _ c.args.t (subst (λ r. unsigned_abs r ≤ 6 * (UNIT - 1)) (dot_is c) (dot_size c)) c.requires.by))

pub returns-clause-value : goal.returns-clause-value
returns-clause-value c = kept w32 7 c.div_euclid.result (result_within c) tt ∙ quotient_is c

pub returns-clause-size : goal.returns-clause-size
returns-clause-size c = subst (λ q. unsigned_abs q ≤ 7) (sym (kept w32 7 c.div_euclid.result (result_within c) tt)) (result_within c)
