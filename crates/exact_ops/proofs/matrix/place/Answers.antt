use Rattle.std.proofs.Common.{◌≤◌, ◌*◌, ◌-◌, unsigned_abs, arith, ap, ◌∙◌, pos, ◌+ℤ◌, ◌≡◌, w32, to_z, of_z, FitsSigned}
use Rattle.std.proofs.lemmas.Int.{ints}
use Rattle.std.specs.Int.{int_rem_euclid}
use Rattle.lattice_algebra.proofs.Machine.{read}
use Rattle.exact_ops.specs.declared.TheConstants.{UNIT}
use Rattle.exact_ops.proofs.Bounds.{three_passed, products_passed}
use Rattle.exact_ops.proofs.matrix.place.Goals as goal

pub overflow_add-dot : goal.overflow_add-dot
overflow_add-dot c =
    let h : unsigned_abs c.dot.result ≤ 6 * (UNIT - 1) = c.dot.ensures.size 2 (UNIT - 1) (three_passed w32 2 _ _ _ c.requires.left tt) (three_passed w32 (UNIT - 1) _ _ _ c.requires.right tt) in
    omega (arith, ints)

pub returns : goal.returns
returns c =
    let h : unsigned_abs c.dot.result ≤ 6 * (UNIT - 1) = c.dot.ensures.size 2 (UNIT - 1) (three_passed w32 2 _ _ _ c.requires.left tt) (three_passed w32 (UNIT - 1) _ _ _ c.requires.right tt) in
    let s : to_z w32 (of_z w32 (to_z w32 (of_z w32 c.dot.result) +ℤ to_z w32 (of_z w32 c.args.t))) ≡ c.dot.result +ℤ c.args.t = omega (arith, ints) in
    let fit : FitsSigned w32 c.rem_euclid.result = omega (arith, ints) in
    read w32 _ _ fit (c.rem_euclid.ensures.value ∙ ap (λ z. int_rem_euclid z (pos UNIT)) (s ∙ ap (λ z. z +ℤ c.args.t) (c.dot.ensures.value ∙ products_passed 2 (UNIT - 1) _ _ _ _ _ _ c.requires.left c.requires.right tt tt)))
