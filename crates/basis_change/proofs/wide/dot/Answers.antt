use Rattle.std.proofs.Common.{◌≤◌, ◌+◌, ◌*◌, List, ℕ, ℤ, [], ◌∷◌, w64, unsigned_abs, subst, sym, arith}
use Rattle.lattice_algebra.proofs.Ring.{Expr, var, ◌⊕◌, ◌⊗◌}
use Rattle.lattice_algebra.proofs.Machine.{IsWithin, fits, computed, value-size}
use Rattle.basis_change.specs.Wide.{WIDE}
use Rattle.basis_change.proofs.wide.dot.Goals as goal

abbrev bounds : List ℕ
bounds = WIDE ∷ WIDE ∷ WIDE ∷ WIDE ∷ WIDE ∷ WIDE ∷ []

abbrev two : Expr
two = var 0 ⊗ var 3 ⊕ var 1 ⊗ var 4

abbrev three : Expr
three = two ⊕ var 2 ⊗ var 5

abbrev numbers : goal.Start → List ℤ
numbers c = c.args.a ∷ c.args.b ∷ c.args.c ∷ c.args.x ∷ c.args.y ∷ c.args.z ∷ []

within : (c : goal.Start) → IsWithin bounds (numbers c)
within c =
    let l = c.requires.left in
    let r = c.requires.right in
    (l.first, (l.second, (l.third, (r.first, (r.second, (r.third, tt))))))

pub overflow_mul-result : goal.overflow_mul-result
overflow_mul-result c = fits w64 bounds (numbers c) (var 0 ⊗ var 3) (within c) tt

pub overflow_mul-result-2 : goal.overflow_mul-result-2
overflow_mul-result-2 c = fits w64 bounds (numbers c) (var 1 ⊗ var 4) (within c) tt

pub overflow_mul-result-3 : goal.overflow_mul-result-3
overflow_mul-result-3 c = fits w64 bounds (numbers c) (var 2 ⊗ var 5) (within c) tt

pub overflow_add-result : goal.overflow_add-result
overflow_add-result c = fits w64 bounds (numbers c) two (within c) tt

pub overflow_add-result-2 : goal.overflow_add-result-2
overflow_add-result-2 c = fits w64 bounds (numbers c) three (within c) tt

pub returns-clause-value : goal.returns-clause-value
returns-clause-value c = computed w64 bounds (numbers c) three (within c) tt

sum_size : (v m n : ℕ) → v ≤ m * n + m * n + m * n → v ≤ 3 * (m * n)
sum_size v m n h = omega (arith, h)

pub returns-clause-size : goal.returns-clause-size
returns-clause-size c = λ m n l r.
    let b : List ℕ = m ∷ m ∷ m ∷ n ∷ n ∷ n ∷ [] in
    let w : IsWithin b (numbers c) = (l.first, (l.second, (l.third, (r.first, (r.second, (r.third, tt)))))) in
    sum_size _ m n (subst (λ v. unsigned_abs v ≤ m * n + m * n + m * n) (sym (computed w64 bounds (numbers c) three (within c) tt)) (value-size b (numbers c) three w))
