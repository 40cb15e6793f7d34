use Rattle.std.proofs.Common.{◌≤◌, ◌+◌, ◌*◌, unsigned_abs, subst, sym, arith, List, ℕ, ℤ, [], ◌∷◌, w32}
use Rattle.lattice_algebra.specs.Operator.{AreWithin}
use Rattle.lattice_algebra.proofs.Ring.{Expr, var, ◌⊕◌, ◌⊗◌, value}
use Rattle.lattice_algebra.proofs.Machine.{IsWithin, fits, computed, value-size}
use Rattle.exact_ops.specs.declared.TheConstants.{MAX_ENTRY}
use Rattle.exact_ops.proofs.matrix.dot.Goals as goal

abbrev bounds : ℕ → ℕ → List ℕ
bounds m n = m ∷ m ∷ m ∷ n ∷ n ∷ n ∷ []

abbrev two : Expr
two = var 0 ⊗ var 3 ⊕ var 1 ⊗ var 4

abbrev three : Expr
three = two ⊕ var 2 ⊗ var 5

abbrev numbers : goal.Start → List ℤ
numbers c = c.args.a ∷ c.args.b ∷ c.args.c ∷ c.args.x ∷ c.args.y ∷ c.args.z ∷ []

within : (c : goal.Start) (m n : ℕ) → AreWithin m c.args.a c.args.b c.args.c → AreWithin n c.args.x c.args.y c.args.z → IsWithin (bounds m n) (numbers c)
within c m n l r = (l.first, (l.second, (l.third, (r.first, (r.second, (r.third, tt))))))

given : (c : goal.Start) → IsWithin (bounds MAX_ENTRY MAX_ENTRY) (numbers c)
given c = within c MAX_ENTRY MAX_ENTRY c.requires.left c.requires.right

pub overflow_add-result : goal.overflow_add-result
overflow_add-result c = fits w32 (bounds MAX_ENTRY MAX_ENTRY) (numbers c) two (given c) tt

pub overflow_add-result-2 : goal.overflow_add-result-2
overflow_add-result-2 c = fits w32 (bounds MAX_ENTRY MAX_ENTRY) (numbers c) three (given c) tt

pub returns-clause-value : goal.returns-clause-value
returns-clause-value c = computed w32 (bounds MAX_ENTRY MAX_ENTRY) (numbers c) three (given c) tt

three_times : (x m n : ℕ) → x ≤ m * n + m * n + m * n → x ≤ 3 * (m * n)
three_times x m n h = omega (arith, h)

pub returns-clause-size : goal.returns-clause-size
returns-clause-size c =
    λ m n l r. subst (λ v. unsigned_abs v ≤ 3 * (m * n)) (sym (computed w32 (bounds MAX_ENTRY MAX_ENTRY) (numbers c) three (given c) tt))
    (three_times (unsigned_abs (value (numbers c) three)) m n (value-size (bounds m n) (numbers c) three (within c m n l r)))
