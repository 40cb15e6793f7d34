use Rattle.std.proofs.Common.{List, ℕ, ℤ, [], ◌∷◌, w32}
use Rattle.lattice_algebra.proofs.Ring.{Expr, var, ◌⊖◌, ◌⊗◌}
use Rattle.lattice_algebra.proofs.Machine.{IsWithin, fits, computed}
use Rattle.exact_ops.proofs.matrix.cofactor.Goals as goal

abbrev bounds : List ℕ
bounds = 1 ∷ 2 ∷ 2 ∷ 2 ∷ 2 ∷ []

abbrev minor : Expr
minor = var 1 ⊗ var 2 ⊖ var 3 ⊗ var 4

abbrev numbers : goal.Start → List ℤ
numbers c = c.args.sign ∷ c.args.a ∷ c.args.b ∷ c.args.c ∷ c.args.d ∷ []

within : (c : goal.Start) → IsWithin bounds (numbers c)
within c = let l = c.requires.left in let r = c.requires.right in (c.requires.sign, (l.0, (l.1, (r.0, (r.1, tt)))))

pub overflow_sub-result : goal.overflow_sub-result
overflow_sub-result c = fits w32 bounds (numbers c) minor (within c) tt

pub overflow_mul-result-3 : goal.overflow_mul-result-3
overflow_mul-result-3 c = fits w32 bounds (numbers c) (var 0 ⊗ minor) (within c) tt

pub returns : goal.returns
returns c = computed w32 bounds (numbers c) (var 0 ⊗ minor) (within c) tt
