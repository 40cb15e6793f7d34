use Rattle.std.proofs.Common.{List, ℕ, ℤ, [], ◌∷◌, w64}
use Rattle.lattice_algebra.proofs.Ring.{Expr, var, ◌⊖◌, ◌⊗◌}
use Rattle.lattice_algebra.proofs.Machine.{IsWithin, fits, computed, computed-size}
use Rattle.exact_ops.specs.declared.TheConstants.{MAX_ENTRY}
use Rattle.basis_change.proofs.wide.cofactor.Goals as goal

abbrev bounds : List ℕ
bounds = 1 ∷ MAX_ENTRY ∷ MAX_ENTRY ∷ MAX_ENTRY ∷ MAX_ENTRY ∷ []

abbrev minor : Expr
minor = var 1 ⊗ var 2 ⊖ var 3 ⊗ var 4

abbrev numbers : goal.Start → List ℤ
numbers c = c.args.sign ∷ c.args.a ∷ c.args.b ∷ c.args.c ∷ c.args.d ∷ []

within : (c : goal.Start) → IsWithin bounds (numbers c)
within c =
    let l = c.requires.left in
    let r = c.requires.right in
    (c.requires.sign, (l.0, (l.1, (r.0, (r.1, tt)))))

pub overflow_mul-result : goal.overflow_mul-result
overflow_mul-result c = fits w64 bounds (numbers c) (var 1 ⊗ var 2) (within c) tt

pub overflow_mul-result-2 : goal.overflow_mul-result-2
overflow_mul-result-2 c = fits w64 bounds (numbers c) (var 3 ⊗ var 4) (within c) tt

pub overflow_sub-result : goal.overflow_sub-result
overflow_sub-result c = fits w64 bounds (numbers c) minor (within c) tt

pub overflow_mul-result-3 : goal.overflow_mul-result-3
overflow_mul-result-3 c = fits w64 bounds (numbers c) (var 0 ⊗ minor) (within c) tt

pub returns-clause-value : goal.returns-clause-value
returns-clause-value c = computed w64 bounds (numbers c) (var 0 ⊗ minor) (within c) tt

pub returns-clause-size : goal.returns-clause-size
returns-clause-size c = computed-size w64 bounds (numbers c) (var 0 ⊗ minor) (within c) tt
