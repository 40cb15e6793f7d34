use Rattle.std.proofs.Common.{List, ℕ, ℤ, [], ◌∷◌, w32}
use Rattle.lattice_algebra.proofs.Ring.{Expr, var, ◌⊖◌, ◌⊗◌}
use Rattle.lattice_algebra.proofs.Machine.{IsWithin, fits, computed, computed-size}
use Rattle.parameter_forms.specs.declared.TheConstants.{MAX_MATRIX}
use Rattle.parameter_forms.proofs.vectors.minor.Goals as goal

abbrev bounds : List ℕ
bounds = MAX_MATRIX ∷ MAX_MATRIX ∷ MAX_MATRIX ∷ MAX_MATRIX ∷ []

abbrev numbers : goal.Start → List ℤ
numbers c = c.args.a ∷ c.args.b ∷ c.args.c ∷ c.args.d ∷ []

within : (c : goal.Start) → IsWithin bounds (numbers c)
within c = let l = c.requires.left in let r = c.requires.right in (l.0, (l.1, (r.0, (r.1, tt))))

abbrev minor : Expr
minor = var 0 ⊗ var 1 ⊖ var 2 ⊗ var 3

pub overflow_sub-result : goal.overflow_sub-result
overflow_sub-result c = fits w32 bounds (numbers c) minor (within c) tt

pub returns-clause-value : goal.returns-clause-value
returns-clause-value c = computed w32 bounds (numbers c) minor (within c) tt

pub returns-clause-size : goal.returns-clause-size
returns-clause-size c = computed-size w32 bounds (numbers c) minor (within c) tt
