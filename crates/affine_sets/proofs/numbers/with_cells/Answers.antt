use Rattle.std.proofs.Common.{arith, ◌≡◌, ap, sym, subst, ◌∙◌, List, ℕ, ℤ, pos, [], ◌∷◌, w64}
use Rattle.lattice_algebra.proofs.Ring.{Expr, var, ◌⊕◌, ◌⊗◌, value}
use Rattle.lattice_algebra.proofs.Machine.{IsWithin, fits, computed, computed-size, widened}
use Rattle.exact_ops.specs.declared.TheConstants.{UNIT, MAX_SHIFT}
use Rattle.affine_sets.proofs.numbers.with_cells.Goals as goal

abbrev bounds : List ℕ
bounds = UNIT ∷ UNIT ∷ MAX_SHIFT ∷ []

abbrev numbers : goal.After-from-2 → List ℤ
numbers c = c.from.result ∷ c.from-2.result ∷ c.args.cells ∷ []

abbrev given : goal.After-from-2 → List ℤ
given c = c.args.t ∷ pos UNIT ∷ c.args.cells ∷ []

same_numbers : (c : goal.After-from-2) → numbers c ≡ given c
same_numbers c = λ i. widened UNIT c.args.t c.from.ensures c.requires.parts tt i ∷ c.from-2.ensures i ∷ c.args.cells ∷ []

within : (c : goal.After-from-2) → IsWithin bounds (numbers c)
within c = subst (IsWithin bounds) (sym (same_numbers c)) (c.requires.parts, (omega arith, (c.requires.cells, tt)))

abbrev product : Expr
product = var 1 ⊗ var 2

abbrev sum : Expr
sum = var 0 ⊕ product

pub overflow_mul-result : goal.overflow_mul-result
overflow_mul-result c = fits w64 bounds (numbers c) product (within c) tt

pub overflow_add-result : goal.overflow_add-result
overflow_add-result c = fits w64 bounds (numbers c) sum (within c) tt

pub returns-clause-value : goal.returns-clause-value
returns-clause-value c = computed w64 bounds (numbers c) sum (within c) tt ∙ ap (λ r. value r sum) (same_numbers c)

pub returns-clause-size : goal.returns-clause-size
returns-clause-size c = computed-size w64 bounds (numbers c) sum (within c) tt
