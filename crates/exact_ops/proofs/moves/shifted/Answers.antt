use Rattle.std.proofs.Common.{◌≡◌, ap, sym, subst, ◌∙◌, List, ℕ, ℤ, [], ◌∷◌, w64}
use mir.Syntax.{w128}
use Rattle.lattice_algebra.proofs.Ring.{Expr, var, ◌⊕◌, ◌⊗◌, value}
use Rattle.lattice_algebra.proofs.Machine.{IsWithin, computed, computed-size, fits, kept}
use Rattle.exact_ops.specs.declared.TheConstants.{MAX_SHIFT}
use Rattle.exact_ops.proofs.Bounds.{denominator_bound, image_bound}
use Rattle.exact_ops.proofs.moves.shifted.Goals as goal

abbrev bounds : List ℕ
bounds = image_bound ∷ MAX_SHIFT ∷ denominator_bound ∷ []

abbrev numbers : goal.After-from → List ℤ
numbers c = c.args.n ∷ c.from.result ∷ c.args.d ∷ []

abbrev given : goal.After-from → List ℤ
given c = c.args.n ∷ c.args.shift ∷ c.args.d ∷ []

same_numbers : (c : goal.After-from) → numbers c ≡ given c
same_numbers c = let s = c.from.ensures ∙ kept w64 MAX_SHIFT c.args.shift c.requires.shift tt in λ i. c.args.n ∷ s i ∷ c.args.d ∷ []

within : (c : goal.After-from) → IsWithin bounds (numbers c)
within c = subst (IsWithin bounds) (sym (same_numbers c)) (c.requires.numerator, (c.requires.shift, (c.requires.denominator, tt)))

abbrev sum : Expr
sum = var 0 ⊕ var 1 ⊗ var 2

pub overflow_mul-result : goal.overflow_mul-result
overflow_mul-result c = fits w128 bounds (numbers c) (var 1 ⊗ var 2) (within c) tt

pub overflow_add-result : goal.overflow_add-result
overflow_add-result c = fits w128 bounds (numbers c) sum (within c) tt

pub returns-clause-value : goal.returns-clause-value
returns-clause-value c = computed w128 bounds (numbers c) sum (within c) tt ∙ ap (λ r. value r sum) (same_numbers c)

pub returns-clause-size : goal.returns-clause-size
returns-clause-size c = computed-size w128 bounds (numbers c) sum (within c) tt
