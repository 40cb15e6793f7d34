use Rattle.std.proofs.Common.{◌≡◌, ap, sym, subst, ◌∙◌, List, ℕ, ℤ, pos, [], ◌∷◌, w64, arith}
use Rattle.lattice_algebra.proofs.Ring.{Expr, var, ◌⊖◌, ◌⊗◌, value}
use Rattle.lattice_algebra.proofs.Machine.{IsWithin, fits, computed, computed-size, widened}
use Rattle.exact_ops.specs.declared.TheConstants.{UNIT}
use Rattle.group_closure.specs.declared.TheConstants.{MAX_OPERATORS}
use Rattle.affine_sets.specs.declared.TheConstants.{MAX_TRANSLATION}
use Rattle.affine_sets.proofs.fixing.without.Goals as goal

abbrev bounds : List ℕ
bounds = MAX_TRANSLATION ∷ MAX_OPERATORS ∷ UNIT ∷ []

abbrev numbers : goal.After-from-t → List ℤ
numbers c = c.args.n ∷ c.from-over.result ∷ c.from-t.result ∷ []

abbrev given : goal.After-from-t → List ℤ
given c = c.args.n ∷ pos c.args.over ∷ c.args.t ∷ []

same_numbers : (c : goal.After-from-t) → numbers c ≡ given c
same_numbers c = λ i. c.args.n ∷ c.from-over.ensures i ∷ widened UNIT c.args.t c.from-t.ensures c.requires.part tt i ∷ []

within : (c : goal.After-from-t) → IsWithin bounds (numbers c)
within c = subst (IsWithin bounds) (sym (same_numbers c)) (c.requires.near, (c.requires.within, (c.requires.part, tt)))

abbrev product : Expr
product = var 1 ⊗ var 2

pub overflow_mul-result : goal.overflow_mul-result
overflow_mul-result c = fits w64 bounds (numbers c) product (within c) tt

pub overflow_sub-result : goal.overflow_sub-result
overflow_sub-result c = fits w64 bounds (numbers c) (var 0 ⊖ product) (within c) tt

pub returns-clause-value : goal.returns-clause-value
returns-clause-value c = computed w64 bounds (numbers c) (var 0 ⊖ product) (within c) tt ∙ ap (λ r. value r (var 0 ⊖ product)) (same_numbers c)

pub returns-clause-size : goal.returns-clause-size
returns-clause-size c = let s = computed-size w64 bounds (numbers c) (var 0 ⊖ product) (within c) tt in omega (arith, s)
