use Rattle.std.proofs.Common.{◌≡◌, ◌*◌, ◌+ℤ◌, ◌*ℤ◌, neg_ℤ, ap, subst, sym, ◌∙◌, List, ℕ, ℤ, [], ◌∷◌, w64}
use Rattle.lattice_algebra.proofs.Ring.{Expr, var, ◌⊖◌, ◌⊗◌, value}
use Rattle.lattice_algebra.proofs.Machine.{IsWithin, fits, computed, widened}
use Rattle.exact_ops.specs.declared.TheConstants.{UNIT}
use Rattle.exact_ops.proofs.Bounds.{products_passed}
use Rattle.parameter_forms.specs.declared.TheConstants.{MAX_NUMBER, MAX_MINOR}
use Rattle.parameter_forms.proofs.forms.difference.Goals as goal

abbrev bounds : List ℕ
bounds = MAX_MINOR ∷ UNIT * MAX_NUMBER ∷ 3 * (MAX_MINOR * (UNIT * MAX_NUMBER)) ∷ []

abbrev rest : Expr
rest = var 0 ⊗ var 1 ⊖ var 2

module _ (c : goal.After-dot-along) where
  abbrev numbers : List ℤ
  numbers = c.from-over.result ∷ c.from-own.result ∷ c.dot-along.result ∷ []

  abbrev given : List ℤ
  given = c.args.over ∷ c.args.own ∷ c.dot-along.result ∷ []

  same_numbers : numbers ≡ given
  same_numbers = λ i. widened MAX_MINOR c.args.over c.from-over.ensures c.requires.over tt i ∷ widened (UNIT * MAX_NUMBER) c.args.own c.from-own.ensures c.requires.own tt i ∷ c.dot-along.result ∷ []

  within : IsWithin bounds numbers
  within = subst (IsWithin bounds) (sym same_numbers) (c.requires.over, (c.requires.own, (c.dot-along.ensures.size, tt)))

pub overflow_sub-result : goal.overflow_sub-result
overflow_sub-result c = fits w64 bounds (numbers c) rest (within c) tt

pub returns : goal.returns
returns c =
    computed w64 bounds (numbers c) rest (within c) tt ∙ ap (λ r. value r rest) (same_numbers c)
    ∙ ap (λ d. c.args.over *ℤ c.args.own +ℤ neg_ℤ d) (c.dot-along.ensures.value ∙ products_passed MAX_MINOR (UNIT * MAX_NUMBER) _ _ _ _ _ _ c.requires.row c.requires.column tt tt)
