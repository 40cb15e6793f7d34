use Rattle.std.proofs.Common.{◌≡◌, ◌≤◌, ◌*◌, pos, ◌*ℤ◌, ◌<ℤ◌, unsigned_abs, ap, subst, sym, ◌∙◌, List, ℕ, ℤ, [], ◌∷◌, w64, mul-le-mul, le_refl}
use Rattle.lattice_algebra.proofs.Ring.{Expr, var, ◌⊗◌, value}
use Rattle.lattice_algebra.proofs.Machine.{IsWithin, computed, widened}
use Rattle.lattice_algebra.proofs.Numbers.{above, positive_product, positive_size, positive_is}
use Rattle.exact_ops.specs.declared.TheConstants.{UNIT}
use Rattle.exact_ops.proofs.Narrow.{some_parts}
use Rattle.parameter_forms.specs.declared.TheConstants.{MAX_NUMBER, MAX_MINOR, MAX_OVER}
use Rattle.parameter_forms.proofs.forms.cell_over.Goals as goal

abbrev bounds : List ℕ
bounds = UNIT ∷ MAX_NUMBER ∷ MAX_MINOR ∷ []

abbrev product : Expr
product = var 0 ⊗ var 1 ⊗ var 2

module _ (c : goal.After-from-3) where
  abbrev numbers : List ℤ
  numbers = c.from.result ∷ c.from-2.result ∷ c.from-3.result ∷ []

  abbrev given : List ℤ
  given = pos UNIT ∷ pos c.args.over ∷ c.args.d ∷ []

  same_numbers : numbers ≡ given
  same_numbers = λ i. c.from.ensures i ∷ c.from-2.ensures i ∷ widened MAX_MINOR c.args.d c.from-3.ensures c.requires.small tt i ∷ []

  within : IsWithin bounds numbers
  within = subst (IsWithin bounds) (sym same_numbers) (le_refl UNIT, (c.requires.few, (c.requires.small, tt)))

pub returns-clause-value : goal.returns-clause-value
returns-clause-value c =
    computed w64 bounds (numbers c) product (within c) tt ∙ ap (λ r. value r product) (same_numbers c)
    ∙ ap (λ d. pos UNIT *ℤ pos c.args.over *ℤ d) (positive_is c.args.d c.requires.positive)

pub returns-clause-positive : goal.returns-clause-positive
returns-clause-positive c =
    subst (λ x. pos 0 <ℤ x) (sym (returns-clause-value c))
    (above (UNIT * c.args.over * unsigned_abs c.args.d) (positive_product (UNIT * c.args.over) (unsigned_abs c.args.d) (positive_product UNIT c.args.over some_parts c.requires.some) (positive_size c.args.d c.requires.positive)))

pub returns-clause-small : goal.returns-clause-small
returns-clause-small c =
    subst (λ x. unsigned_abs x ≤ UNIT * MAX_OVER) (sym (returns-clause-value c))
    (let l : UNIT * c.args.over * unsigned_abs c.args.d ≤ UNIT * MAX_NUMBER * MAX_MINOR = mul-le-mul (mul-le-mul (le_refl UNIT) c.requires.few) c.requires.small in l)
