use Rattle.std.proofs.Common.{◌≡◌, ◌*◌, ap, sym, subst, ◌∙◌, List, ℕ, ℤ, [], ◌∷◌, w64}
use Rattle.lattice_algebra.proofs.Ring.{Expr, var, ◌⊕◌, ◌⊗◌, value}
use Rattle.lattice_algebra.proofs.Machine.{IsWithin, fits, computed, computed-size, widened}
use Rattle.exact_ops.specs.declared.TheConstants.{UNIT}
use Rattle.parameter_forms.specs.declared.TheConstants.{MAX_NUMBER, MAX_MINOR}
use Rattle.parameter_forms.proofs.forms.dot.Goals as goal

abbrev bounds : List ℕ
bounds = MAX_MINOR ∷ MAX_MINOR ∷ MAX_MINOR ∷ UNIT * MAX_NUMBER ∷ UNIT * MAX_NUMBER ∷ UNIT * MAX_NUMBER ∷ []

abbrev numbers : goal.After-from-z → List ℤ
numbers c = c.from-a.result ∷ c.from-b.result ∷ c.from-c.result ∷ c.from-x.result ∷ c.from-y.result ∷ c.from-z.result ∷ []

abbrev given : goal.After-from-z → List ℤ
given c = c.args.a ∷ c.args.b ∷ c.args.c ∷ c.args.x ∷ c.args.y ∷ c.args.z ∷ []

same_numbers : (c : goal.After-from-z) → numbers c ≡ given c
same_numbers c =
    let r = c.requires.row in
    let v = c.requires.column in
    λ i. widened MAX_MINOR c.args.a c.from-a.ensures r.first tt i ∷ widened MAX_MINOR c.args.b c.from-b.ensures r.second tt i ∷ widened MAX_MINOR c.args.c c.from-c.ensures r.third tt i
    ∷ widened (UNIT * MAX_NUMBER) c.args.x c.from-x.ensures v.first tt i ∷ widened (UNIT * MAX_NUMBER) c.args.y c.from-y.ensures v.second tt i ∷ widened (UNIT * MAX_NUMBER) c.args.z c.from-z.ensures v.third tt i ∷ []

within : (c : goal.After-from-z) → IsWithin bounds (numbers c)
within c =
    let r = c.requires.row in
    let v = c.requires.column in
    subst (IsWithin bounds) (sym (same_numbers c)) (r.first, (r.second, (r.third, (v.first, (v.second, (v.third, tt))))))

abbrev two : Expr
two = var 0 ⊗ var 3 ⊕ var 1 ⊗ var 4

abbrev three : Expr
three = two ⊕ var 2 ⊗ var 5

pub overflow_add-result : goal.overflow_add-result
overflow_add-result c = fits w64 bounds (numbers c) two (within c) tt

pub overflow_add-result-2 : goal.overflow_add-result-2
overflow_add-result-2 c = fits w64 bounds (numbers c) three (within c) tt

pub returns-clause-value : goal.returns-clause-value
returns-clause-value c = computed w64 bounds (numbers c) three (within c) tt ∙ ap (λ r. value r three) (same_numbers c)

pub returns-clause-size : goal.returns-clause-size
returns-clause-size c = computed-size w64 bounds (numbers c) three (within c) tt
