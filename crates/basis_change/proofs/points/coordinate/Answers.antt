use Rattle.std.proofs.Common.{◌≡◌, ◌-◌, ◌^◌, ap, sym, subst, ◌∙◌, List, ℕ, ℤ, [], ◌∷◌}
use mir.Syntax.{w128}
use Rattle.lattice_algebra.proofs.Ring.{Expr, var, ◌⊕◌, ◌⊗◌, value}
use Rattle.lattice_algebra.proofs.Machine.{IsWithin, fits, computed, computed-size, widened}
use Rattle.exact_ops.specs.declared.TheConstants.{UNIT, MAX_ENTRY, MAX_DENOMINATOR}
use Rattle.exact_ops.proofs.Bounds.{numerator_bound}
use Rattle.basis_change.proofs.points.coordinate.Goals as goal

abbrev bounds : List ℕ
bounds = MAX_ENTRY ∷ MAX_ENTRY ∷ MAX_ENTRY ∷ (UNIT - 1) ∷ numerator_bound ∷ numerator_bound ∷ numerator_bound ∷ (MAX_DENOMINATOR ^ 3) ∷ []

abbrev numbers : goal.After-from-t → List ℤ
numbers c = c.from-a.result ∷ c.from-b.result ∷ c.from-c.result ∷ c.from-t.result ∷ c.args.x ∷ c.args.y ∷ c.args.z ∷ c.args.part ∷ []

abbrev given : goal.After-from-t → List ℤ
given c = c.args.a ∷ c.args.b ∷ c.args.c ∷ c.args.t ∷ c.args.x ∷ c.args.y ∷ c.args.z ∷ c.args.part ∷ []

same_numbers : (c : goal.After-from-t) → numbers c ≡ given c
same_numbers c =
    let r = c.requires.row in
    λ i. widened MAX_ENTRY c.args.a c.from-a.ensures r.first tt i ∷ widened MAX_ENTRY c.args.b c.from-b.ensures r.second tt i ∷ widened MAX_ENTRY c.args.c c.from-c.ensures r.third tt i
    ∷ widened (UNIT - 1) c.args.t c.from-t.ensures c.requires.translation tt i ∷ c.args.x ∷ c.args.y ∷ c.args.z ∷ c.args.part ∷ []

within : (c : goal.After-from-t) → IsWithin bounds (numbers c)
within c =
    let r = c.requires.row in
    let p = c.requires.point in
    subst (IsWithin bounds) (sym (same_numbers c)) (r.first, (r.second, (r.third, (c.requires.translation, (p.first, (p.second, (p.third, (c.requires.part, tt))))))))

abbrev two : Expr
two = var 0 ⊗ var 4 ⊕ var 1 ⊗ var 5

abbrev three : Expr
three = two ⊕ var 2 ⊗ var 6

abbrev four : Expr
four = three ⊕ var 3 ⊗ var 7

pub overflow_add-result : goal.overflow_add-result
overflow_add-result c = fits w128 bounds (numbers c) two (within c) tt

pub overflow_mul-result-3 : goal.overflow_mul-result-3
overflow_mul-result-3 c = fits w128 bounds (numbers c) (var 2 ⊗ var 6) (within c) tt

pub overflow_add-result-2 : goal.overflow_add-result-2
overflow_add-result-2 c = fits w128 bounds (numbers c) three (within c) tt

pub overflow_mul-result-4 : goal.overflow_mul-result-4
overflow_mul-result-4 c = fits w128 bounds (numbers c) (var 3 ⊗ var 7) (within c) tt

pub overflow_add-result-3 : goal.overflow_add-result-3
overflow_add-result-3 c = fits w128 bounds (numbers c) four (within c) tt

pub returns-clause-value : goal.returns-clause-value
returns-clause-value c = computed w128 bounds (numbers c) four (within c) tt ∙ ap (λ r. value r four) (same_numbers c)

pub returns-clause-size : goal.returns-clause-size
returns-clause-size c = computed-size w128 bounds (numbers c) four (within c) tt
