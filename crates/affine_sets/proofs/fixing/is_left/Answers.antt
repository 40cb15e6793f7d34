use Rattle.std.proofs.Common.{◌≡◌, ◌^◌, ap, sym, subst, ◌∙◌, List, ℕ, ℤ, pos, [], ◌∷◌, FitsSigned, to_z, of_z, to_z-of_z}
use mir.Syntax.{w128, w64}
use Rattle.std.proofs.lemmas.Bool.{eq-eqb, eqb-true}
use Rattle.lattice_algebra.proofs.Ring.{Expr, var, ◌⊕◌, ◌⊗◌, value}
use Rattle.lattice_algebra.proofs.Machine.{IsWithin, fits, computed, widened, machine, kept}
use Rattle.group_closure.specs.declared.TheConstants.{MAX_OPERATORS}
use Rattle.affine_sets.specs.declared.TheConstants.{MAX_TRANSLATION}
use Rattle.affine_sets.specs.Conditions.{numerator_limit}
use Rattle.affine_sets.proofs.fixing.is_left.Goals as goal

abbrev bounds : List ℕ
bounds = 384 ∷ 384 ∷ 384 ∷ MAX_TRANSLATION ∷ numerator_limit ∷ numerator_limit ∷ numerator_limit ∷ numerator_limit ∷ (10 ^ 18) ∷ MAX_OPERATORS ∷ []

abbrev numbers : goal.After-from-over → List ℤ
numbers c = c.from-a.result ∷ c.from-b.result ∷ c.from-c.result ∷ c.from-t.result ∷ c.args.x ∷ c.args.y ∷ c.args.z ∷ c.args.n ∷ c.args.part ∷ c.from-over.result ∷ []

abbrev given : goal.After-from-over → List ℤ
given c = c.args.a ∷ c.args.b ∷ c.args.c ∷ c.args.t ∷ c.args.x ∷ c.args.y ∷ c.args.z ∷ c.args.n ∷ c.args.part ∷ pos c.args.over ∷ []

same_numbers : (c : goal.After-from-over) → numbers c ≡ given c
same_numbers c =
    let r = c.requires.row in
    λ i. widened 384 c.args.a c.from-a.ensures r.first tt i ∷ widened 384 c.args.b c.from-b.ensures r.second tt i ∷ widened 384 c.args.c c.from-c.ensures r.third tt i
    ∷ (c.from-t.ensures ∙ kept w64 MAX_TRANSLATION c.args.t c.requires.translation tt) i ∷ c.args.x ∷ c.args.y ∷ c.args.z ∷ c.args.n ∷ c.args.part ∷ c.from-over.ensures i ∷ []

within : (c : goal.After-from-over) → IsWithin bounds (numbers c)
within c =
    let r = c.requires.row in
    let p = c.requires.point in
    subst (IsWithin bounds) (sym (same_numbers c)) (r.first, (r.second, (r.third, (c.requires.translation, (p.first, (p.second, (p.third, (c.requires.number, (c.requires.part, (c.requires.over, tt))))))))))

abbrev two : Expr
two = var 0 ⊗ var 4 ⊕ var 1 ⊗ var 5

abbrev three : Expr
three = two ⊕ var 2 ⊗ var 6

abbrev four : Expr
four = three ⊕ var 3 ⊗ var 8

abbrev other : Expr
other = var 9 ⊗ var 7

pub overflow_mul-result : goal.overflow_mul-result
overflow_mul-result c = fits w128 bounds (numbers c) (var 0 ⊗ var 4) (within c) tt

pub overflow_mul-result-2 : goal.overflow_mul-result-2
overflow_mul-result-2 c = fits w128 bounds (numbers c) (var 1 ⊗ var 5) (within c) tt

pub overflow_add-result : goal.overflow_add-result
overflow_add-result c = fits w128 bounds (numbers c) two (within c) tt

pub overflow_mul-result-3 : goal.overflow_mul-result-3
overflow_mul-result-3 c = fits w128 bounds (numbers c) (var 2 ⊗ var 6) (within c) tt

pub overflow_add-result-2 : goal.overflow_add-result-2
overflow_add-result-2 c = fits w128 bounds (numbers c) three (within c) tt

pub overflow_mul-result-4 : goal.overflow_mul-result-4
overflow_mul-result-4 c = fits w128 bounds (numbers c) (var 3 ⊗ var 8) (within c) tt

pub overflow_add-result-3 : goal.overflow_add-result-3
overflow_add-result-3 c = fits w128 bounds (numbers c) four (within c) tt

pub overflow_mul-result-5 : goal.overflow_mul-result-5
overflow_mul-result-5 c = fits w128 bounds (numbers c) other (within c) tt

left_fits : (c : goal.After-from-over) → FitsSigned w128 (machine w128 (numbers c) four)
left_fits c = fits w128 bounds (numbers c) four (within c) tt

right_fits : (c : goal.After-from-over) → FitsSigned w128 (machine w128 (numbers c) other)
right_fits c = fits w128 bounds (numbers c) other (within c) tt

bits : (x y : ℤ) → FitsSigned w128 x → FitsSigned w128 y → to_z w128 (of_z w128 x) ≡ to_z w128 (of_z w128 y) → of_z w128 x ≡ of_z w128 y
bits x y f g e = ap (of_z w128) (sym (to_z-of_z f) ∙ e ∙ to_z-of_z g)

left_is : (c : goal.After-from-over) → to_z w128 (of_z w128 (machine w128 (numbers c) four)) ≡ value (given c) four
left_is c = computed w128 bounds (numbers c) four (within c) tt ∙ ap (λ r. value r four) (same_numbers c)

right_is : (c : goal.After-from-over) → to_z w128 (of_z w128 (machine w128 (numbers c) other)) ≡ value (given c) other
right_is c = computed w128 bounds (numbers c) other (within c) tt ∙ ap (λ r. value r other) (same_numbers c)

pub returns : goal.returns
returns c = (
  (λ t. sym (left_is c) ∙ ap (to_z w128) (eqb-true (of_z w128 (machine w128 (numbers c) four)) (of_z w128 (machine w128 (numbers c) other)) t) ∙ right_is c),
  (λ e. eq-eqb (of_z w128 (machine w128 (numbers c) four)) (of_z w128 (machine w128 (numbers c) other)) (bits (machine w128 (numbers c) four) (machine w128 (numbers c) other) (left_fits c) (right_fits c) (left_is c ∙ e ∙ sym (right_is c)))),
)
