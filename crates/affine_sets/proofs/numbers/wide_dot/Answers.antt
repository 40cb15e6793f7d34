use Rattle.std.proofs.Common.{◌≡◌, ap, sym, subst, ◌∙◌, List, ℕ, ℤ, [], ◌∷◌, w64}
use Rattle.lattice_algebra.proofs.Ring.{Expr, var, ◌⊕◌, ◌⊗◌, value}
use Rattle.lattice_algebra.proofs.Machine.{IsWithin, fits, computed, widened}
use Rattle.affine_sets.specs.declared.TheConstants.{MAX_TRANSLATION}
use Rattle.affine_sets.proofs.numbers.wide_dot.Goals as goal

abbrev bounds : List ℕ
bounds = 2304 ∷ 2304 ∷ 2304 ∷ MAX_TRANSLATION ∷ MAX_TRANSLATION ∷ MAX_TRANSLATION ∷ []

abbrev numbers : goal.After-from-c → List ℤ
numbers c = c.from-a.result ∷ c.from-b.result ∷ c.from-c.result ∷ c.args.x ∷ c.args.y ∷ c.args.z ∷ []

abbrev given : goal.After-from-c → List ℤ
given c = c.args.a ∷ c.args.b ∷ c.args.c ∷ c.args.x ∷ c.args.y ∷ c.args.z ∷ []

same_numbers : (c : goal.After-from-c) → numbers c ≡ given c
same_numbers c =
    let r = c.requires.left in
    λ i. widened 2304 c.args.a c.from-a.ensures r.first tt i ∷ widened 2304 c.args.b c.from-b.ensures r.second tt i ∷ widened 2304 c.args.c c.from-c.ensures r.third tt i
    ∷ c.args.x ∷ c.args.y ∷ c.args.z ∷ []

within : (c : goal.After-from-c) → IsWithin bounds (numbers c)
within c =
    let r = c.requires.left in
    let p = c.requires.right in
    subst (IsWithin bounds) (sym (same_numbers c)) (r.first, (r.second, (r.third, (p.first, (p.second, (p.third, tt))))))

abbrev two : Expr
two = var 0 ⊗ var 3 ⊕ var 1 ⊗ var 4

abbrev three : Expr
three = two ⊕ var 2 ⊗ var 5

pub overflow_mul-result : goal.overflow_mul-result
overflow_mul-result c = fits w64 bounds (numbers c) (var 0 ⊗ var 3) (within c) tt

pub overflow_mul-result-2 : goal.overflow_mul-result-2
overflow_mul-result-2 c = fits w64 bounds (numbers c) (var 1 ⊗ var 4) (within c) tt

pub overflow_mul-result-3 : goal.overflow_mul-result-3
overflow_mul-result-3 c = fits w64 bounds (numbers c) (var 2 ⊗ var 5) (within c) tt

pub overflow_add-result : goal.overflow_add-result
overflow_add-result c = fits w64 bounds (numbers c) two (within c) tt

pub overflow_add-result-2 : goal.overflow_add-result-2
overflow_add-result-2 c = fits w64 bounds (numbers c) three (within c) tt

pub returns : goal.returns
returns c = computed w64 bounds (numbers c) three (within c) tt ∙ ap (λ r. value r three) (same_numbers c)
