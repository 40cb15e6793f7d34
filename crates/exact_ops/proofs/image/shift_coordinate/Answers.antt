use Rattle.std.proofs.Common.{◌≡◌, ap, sym, subst, ◌∙◌, List, ℕ, ℤ, [], ◌∷◌, w64, arith, le_trans}
use Rattle.lattice_algebra.proofs.Ring.{Expr, var, ◌⊕◌, ◌⊗◌, value}
use Rattle.lattice_algebra.proofs.Machine.{IsWithin, fits, computed, computed-size, widened}
use Rattle.exact_ops.specs.declared.TheConstants.{MAX_SHIFT}
use Rattle.exact_ops.proofs.image.shift_coordinate.Goals as goal
use Rattle.exact_ops.proofs.image.shift_coordinate.Goals.{After-from-c, After-from}

abbrev two : Expr
two = var 0 ⊗ var 3 ⊕ var 1 ⊗ var 4

abbrev three : Expr
three = two ⊕ var 2 ⊗ var 5

abbrev four : Expr
four = three ⊕ var 6

-- ---- a row times the shifts

abbrev row_bounds : List ℕ
row_bounds = 2 ∷ 2 ∷ 2 ∷ MAX_SHIFT ∷ MAX_SHIFT ∷ MAX_SHIFT ∷ []

abbrev row_numbers : After-from-c → List ℤ
row_numbers c = c.from-a.result ∷ c.from-b.result ∷ c.from-c.result ∷ c.args.x ∷ c.args.y ∷ c.args.z ∷ []

abbrev given_row : After-from-c → List ℤ
given_row c = c.args.a ∷ c.args.b ∷ c.args.c ∷ c.args.x ∷ c.args.y ∷ c.args.z ∷ []

same_row : (c : After-from-c) → row_numbers c ≡ given_row c
same_row c =
    let r = c.requires.row in
    λ i. widened 2 c.args.a c.from-a.ensures r.first tt i ∷ widened 2 c.args.b c.from-b.ensures r.second tt i ∷ widened 2 c.args.c c.from-c.ensures r.third tt i ∷ c.args.x ∷ c.args.y ∷ c.args.z ∷ []

row_within : (c : After-from-c) → IsWithin row_bounds (row_numbers c)
row_within c =
    let r = c.requires.row in
    let s = c.requires.shift in
    subst (IsWithin row_bounds) (sym (same_row c)) (r.first, (r.second, (r.third, (s.first, (s.second, (s.third, tt))))))

pub overflow_mul-result : goal.overflow_mul-result
overflow_mul-result c = fits w64 row_bounds (row_numbers c) (var 0 ⊗ var 3) (row_within c) tt

pub overflow_mul-result-2 : goal.overflow_mul-result-2
overflow_mul-result-2 c = fits w64 row_bounds (row_numbers c) (var 1 ⊗ var 4) (row_within c) tt

pub overflow_add-result : goal.overflow_add-result
overflow_add-result c = fits w64 row_bounds (row_numbers c) two (row_within c) tt

pub overflow_mul-result-3 : goal.overflow_mul-result-3
overflow_mul-result-3 c = fits w64 row_bounds (row_numbers c) (var 2 ⊗ var 5) (row_within c) tt

pub overflow_add-result-2 : goal.overflow_add-result-2
overflow_add-result-2 c = fits w64 row_bounds (row_numbers c) three (row_within c) tt

-- ---- and the carry

abbrev bounds : List ℕ
bounds = 2 ∷ 2 ∷ 2 ∷ MAX_SHIFT ∷ MAX_SHIFT ∷ MAX_SHIFT ∷ 7 ∷ []

abbrev numbers : After-from → List ℤ
numbers c = c.from-a.result ∷ c.from-b.result ∷ c.from-c.result ∷ c.args.x ∷ c.args.y ∷ c.args.z ∷ c.from.result ∷ []

abbrev given : After-from → List ℤ
given c = c.args.a ∷ c.args.b ∷ c.args.c ∷ c.args.x ∷ c.args.y ∷ c.args.z ∷ c.args.carry ∷ []

same_numbers : (c : After-from) → numbers c ≡ given c
same_numbers c =
    let r = c.requires.row in
    λ i. widened 2 c.args.a c.from-a.ensures r.first tt i ∷ widened 2 c.args.b c.from-b.ensures r.second tt i ∷ widened 2 c.args.c c.from-c.ensures r.third tt i
    ∷ c.args.x ∷ c.args.y ∷ c.args.z ∷ widened 7 c.args.carry c.from.ensures c.requires.carry tt i ∷ []

within : (c : After-from) → IsWithin bounds (numbers c)
within c =
    let r = c.requires.row in
    let s = c.requires.shift in
    subst (IsWithin bounds) (sym (same_numbers c)) (r.first, (r.second, (r.third, (s.first, (s.second, (s.third, (c.requires.carry, tt)))))))

pub overflow_add-result-3 : goal.overflow_add-result-3
overflow_add-result-3 c = fits w64 bounds (numbers c) four (within c) tt

pub returns-clause-value : goal.returns-clause-value
returns-clause-value c = computed w64 bounds (numbers c) four (within c) tt ∙ ap (λ r. value r four) (same_numbers c)

pub returns-clause-size : goal.returns-clause-size
returns-clause-size c = le_trans (computed-size w64 bounds (numbers c) four (within c) tt) (omega arith)
