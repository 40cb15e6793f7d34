use Rattle.std.proofs.Common.{List, ℕ, ℤ, [], ◌∷◌, ◌-◌, w32}
use Rattle.lattice_algebra.proofs.Ring.{Expr, var, ◌⊕◌, ◌⊗◌}
use Rattle.lattice_algebra.proofs.Machine.{IsWithin, fits, computed}
use Rattle.exact_ops.specs.declared.TheConstants.{UNIT}
use Rattle.phase_rules.specs.declared.TheConstants.{MAX_INDEX}
use Rattle.phase_rules.proofs.index.dot.Goals as goal

abbrev bounds : List ℕ
bounds = MAX_INDEX ∷ MAX_INDEX ∷ MAX_INDEX ∷ (UNIT - 1) ∷ (UNIT - 1) ∷ (UNIT - 1) ∷ []

abbrev two : Expr
two = var 0 ⊗ var 3 ⊕ var 1 ⊗ var 4

abbrev three : Expr
three = two ⊕ var 2 ⊗ var 5

abbrev numbers : goal.Start → List ℤ
numbers c = c.args.a ∷ c.args.b ∷ c.args.c ∷ c.args.x ∷ c.args.y ∷ c.args.z ∷ []

within : (c : goal.Start) → IsWithin bounds (numbers c)
within c =
    let l = c.requires.left in
    let r = c.requires.right in
    (l.first, (l.second, (l.third, (r.first, (r.second, (r.third, tt))))))

pub overflow_add-result : goal.overflow_add-result
overflow_add-result c = fits w32 bounds (numbers c) two (within c) tt

pub overflow_mul-result-3 : goal.overflow_mul-result-3
overflow_mul-result-3 c = fits w32 bounds (numbers c) (var 2 ⊗ var 5) (within c) tt

pub overflow_add-result-2 : goal.overflow_add-result-2
overflow_add-result-2 c = fits w32 bounds (numbers c) three (within c) tt

pub returns : goal.returns
returns c = computed w32 bounds (numbers c) three (within c) tt
