use Rattle.std.proofs.Common.{List, ℕ, ℤ, [], ◌∷◌, ◌*◌, w32}
use Rattle.lattice_algebra.proofs.Ring.{Expr, var, ◌⊕◌, ◌⊗◌}
use Rattle.lattice_algebra.proofs.Machine.{IsWithin, fits, computed, computed-size}
use Rattle.grid_tags.specs.declared.TheConstants.{MAX_SIDE}
use Rattle.grid_tags.proofs.image.sum.Goals as goal

abbrev most : ℕ
most = 2 * MAX_SIDE * MAX_SIDE

abbrev bounds : List ℕ
bounds = 2 ∷ 2 ∷ 2 ∷ most ∷ most ∷ most ∷ []

abbrev two : Expr
two = var 0 ⊗ var 3 ⊕ var 1 ⊗ var 4

abbrev three : Expr
three = two ⊕ var 2 ⊗ var 5

abbrev numbers : goal.Start → List ℤ
numbers c = c.args.w ∷ c.args.u ∷ c.args.v ∷ c.args.x ∷ c.args.y ∷ c.args.z ∷ []

within : (c : goal.Start) → IsWithin bounds (numbers c)
within c = let r = c.requires.row in let n = c.requires.numbers in (r.first, (r.second, (r.third, (n.first, (n.second, (n.third, tt))))))

pub overflow_add-result : goal.overflow_add-result
overflow_add-result c = fits w32 bounds (numbers c) two (within c) tt

pub overflow_add-result-2 : goal.overflow_add-result-2
overflow_add-result-2 c = fits w32 bounds (numbers c) three (within c) tt

pub returns-clause-value : goal.returns-clause-value
returns-clause-value c = computed w32 bounds (numbers c) three (within c) tt

pub returns-clause-size : goal.returns-clause-size
returns-clause-size c = computed-size w32 bounds (numbers c) three (within c) tt
