use Rattle.std.proofs.Common.{List, ℕ, ℤ, [], ◌∷◌, w32}
use Rattle.lattice_algebra.proofs.Ring.{var, ◌⊕◌}
use Rattle.lattice_algebra.proofs.Machine.{IsWithin, fits, computed}
use Rattle.affine_sets.proofs.numbers.plus.Goals as goal

abbrev bounds : List ℕ
bounds = (2304) ∷ (2304) ∷ []

abbrev numbers : goal.Start → List ℤ
numbers c = c.args.a ∷ c.args.b ∷ []

within : (c : goal.Start) → IsWithin bounds (numbers c)
within c = (c.requires.left, (c.requires.right, tt))

pub overflow_add-result : goal.overflow_add-result
overflow_add-result c = fits w32 bounds (numbers c) (var 0 ⊕ var 1) (within c) tt

pub returns : goal.returns
returns c = computed w32 bounds (numbers c) (var 0 ⊕ var 1) (within c) tt
