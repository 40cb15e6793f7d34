use Rattle.std.proofs.Common.{List, ℕ, ℤ, [], ◌∷◌, w64}
use Rattle.lattice_algebra.proofs.Ring.{var, ◌⊗◌}
use Rattle.lattice_algebra.proofs.Machine.{IsWithin, fits, computed}
use Rattle.affine_sets.specs.declared.TheConstants.{MAX_TRANSLATION}
use Rattle.affine_sets.proofs.numbers.wide_times.Goals as goal

abbrev bounds : List ℕ
bounds = (2304) ∷ MAX_TRANSLATION ∷ []

abbrev numbers : goal.Start → List ℤ
numbers c = c.args.k ∷ c.args.a ∷ []

within : (c : goal.Start) → IsWithin bounds (numbers c)
within c = (c.requires.left, (c.requires.right, tt))

pub overflow_mul-result : goal.overflow_mul-result
overflow_mul-result c = fits w64 bounds (numbers c) (var 0 ⊗ var 1) (within c) tt

pub returns : goal.returns
returns c = computed w64 bounds (numbers c) (var 0 ⊗ var 1) (within c) tt
