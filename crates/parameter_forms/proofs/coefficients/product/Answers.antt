use Rattle.std.proofs.Common.{[], ◌∷◌, w32}
use Rattle.lattice_algebra.proofs.Ring.{var, ◌⊗◌}
use Rattle.lattice_algebra.proofs.Machine.{computed}
use Rattle.parameter_forms.specs.declared.TheConstants.{MAX_NUMBER, MAX_MINOR}
use Rattle.parameter_forms.proofs.coefficients.product.Goals as goal

pub returns : goal.returns
returns c = computed w32 (MAX_NUMBER ∷ MAX_MINOR ∷ []) (c.args.k ∷ c.args.a ∷ []) (var 0 ⊗ var 1) (c.requires.few, (c.requires.small, tt)) tt
