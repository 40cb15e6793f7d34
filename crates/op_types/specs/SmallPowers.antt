-- Matrices whose powers stay small and return.
use Rattle.std.specs.Prelude.{◌≡◌, ◌<◌, ◌≤◌, ℕ}
use Rattle.lattice_algebra.specs.Matrix.{Matrix, identity}
use Rattle.lattice_algebra.specs.Operator.{HasEntriesWithin}
use Rattle.lattice_algebra.specs.Powers.{power}
use Rattle.group_closure.specs.declared.TheConstants.{MAX_OPERATORS}

-- each power has entries within 2, and one of the first MAX_OPERATORS above 0 is the identity
pub record HasSmallPowers (p : Matrix) : Type 0 where
  pub narrow : (k : ℕ) → HasEntriesWithin 2 (power p k)
  pub period : ℕ
  pub positive : 0 < period
  pub short : period ≤ MAX_OPERATORS
  pub returns : power p period ≡ identity
