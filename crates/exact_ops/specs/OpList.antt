-- Lists of operators as they are read.
use Rattle.std.specs.Prelude.{List}
use Rattle.std.specs.List.{All}
use Rattle.lattice_algebra.specs.Matrix.{IsUnimodular}
use Rattle.exact_ops.specs.declared.raw.Raw.{Raw}
use Rattle.exact_ops.specs.Numbers.{numbers}

-- each matrix has a whole inverse
abbrev pub AreUnimodular : List Raw → Type 0
AreUnimodular raws = All (λ (raw : Raw). IsUnimodular (numbers raw).w) raws
