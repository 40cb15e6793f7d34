-- The order of the operators of a group; it is this project's own.
use Rattle.std.specs.Ordering.{on, flip_args, then_cmp, int_cmp}
use Rattle.std.specs.Cmp.Lexicographic.{slice_cmp}
use Rattle.std.specs.declared.cmp.Ordering.{Ordering}
use Rattle.lattice_algebra.specs.Matrix.{entries, coordinates}
use Rattle.lattice_algebra.specs.Operator.{Operator}

-- by the matrix, row by row, descending, then by the translation, ascending
abbrev pub operator_cmp : Operator → Operator → Ordering
operator_cmp = then_cmp (flip_args (on (λ (f : Operator). entries f.w) (slice_cmp int_cmp))) (on (λ (f : Operator). coordinates f.t) (slice_cmp int_cmp))
