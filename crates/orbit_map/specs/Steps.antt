-- What the steps of listing an orbit keep.
use Rattle.std.specs.Ordering.{on, then_cmp, int_cmp}
use Rattle.std.specs.Cmp.Lexicographic.{slice_cmp}
use Rattle.std.specs.declared.cmp.Ordering.{Ordering}
use Rattle.exact_ops.specs.declared.point.Point.{Point}

-- by the numerators, then by the denominators
abbrev pub stored_cmp : Point → Point → Ordering
stored_cmp = then_cmp (on (λ (p : Point). p.n) (slice_cmp int_cmp)) (on (λ (p : Point). p.d) int_cmp)
