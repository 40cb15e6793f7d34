-- Raws and Points as contracts see them.
use Rattle.lattice_algebra.specs.Operator.{Operator}
use Rattle.lattice_algebra.specs.Point as rational
use Rattle.exact_ops.specs.declared.raw.Raw.{Raw}
use Rattle.exact_ops.specs.declared.point.Point.{Point}
use Rattle.exact_ops.specs.Raw.{numbers_of}
use Rattle.exact_ops.specs.Points.{point_with}

-- the matrix and the translation of a Raw
abbrev pub numbers : Raw → Operator
numbers raw = numbers_of raw.w raw.t

-- the rational point of a Point
abbrev pub point_in : Point → rational.Point
point_in p = point_with p.n p.d
