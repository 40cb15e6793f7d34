-- The point of three words is over a multiple of UNIT.
use Rattle.std.proofs.Common.{◌*◌, List, ℕ, sym, subst, arith}
use Rattle.std.specs.Prelude.{Option, Some, None, IfNone}
use Rattle.lattice_algebra.specs.Point.{Point, IsPoint}
use Rattle.lattice_algebra.proofs.Numbers.{above}
use Rattle.exact_ops.specs.declared.TheConstants.{UNIT}
use Rattle.orbit_map.specs.OrderedOrbit.{IsScaled}
use Rattle.triplet_text.specs.Points.{ArePointTexts}
use Rattle.triplet_text.proofs.PointTexts.{point_texts_in_range}
use Rattle.atom_expand.proofs.SiteLines.{scaled_of_range}
use Rattle.sg_cli.specs.Words.{AreThree}

pub scaled_point : (words : List (List ℕ)) (p : Point) → AreThree ArePointTexts words p → IsScaled p
scaled_point words p h = scaled_of_range p (point_texts_in_range h.x h.y h.z p h.say)

pub is_point : (x : Point) → IsScaled x → IsPoint x
is_point x s = let some = s.0.some in subst IsPoint (sym s.1) (above (UNIT * s.0.d) (omega arith))

pub if_none : {A P Q : Type 0} (o : Option A) → (P → Q) → IfNone o P → IfNone o Q
if_none None f h = f h
if_none (Some x) f h = tt
