use Rattle.std.proofs.Common.{rules, FitsSigned}
use mir.Syntax.{w128}
use Rattle.exact_ops.specs.Numbers.{point_in}
use Rattle.exact_ops.proofs.ShiftedImages.{shifted_image}
use Rattle.exact_ops.proofs.moves.Move.image_of.Goals as goal

pub returns : goal.returns
returns c =
    let k : (FitsSigned w128 c.shifted.result) × (FitsSigned w128 c.shifted-2.result) × (FitsSigned w128 c.shifted-3.result) = search rules in
    shifted_image c.args.self.now.op c.image_of.result c.args.self.now.shift (point_in c.args.point.now) _ _ _ c.args.point.now.in_range c.image_of.ensures.value c.image_of.ensures.within c.args.self.now.in_range k c.shifted.ensures.value c.shifted-2.ensures.value c.shifted-3.ensures.value
