use Rattle.std.proofs.Common.{rules, w32, FitsSigned, to_z-of_z}
use Rattle.sg_c.proofs.members.OperatorTypeTold.at.Goals as goal

pub returns : goal.returns
returns c f is =
    let fits : FitsSigned w32 c.intrinsic-part.result.d = search rules in
    record {
      handedness = c.kind-kind.ensures.handedness f is;
      order = c.kind-kind.ensures.order f is;
      intrinsic = simp (to_z-of_z fits) (c.intrinsic-part.ensures f is);
      axis = c.axis_or_zeros-axis.ensures.axis f is;
      no_axis = c.axis_or_zeros-axis.ensures.none f is;
    }
