use Rattle.atom_expand.proofs.Standing.{stands_once}
use Rattle.atom_expand.proofs.laws.each_point_stands_once.Goals as goal

pub returns : goal.returns
returns c = λ members sites entries group points is k site p s pp on. stands_once members sites entries is group points k site s p pp on
