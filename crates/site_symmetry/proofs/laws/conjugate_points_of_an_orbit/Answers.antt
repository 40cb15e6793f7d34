use Rattle.site_symmetry.proofs.ConjugatePoints.{conjugate_of_orbit}
use Rattle.site_symmetry.proofs.laws.conjugate_points_of_an_orbit.Goals as goal

pub returns : goal.returns
returns c = λ members x p g. conjugate_of_orbit members g x p
