use Rattle.site_symmetry.proofs.ConjugatePoints.{conjugate_itself, conjugate_back, conjugate_on}
use Rattle.site_symmetry.proofs.laws.conjugate_points.Goals as goal

pub returns-clause-itself : goal.returns-clause-itself
returns-clause-itself c = λ members x g. conjugate_itself members g x

pub returns-clause-back : goal.returns-clause-back
returns-clause-back c = λ members x y g. conjugate_back members g x y

pub returns-clause-on : goal.returns-clause-on
returns-clause-on c = λ members x y z g. conjugate_on members g x y z
