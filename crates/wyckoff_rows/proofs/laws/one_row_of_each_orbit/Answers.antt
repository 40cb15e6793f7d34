use Rattle.site_symmetry.proofs.ConjugatePoints.{conjugate_of_orbit}
use Rattle.wyckoff_rows.proofs.laws.one_row_of_each_orbit.Goals as goal

pub returns : goal.returns
returns c = λ members rows x p g t px pp o. let r = (t.same x p px pp).1 (conjugate_of_orbit members g x p px pp o) in (r.0, record { row = r.1; at = r.2; fits = r.3; fits_too = r.4 })
