use Rattle.parameter_forms.proofs.SamePoints.{same_points}
use Rattle.parameter_forms.proofs.laws.form_has_the_points.Goals as goal

pub returns : goal.returns
returns c = λ unit n p f a b is y. same_points unit n p f a b is y
