use Rattle.parameter_forms.proofs.OneForm as form
use Rattle.parameter_forms.proofs.SomeForm.{some_form}
use Rattle.parameter_forms.proofs.laws.one_form.Goals as goal

pub returns-clause-some : goal.returns-clause-some
returns-clause-some c = some_form

pub returns-clause-one : goal.returns-clause-one
returns-clause-one c = form.one_form
