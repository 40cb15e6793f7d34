use Rattle.table_print.proofs.FormTexts as forms
use Rattle.table_print.proofs.laws.one_params_text.Goals as goal

pub returns-clause-some : goal.returns-clause-some
returns-clause-some c = forms.some_params_text

pub returns-clause-one : goal.returns-clause-one
returns-clause-one c = λ members rows s t g p q. forms.one_params_text members rows g s t p q
