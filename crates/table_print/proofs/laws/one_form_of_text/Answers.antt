use Rattle.table_print.proofs.FormTexts as forms
use Rattle.table_print.proofs.laws.one_form_of_text.Goals as goal

pub returns : goal.returns
returns c = forms.one_form_of_text c.affine_text_has_one_map.ensures
