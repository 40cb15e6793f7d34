use Rattle.table_print.proofs.SiteTexts as texts
use Rattle.table_print.proofs.laws.one_site_text.Goals as goal

pub returns-clause-some : goal.returns-clause-some
returns-clause-some c = texts.some_site_text

pub returns-clause-one : goal.returns-clause-one
returns-clause-one c = texts.one_site_text
