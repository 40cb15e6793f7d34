use Rattle.json_report.proofs.ReportTexts as texts
use Rattle.json_report.proofs.laws.one_report_text.Goals as goal

pub returns-clause-some : goal.returns-clause-some
returns-clause-some c = texts.some_report_text

pub returns-clause-one : goal.returns-clause-one
returns-clause-one c = λ members rows s t g p q. texts.one_report_text members rows g s t p q
