use Rattle.pages.proofs.Verdicts.{literals_true, report_told}
use Rattle.pages.proofs.laws.reports_are_true.Goals as goal

pub returns-clause-literals : goal.returns-clause-literals
returns-clause-literals c = literals_true

pub returns-clause-told : goal.returns-clause-told
returns-clause-told c = report_told
