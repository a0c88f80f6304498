use Rattle.route_report.proofs.Reports.{none_is, report_is}
use Rattle.route_report.proofs.laws.reports_are_least.Goals as goal

pub returns-clause-none : goal.returns-clause-none
returns-clause-none c M from to second inside = none_is M from to second inside

pub returns-clause-least : goal.returns-clause-least
returns-clause-least c M from to second text inside = report_is M from to second inside text
