use Rattle.person_moves.proofs.LinkRows.{row_is, measured, begins_there, leads_there}
use Rattle.person_moves.proofs.links.link_row.Goals as goal

pub returns-clause-row : goal.returns-clause-row
returns-clause-row c = row_is c.args.day.now c.args.link c.row_at.result c.requires c.row_at.ensures

pub returns-clause-measures : goal.returns-clause-measures
returns-clause-measures c = measured c.args.day.now c.args.link c.row_at.result c.requires c.row_at.ensures

pub returns-clause-from : goal.returns-clause-from
returns-clause-from c = begins_there c.args.day.now c.args.link c.row_at.result c.requires c.row_at.ensures

pub returns-clause-to : goal.returns-clause-to
returns-clause-to c = leads_there c.args.day.now c.args.link c.row_at.result c.requires c.row_at.ensures
