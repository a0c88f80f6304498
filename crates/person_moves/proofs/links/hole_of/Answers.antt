use Rattle.person_moves.proofs.LinkRows.{hole_is}
use Rattle.person_moves.proofs.links.hole_of.Goals as goal

pub returns : goal.returns
returns c = hole_is c.args.day.now c.args.link c.link_row-row.result c.hole_seconds.result c.link_row-row.ensures.row c.hole_seconds.ensures
