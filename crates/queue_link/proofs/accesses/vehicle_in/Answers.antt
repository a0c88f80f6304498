use Rattle.std.proofs.Common.{rules}
use Rattle.queue_link.proofs.Dues.{vehicle_found, vehicle_none}
use Rattle.queue_link.proofs.accesses.vehicle_in.Goals as goal

pub returns-in-None : goal.returns-in-None
returns-in-None c = vehicle_none c.args.place c.args.rows.now.items (search rules)

pub returns-in-Some : goal.returns-in-Some
returns-in-Some c = vehicle_found c.args.place c.args.rows.now.items c.in-Some.row.now (search rules) c.in-Some.ensures.lookup
