use Rattle.queue_link.proofs.Dues.{vehicle_read, vehicle_none}
use Rattle.queue_link.proofs.accesses.vehicle_in_bay.Goals as goal

pub returns-then-place-rows : goal.returns-then-place-rows
returns-then-place-rows c = vehicle_read c.args.place c.args.rows.now c.index-rows-place.result c.if-place-rows.true

pub returns-else-place-rows : goal.returns-else-place-rows
returns-else-place-rows c = vehicle_none c.args.place c.args.rows.now c.if-place-rows.false
