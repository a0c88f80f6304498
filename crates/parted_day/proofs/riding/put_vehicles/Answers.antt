use Rattle.std.proofs.Common.{ap}
use Rattle.queue_link.specs.{Links.all_rows, declared.numbers.LinkNumbers.LinkNumbers}
use Rattle.parted_day.proofs.StrayRows.{row_put, rows_put}
use Rattle.parted_day.proofs.riding.put_vehicles.Goals as goal

pub loop-place-preserved : goal.loop-place-preserved
loop-place-preserved c =
    row_put c.args.link.now.numbers.link c.numbers-number.result.link c.loop-place.place (all_rows c.args.link.now.lists)
    c.in-Some.vehicle.now
    c.loop-place.table c.put_vehicle.new.table _ (ap (λ (n : LinkNumbers). n.link) c.numbers-number.ensures.value) c.in-Some.ensures
    c.put_vehicle.ensures c.loop-place.invariant

pub returns-in_default : goal.returns-in_default
returns-in_default c =
    rows_put c.args.link.now.numbers.link c.loop-place.place (all_rows c.args.link.now.lists) c.loop-place.table _ c.in_default.ensures
    c.loop-place.invariant
