use Rattle.traffic.proofs.Common.{◌∙◌, sym}
use Rattle.person_moves.proofs.Departing.{route_there, route_long, departs_now, departs_later}
use Rattle.person_moves.proofs.departures.departure_moves.Goals as goal

pub returns-then-row-second : goal.returns-then-row-second
returns-then-row-second c =
    c.new.ensures.items ∙ sym (departs_later c.args.day.now c.args.second c.args.d c.row_at-row.result c.requires c.row_at-row.ensures c.if-row-second.true)

pub vehicle_of-requires-clause-there : goal.vehicle_of-requires-clause-there
vehicle_of-requires-clause-there c = route_there c.args.day.now c.args.d c.row_at-row.result c.requires c.row_at-row.ensures

pub vehicle_of-requires-clause-long : goal.vehicle_of-requires-clause-long
vehicle_of-requires-clause-long c =
    route_long c.args.day.now c.row_at-row.result.route (route_there c.args.day.now c.args.d c.row_at-row.result c.requires c.row_at-row.ensures)

pub returns : goal.returns
returns c =
    rw (c.in_ok-push.ensures.items, c.new-moves.ensures.items)
    (departs_now c.args.day.now c.args.second c.args.d c.row_at-row.result c.in_ok-now.now c.requires c.row_at-row.ensures c.if-row-second.false c.in_ok-now.ensures)
