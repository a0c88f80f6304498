use Rattle.records.proofs.{Common.◌≡◌, Common.map, Common.take, Common.fields_of, InTurn.IsReadTo}
use Rattle.schedule.specs.Routes.{route_reason, route_of, lines_of}
use Rattle.schedule.proofs.routes.read_body.Given as goal

abbrev pub invariant-loop-place : goal.invariant-loop-place
invariant-loop-place l = record {
  read : IsReadTo 1 (route_of l.links l.stops.names l.stops.rows (lines_of (map fields_of l.rows))) (λ names _. route_reason l.links l.ends l.stops.names l.stops.rows names) l.rows l.place l.names l.routes.items;
  lines : l.lines ≡ lines_of (take l.place (map fields_of l.rows));
}
