use Rattle.records.proofs.Common.{List, ap, ℕ, ◌∙◌, map, Option, drop, fields_of, ByteRecord, Reason, column, body_of, optional_head_reason, Row}
use Rattle.records.proofs.InTurn.{answers_body, answers_stop}
use Rattle.rows.specs.declared.schedule.{RouteRow.RouteRow, Stops.Stops}
use Rattle.schedule.proofs.Free.{routes_few, routes_sound}
use Rattle.schedule.specs.{Routes.route_header, Routes.route_reason, Routes.route_of, Routes.lines_of, Routes.routes_of, Views.route_lists}
use Rattle.schedule.proofs.routes.read_routes.Goals as goal

abbrev why : List (List ℕ) → List (ℕ × ℕ) → Stops → List (List ℕ) → List RouteRow → Row → Option Reason
why links ends stops names values row = route_reason links ends stops.names stops.rows names row

abbrev value : List (List ℕ) → Stops → List Row → Row → RouteRow
value links stops rows = route_of links stops.names stops.rows (lines_of rows)

pub returns-in-Ok-clause-read : goal.returns-in-Ok-clause-read
unfolding body_of
returns-in-Ok-clause-read c =
    let links = c.args.links.now in
    let stops = c.args.stops.now in
    answers_body route_lists c.read_body.result (optional_head_reason route_header c.args.bytes.now) 1 (value links stops) (why links c.args.ends.now stops) c.args.bytes.now (map fields_of c.body.result.now)
    (λ rows. (lines_of rows, column 1 rows, routes_of links stops.names stops.rows rows)) c.in-Ok.ensures.head
    (c.body.ensures ∙ ap (λ (rows : List ByteRecord). drop 1 (map fields_of rows)) c.deref.ensures.value ∙ ap (λ (rows : List Row). drop 1 rows) c.in-Ok.ensures.rows) c.read_body.ensures

pub returns-in-Err-clause-read : goal.returns-in-Err-clause-read
returns-in-Err-clause-read c =
    answers_stop route_lists _ 1 (value c.args.links.now c.args.stops.now (body_of c.args.bytes.now)) (why c.args.links.now c.args.ends.now c.args.stops.now) c.args.bytes.now c.in-Err.stop (optional_head_reason route_header c.args.bytes.now) c.in-Err.ensures.head

pub returns-in-Ok-clause-few : goal.returns-in-Ok-clause-few
returns-in-Ok-clause-few c =
    let stops = c.args.stops.now in
    routes_few c.args.links.now c.args.ends.now stops.names stops.rows c.args.bytes.now stops.each c.read_body.result (returns-in-Ok-clause-read c)

pub returns-in-Ok-clause-sound : goal.returns-in-Ok-clause-sound
returns-in-Ok-clause-sound c =
    let stops = c.args.stops.now in
    routes_sound c.args.links.now c.args.ends.now stops.names stops.rows c.args.bytes.now stops.each c.read_body.result (returns-in-Ok-clause-read c)
