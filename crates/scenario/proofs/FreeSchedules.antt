-- Stops, routes and departures of files without a fault name links, stops and routes that are there, within the limits.
use Rattle.scenario.proofs.Common.{◌≡◌, List, ℕ, map, sym, ◌∙◌, length, refl, None, length-map, field, body_of, Row, schedule_fault, schedule_rows_of}
use Rattle.scenario.proofs.Common.{route_names, stop_names, stop_rows, Texts, bytes_in, IsSchedule, departure_of, departures_fault, lines_of, routes_fault}
use Rattle.scenario.proofs.{Common.routes_of, Common.stops_fault, Common.schedule_view, Common.Tells, Told.bytes_free}
use Rattle.scenario.specs.declared.{faults.Stop.Stop, schedules.Schedule.Schedule}
use Rattle.std.proofs.Common.{Result, Ok, Err, IfOk}
use Rattle.edge_files.specs.declared.files.InFile.TheVariants as file
use Rattle.records.proofs.Unrefused.{or_none}
use Rattle.schedule.proofs.Free.{few_stops, sound_stops, few_routes, sound_routes, few_departures, sound_departures}
use Rattle.schedule.specs.{Routes.route_of, Stops.stop_of}

pub schedule_free : (links : List (List ℕ)) (ends : List (ℕ × ℕ)) (T : Texts) → schedule_fault links ends T ≡ None → IsSchedule (length links) ends (schedule_rows_of links T)
unfolding schedule_fault schedule_rows_of
schedule_free links ends T none =
    let a = or_none _ _ none in
    let b = or_none _ _ a.1 in
    let stops = bytes_in T file.Stops in
    let routes = bytes_in T file.Routes in
    let departures = bytes_in T file.Departures in
    let names = stop_names stops in
    let stop_list = stop_rows links stops in
    let route_list = routes_of links names stop_list (body_of routes) in
    let departure_list = map (departure_of (route_names routes)) (body_of departures) in
    let no_stops = bytes_free T file.Stops (stops_fault links) a.0 in
    let no_routes = bytes_free T file.Routes (routes_fault links ends names stop_list) b.0 in
    let no_departures = bytes_free T file.Departures (departures_fault (route_names routes)) b.1 in
    let each : length names ≡ length stop_list = length-map (body_of stops) (λ (row : Row). field row 0) ∙ sym (length-map (body_of stops) (stop_of links)) in
    let each_route : length (route_names routes) ≡ length route_list =
    length-map (body_of routes) (λ (row : Row). field row 1) ∙ sym (length-map (body_of routes) (route_of links names stop_list (lines_of (body_of routes)))) in
    record {
      each_stop = each;
      few_stops = few_stops links stops stop_list no_stops refl;
      stops = sound_stops links stops stop_list no_stops refl;
      few_routes = few_routes links ends names stop_list routes route_list each no_routes refl;
      routes = sound_routes links ends names stop_list routes route_list each no_routes refl;
      few_departures = few_departures (route_names routes) departures departure_list no_departures refl;
      departures = rw (← each_route) (sound_departures (route_names routes) departures departure_list no_departures refl);
    }

-- and so does a schedule that was read
pub schedule_told : (links : List (List ℕ)) (ends : List (ℕ × ℕ)) (T : Texts) (r : Result Schedule Stop) → Tells schedule_view r (schedule_fault links ends T) (schedule_rows_of links T)
    → IfOk r (λ schedule. IsSchedule (length links) ends (schedule_view schedule))
schedule_told links ends T (Ok schedule) told = rw told.1 (schedule_free links ends T told.0)
schedule_told links ends T (Err stop) told = tt
