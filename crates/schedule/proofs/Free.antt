-- Rows of stops.csv, routes.csv and departures.csv against which nothing speaks are few, and name links, stops, lines and routes that are there.
use Rattle.records.proofs.Common.{◌≡◌, List, ap, ℕ, length, ◌∙◌, arith, map, [], ◌<◌, sym, None, Some, refl, true, Bool, Option, false, cond, get_or, ◌&&◌, ◌≤◌}
use Rattle.records.proofs.Common.{not, ◌||◌, Err, Ok, Result, length-map, get_or-map, list_all, nat_eq, nat_lt, is_some, nat_le, unwrap_or, is_none, bytes_eq}
use Rattle.records.proofs.Common.{Reason, RowStop, number_of, is_held, LAST_SECOND, MAX_ROUTE_LINKS, MAX_ROUTES, Answers, field, column, holds_name, body_of}
use Rattle.records.proofs.{Common.optional_head_reason, Common.numbers_of, Common.Row, Sound.both_true, Unrefused.none_applies, Unrefused.values_pass}
use Rattle.records.{proofs.Unrefused.few_rows, proofs.Unrefused.number_in_range, proofs.Unrefused.found_below, proofs.Unrefused.less_than, specs.Lists.items_in}
use Rattle.std.proofs.{Common.IfOk, lemmas.Bool.or_parts, lemmas.Cmp.nat_list_eq_equiv, lemmas.List.Folds.list_any_at}
use Rattle.edge_files.specs.declared.reasons.Reason.TheVariants as reason
use Rattle.events.{proofs.NameLists.number_of-held, proofs.NameLists.is_held-firsts, specs.declared.lists.StopCall.StopCall}
use Rattle.limits.specs.declared.TheConstants.{MAX_CALLS, MAX_DEPARTURES, MAX_SEATS, MAX_STOPS}
use Rattle.rows.specs.Schedules.{is_stop, is_way, is_unserved, are_drivable, is_route, is_departure}
use Rattle.rows.specs.declared.schedule.{DepartureRow.DepartureRow, RouteRow.RouteRow, Routes.Routes, StopRow.StopRow}
use Rattle.schedule.{proofs.SoundCalls.drivable, specs.Calls.call_text, specs.Calls.call_of}
use Rattle.schedule.specs.Departures.{departure_header, departure_reason, departure_of, departures_fault, second_in, seats_in}
use Rattle.schedule.specs.Routes.{route_header, link_items, call_texts, lists_of, route_of, route_reason, parts_reason, routes_fault, lines_of, routes_of}
use Rattle.schedule.specs.{Routes.is_too_much, Stops.stop_header, Stops.stop_reason, Stops.stop_of, Stops.stops_fault, Views.route_lists}
use Rattle.schedule.specs.declared.calls.CallText.{CallText}

-- STOPS
record IsFreeStop (links names : List (List ℕ)) (row : Row) : Type 0 where
  room : length names < MAX_STOPS
  sound : is_stop (length links) (stop_of links row) ≡ true

stop_free : (links names : List (List ℕ)) (row : Row) → stop_reason links names row ≡ None → IsFreeStop links names row
unfolding stop_reason stop_of
stop_free links names row none =
    let a = none_applies (not (nat_eq (length row) 2)) reason.FieldCount _ none in
    let b = none_applies (not (holds_name row 0 && holds_name row 1)) reason.BadName _ a.1 in
    let c = none_applies (is_some (number_of (field row 0) names)) reason.Twice _ b.1 in
    let d = none_applies (is_none (number_of (field row 1) links)) reason.Unknown _ c.1 in
    let e = none_applies (nat_le MAX_STOPS (length names)) reason.TooMany _ d.1 in
    record { room = less_than MAX_STOPS (length names) e.0; sound = found_below links (field row 1) d.0 }

-- stops of a file without a fault are few
pub few_stops : (links : List (List ℕ)) (bytes : List ℕ) (stops : List StopRow) → stops_fault links bytes ≡ None → stops ≡ map (stop_of links) (body_of bytes) → length stops ≤ MAX_STOPS
few_stops links bytes stops none are =
    let rows = body_of bytes in
    let few = few_rows (optional_head_reason stop_header bytes) 0 (stop_of links) (λ names _ row. stop_reason links names row) rows MAX_STOPS none (λ before values row free. (stop_free links before row free).room) in
    let count = ap (λ (l : List StopRow). length l) are ∙ length-map rows (stop_of links) in
    omega arith

-- and lie on links
pub sound_stops : (links : List (List ℕ)) (bytes : List ℕ) (stops : List StopRow) → stops_fault links bytes ≡ None → stops ≡ map (stop_of links) (body_of bytes) → list_all (is_stop (length links)) stops ≡ true
sound_stops links bytes stops none are =
    let rows = body_of bytes in
    ap (λ (l : List StopRow). list_all (is_stop (length links)) l) are
    ∙ values_pass (optional_head_reason stop_header bytes) 0 (stop_of links) (λ names _ row. stop_reason links names row) rows (is_stop (length links)) none
    (λ i before values less free. (stop_free links before (get_or rows i []) free).sound)

-- ROUTES
full_row : (b : Bool) (why : Reason) (parts : Option Reason) → cond b parts (Some why) ≡ None → parts ≡ None
full_row true why parts h = h
full_row false why parts h = cc

-- a test that does not fail
holds : (b : Bool) → not b ≡ false → b ≡ true
holds true h = refl
holds false h = cc

links_free : (links : List (List ℕ)) (ends : List (ℕ × ℕ)) (stops : List (List ℕ)) (rows : List StopRow) (names items call_items : List (List ℕ)) (texts : List CallText) (calls : List StopCall) (o : Option (List ℕ)) → length stops ≡ length rows
    → numbers_of items links ≡ o → texts ≡ map (call_text stops) call_items → calls ≡ map (call_of rows) texts → is_none o ≡ false → list_all (λ t. is_some t.offset) texts ≡ true → list_all (λ t. is_some t.stop) texts ≡ true
    → is_way ends (unwrap_or o []) ≡ true → is_too_much names (unwrap_or o []) calls ≡ false → is_unserved calls (unwrap_or o []) ≡ false → are_drivable (length links) ends rows (unwrap_or o []) calls ≡ true
links_free links ends stops rows names items call_items texts calls None each found read made there offsets known way few served = cc
links_free links ends stops rows names items call_items texts calls (Some numbers) each found read made there offsets known way few served =
    drivable links ends stops rows names items call_items numbers texts calls each (sym found) read made offsets known way few served

record IsFreeRoute (links : List (List ℕ)) (ends : List (ℕ × ℕ)) (stops : List (List ℕ)) (rows : List StopRow) (names : List (List ℕ)) (row : Row) : Type 0 where
  room : length names < MAX_ROUTES
  sound : are_drivable (length links) ends rows (lists_of links stops rows row).links (lists_of links stops rows row).calls ≡ true

few_names : (a b c : Bool) → (a || b || c) ≡ false → a ≡ false
few_names a b c h = grind arith

route_free : (links : List (List ℕ)) (ends : List (ℕ × ℕ)) (stops : List (List ℕ)) (rows : List StopRow) (names : List (List ℕ)) (row : Row) → length stops ≡ length rows → route_reason links ends stops rows names row ≡ None
    → IsFreeRoute links ends stops rows names row
unfolding route_reason parts_reason lists_of
route_free links ends stops rows names row each none =
    let texts = call_texts stops row in
    let calls = map (call_of rows) texts in
    let numbers = numbers_of (link_items row) links in
    let a = none_applies _ _ _ (full_row _ _ _ none) in
    let b = none_applies _ _ _ a.1 in
    let c = none_applies _ _ _ b.1 in
    let d = none_applies _ _ _ c.1 in
    let e = none_applies _ _ _ d.1 in
    let f = none_applies _ _ _ e.1 in
    let g = none_applies _ _ _ f.1 in
    let there = or_parts (is_none numbers) (not (list_all (λ (t : CallText). is_some t.stop) texts)) d.0 in
    record {
      room = less_than MAX_ROUTES (length names) (few_names (nat_le MAX_ROUTES (length names)) (nat_lt MAX_ROUTE_LINKS (length (unwrap_or numbers []))) (nat_lt MAX_CALLS (length calls)) f.0);
      sound = links_free links ends stops rows names (link_items row) (items_in (field row 3)) texts calls numbers each refl refl refl there.0 (holds _ b.0) (holds _ there.1) (holds _ e.0) f.0 g.0;
    }

some_number : (name : List ℕ) (names : List (List ℕ)) → is_held name names ≡ true → is_none (number_of name names) ≡ false
some_number name names held = ap (λ (o : Option ℕ). is_none o) (number_of-held name names held)

-- the line of a row is among the lines
line_there : (rows : List Row) (i : ℕ) → i < length rows → nat_lt (unwrap_or (number_of (field (get_or rows i []) 0) (lines_of rows)) 0) (length (lines_of rows)) ≡ true
line_there rows i less =
    let name = field (get_or rows i []) 0 in
    let names = column 0 rows in
    let within : i < length names = let count = length-map rows (λ (row : Row). field row 0) in omega arith in
    let here : get_or names i [] ≡ name = get_or-map (λ (row : Row). field row 0) rows i [] [] less in
    let same : bytes_eq name (get_or names i []) ≡ true = ap (λ (other : List ℕ). bytes_eq name other) here ∙ nat_list_eq_equiv.refl name in
    let held : is_held name names ≡ true = list_any_at (bytes_eq name) names i [] within same in
    found_below (lines_of rows) name (some_number name (lines_of rows) (is_held-firsts names name ∙ held))

route_passes : (links : List (List ℕ)) (ends : List (ℕ × ℕ)) (stops : List (List ℕ)) (stop_list : List StopRow) (rows : List Row) (i : ℕ) → i < length rows
    → are_drivable (length links) ends stop_list (lists_of links stops stop_list (get_or rows i [])).links (lists_of links stops stop_list (get_or rows i [])).calls ≡ true
    → is_route (length (lines_of rows)) (length links) ends stop_list (route_of links stops stop_list (lines_of rows) (get_or rows i [])) ≡ true
unfolding route_of
route_passes links ends stops stop_list rows i less sound = both_true _ _ (line_there rows i less) sound

-- routes of a file without a fault are few
module _ (links : List (List ℕ)) (ends : List (ℕ × ℕ)) (stops : List (List ℕ)) (stop_list : List StopRow) (bytes : List ℕ) (routes : List RouteRow) (each : length stops ≡ length stop_list)
    (none : routes_fault links ends stops stop_list bytes ≡ None) (are : routes ≡ routes_of links stops stop_list (body_of bytes)) where
  reasons : List (List ℕ) → List RouteRow → Row → Option Reason
  reasons names _ row = route_reason links ends stops stop_list names row

  pub few_routes : length routes ≤ MAX_ROUTES
  unfolding reasons
  few_routes =
      let rows = body_of bytes in
      let value = route_of links stops stop_list (lines_of rows) in
      let few = few_rows (optional_head_reason route_header bytes) 1 value reasons rows MAX_ROUTES none (λ before values row free. (route_free links ends stops stop_list before row each free).room) in
      let count = ap (λ (l : List RouteRow). length l) are ∙ length-map rows value in
      omega arith

  -- and are drivable
  pub sound_routes : list_all (is_route (length (lines_of (body_of bytes))) (length links) ends stop_list) routes ≡ true
  unfolding reasons
  sound_routes =
      let rows = body_of bytes in
      let passes = is_route (length (lines_of rows)) (length links) ends stop_list in
      ap (λ (l : List RouteRow). list_all passes l) are
      ∙ values_pass (optional_head_reason route_header bytes) 1 (route_of links stops stop_list (lines_of rows)) reasons rows passes none
      (λ i before values less free. route_passes links ends stops stop_list rows i less (route_free links ends stops stop_list before (get_or rows i []) each free).sound)

-- what is read of routes.csv is few, and sound
module _ (links : List (List ℕ)) (ends : List (ℕ × ℕ)) (stops : List (List ℕ)) (stop_list : List StopRow) (bytes : List ℕ) (each : length stops ≡ length stop_list) where
  pub routes_few : (read : Result Routes RowStop) → Answers route_lists read (routes_fault links ends stops stop_list bytes) (lines_of (body_of bytes), column 1 (body_of bytes), routes_of links stops stop_list (body_of bytes))
      → IfOk read (λ r. length r.rows ≤ MAX_ROUTES)
  routes_few (Ok r) told = few_routes links ends stops stop_list bytes r.rows each told.0 (ap (λ (p : List (List ℕ) × List (List ℕ) × List RouteRow). p.2) told.1)
  routes_few (Err why) told = tt

  pub routes_sound : (read : Result Routes RowStop) → Answers route_lists read (routes_fault links ends stops stop_list bytes) (lines_of (body_of bytes), column 1 (body_of bytes), routes_of links stops stop_list (body_of bytes))
      → IfOk read (λ r. list_all (is_route (length r.lines) (length links) ends stop_list) r.rows ≡ true)
  routes_sound (Ok r) told =
      ap (λ (lines : List (List ℕ)). list_all (is_route (length lines) (length links) ends stop_list) r.rows) (ap (λ (p : List (List ℕ) × List (List ℕ) × List RouteRow). p.0) told.1)
      ∙ sound_routes links ends stops stop_list bytes r.rows each told.0 (ap (λ (p : List (List ℕ) × List (List ℕ) × List RouteRow). p.2) told.1)
  routes_sound (Err why) told = tt

-- DEPARTURES
record IsFreeDeparture (routes names : List (List ℕ)) (row : Row) : Type 0 where
  room : length names < MAX_DEPARTURES
  sound : is_departure (length routes) (departure_of routes row) ≡ true

four_true : (a b c d e : Bool) → a ≡ true → (b && c) ≡ true → (d && e) ≡ true → (a && c && d && e) ≡ true
four_true a b c d e p q r = grind arith

departure_free : (routes names : List (List ℕ)) (row : Row) → departure_reason routes names row ≡ None → IsFreeDeparture routes names row
unfolding departure_reason departure_of is_departure
departure_free routes names row none =
    let a = none_applies (not (nat_eq (length row) 4)) reason.FieldCount _ none in
    let b = none_applies (not (holds_name row 0 && holds_name row 1)) reason.BadName _ a.1 in
    let c = none_applies (is_none (second_in row) || is_none (seats_in row)) reason.BadNumber _ b.1 in
    let d = none_applies (is_some (number_of (field row 0) names)) reason.Twice _ c.1 in
    let e = none_applies (is_none (number_of (field row 1) routes)) reason.Unknown _ d.1 in
    let f = none_applies (nat_le MAX_DEPARTURES (length names)) reason.TooMany _ e.1 in
    let numbers = or_parts (is_none (second_in row)) (is_none (seats_in row)) c.0 in
    record {
      room = less_than MAX_DEPARTURES (length names) f.0;
      sound = four_true _ _ _ _ _ (found_below routes (field row 1) e.0) (number_in_range 0 LAST_SECOND (field row 2) numbers.0) (number_in_range 1 MAX_SEATS (field row 3) numbers.1);
    }

-- departures of a file without a fault are few
pub few_departures : (routes : List (List ℕ)) (bytes : List ℕ) (departures : List DepartureRow) → departures_fault routes bytes ≡ None → departures ≡ map (departure_of routes) (body_of bytes) → length departures ≤ MAX_DEPARTURES
few_departures routes bytes departures none are =
    let rows = body_of bytes in
    let few = few_rows (optional_head_reason departure_header bytes) 0 (departure_of routes) (λ names _ row. departure_reason routes names row) rows MAX_DEPARTURES none (λ before values row free. (departure_free routes before row free).room) in
    let count = ap (λ (l : List DepartureRow). length l) are ∙ length-map rows (departure_of routes) in
    omega arith

-- and are of routes
pub sound_departures : (routes : List (List ℕ)) (bytes : List ℕ) (departures : List DepartureRow) → departures_fault routes bytes ≡ None → departures ≡ map (departure_of routes) (body_of bytes)
    → list_all (is_departure (length routes)) departures ≡ true
sound_departures routes bytes departures none are =
    let rows = body_of bytes in
    ap (λ (l : List DepartureRow). list_all (is_departure (length routes)) l) are
    ∙ values_pass (optional_head_reason departure_header bytes) 0 (departure_of routes) (λ names _ row. departure_reason routes names row) rows (is_departure (length routes)) none
    (λ i before values less free. (departure_free routes before (get_or rows i []) free).sound)
