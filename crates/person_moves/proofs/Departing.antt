-- Departures in the setup of a day.
use Rattle.traffic.proofs.Common.{refl, ◌≡◌, ℕ, ◌∙◌, length, ap, sym, [], ◌∷◌, arith, ◌<◌, get_or, ◌≢◌, eq-eqb, nat_tests, get_or-map, DepartureRow, List}
use Rattle.traffic.proofs.Common.{and_parts, true, nat_lt, ends_of, StopCall, departure_moves, transit_vehicle, departure, Departure}
use Rattle.traffic.{proofs.Idle.departure_idle, specs.declared.moves.Move.TheVariants.Enter, specs.declared.world.Row.Row}
use Rattle.std.proofs.lemmas.List.{get_or_default}
use Rattle.rows.specs.{Schedules.are_drivable, Schedules.is_departure, Schedules.is_route, Schedules.is_way, declared.schedule.StopRow.StopRow}
use Rattle.town.specs.{Setups.setup_of, Setups.departure_of, Setups.route_at, Views.rows_of, Views.setup, declared.day_input.DayInput.DayInput}
use Rattle.person_moves.proofs.Lists.{passes_at}

-- the route of a departure is there
pub route_there : (day : DayInput) (d : ℕ) (row : DepartureRow) → d < length day.town.now.departures.rows → row ≡ get_or day.town.now.departures.rows d row → row.route < length day.town.now.routes.rows
unfolding is_departure
route_there day d row h e =
    let g = passes_at (is_departure (length day.town.now.routes.rows)) day.town.now.departures.rows d row day.town.now.sound.departures h e in grind (arith, nat_tests, g)

way_some : (ends : List (ℕ × ℕ)) (route : List ℕ) → is_way ends route ≡ true → 0 < length route
way_some ends [] h = absurd (cc)
way_some ends (l ∷ route) h = omega arith

drivable_some : (links : ℕ) (ends : List (ℕ × ℕ)) (rows : List StopRow) (route : List ℕ) (calls : List StopCall) → are_drivable links ends rows route calls ≡ true → 0 < length route
unfolding are_drivable
drivable_some links ends rows route calls h =
    let way : is_way ends route ≡ true = grind arith in way_some ends route way

-- and has a link
pub route_long : (day : DayInput) (k : ℕ) → k < length day.town.now.routes.rows → 0 < length (route_at day.town.now.routes.rows k).links
route_long day k h =
    let T = rows_of day.town.now in
    let route = route_at T.routes k in
    let g = passes_at (is_route (length T.book.lines) (length T.links) (ends_of T.links) T.stops) T.routes k route day.town.now.sound.routes h (get_or_default T.routes k _ _ h) in
    drivable_some (length T.links) (ends_of T.links) T.stops route.links route.calls (and_parts (nat_lt route.line (length T.book.lines)) _ g).1

departure_at : (day : DayInput) (d : ℕ) (row : DepartureRow) → d < length day.town.now.departures.rows → row ≡ get_or day.town.now.departures.rows d row →
    departure (setup day) d ≡ departure_of day.town.now.routes.rows row
unfolding setup_of
departure_at day d row h e = get_or-map (departure_of day.town.now.routes.rows) day.town.now.departures.rows d row _ h ∙ ap (departure_of day.town.now.routes.rows) (sym e)

pub departs_now : (day : DayInput) (t d : ℕ) (row : DepartureRow) (now : Row) → d < length day.town.now.departures.rows → row ≡ get_or day.town.now.departures.rows d row → row.second ≡ t →
    now ≡ transit_vehicle d (departure_of day.town.now.routes.rows row) → Enter now ∷ [] ≡ departure_moves (setup day) t d
unfolding departure_moves
departs_now day t d row now h e s v =
    let q = departure_at day d row h e in
    let a = eq-eqb row.second t s in
    ap (λ (x : Row). Enter x ∷ []) v ∙ (rw (q, a) refl)

pub departs_later : (day : DayInput) (t d : ℕ) (row : DepartureRow) → d < length day.town.now.departures.rows → row ≡ get_or day.town.now.departures.rows d row → row.second ≢ t →
    departure_moves (setup day) t d ≡ []
departs_later day t d row h e s = departure_idle (setup day) t d (λ p. s (ap (λ (x : Departure). x.second) (sym (departure_at day d row h e)) ∙ p))
