-- What the files of the schedule give, file by file.
use Rattle.scenario.proofs.Common.{◌≡◌, List, ℕ, map, ap, refl, None, body_of, StopsAt, fault_in, schedule_fault, schedule_rows_of, route_names, stop_names}
use Rattle.scenario.proofs.Common.{stop_rows, Texts, bytes_in, schedule_view, departure_of, departures_fault, lines_of, routes_fault, routes_of, stops_fault}
use Rattle.scenario.{proofs.Told.first_stop, proofs.Told.later_stop, proofs.Told.both_none, specs.declared.faults.Stop.Stop}
use Rattle.edge_files.specs.declared.files.InFile.TheVariants as file
use Rattle.records.specs.Fields.{column}
use Rattle.rows.specs.declared.schedule.{DepartureRow.DepartureRow, Departures.Departures, RouteRow.RouteRow, Routes.Routes, StopRow.StopRow, Stops.Stops}
use Rattle.schedule.specs.Views.{stop_lists, route_lists, departure_lists}

-- stops were read of this text
abbrev pub AreStops : List (List ℕ) → Texts → Stops → Type 0
AreStops links T S =
    (fault_in T file.Stops (stops_fault links) ≡ None) × (stop_lists S ≡ (stop_names (bytes_in T file.Stops), stop_rows links (bytes_in T file.Stops)))

-- routes were read of this text, on these stops
abbrev pub AreRoutes : List (List ℕ) → List (ℕ × ℕ) → Texts → Stops → Routes → Type 0
AreRoutes links ends T S R =
    (fault_in T file.Routes (routes_fault links ends S.names S.rows) ≡ None)
    × (route_lists R ≡ (
      lines_of (body_of (bytes_in T file.Routes)),
      route_names (bytes_in T file.Routes),
      routes_of links S.names S.rows (body_of (bytes_in T file.Routes)),
    ))

module _ (links : List (List ℕ)) (ends : List (ℕ × ℕ)) (T : Texts) (S : Stops) (are : AreStops links T S) where
  names_are : S.names ≡ stop_names (bytes_in T file.Stops)
  names_are = ap (λ (p : List (List ℕ) × List StopRow). p.0) are.1

  rows_are : S.rows ≡ stop_rows links (bytes_in T file.Stops)
  rows_are = ap (λ (p : List (List ℕ) × List StopRow). p.1) are.1

  -- an error at the routes is told
  pub routes_told : (s : Stop) → StopsAt s (fault_in T file.Routes (routes_fault links ends S.names S.rows)) → StopsAt s (schedule_fault links ends T)
  unfolding schedule_fault
  routes_told s told = rw (← names_are, ← rows_are) (later_stop s _ _ are.0 (first_stop s _ _ told))

  module _ (R : Routes) (along : AreRoutes links ends T S R) where
    -- the routes have no fault on the stops of the definition
    no_routes_fault : fault_in T file.Routes (routes_fault links ends (stop_names (bytes_in T file.Stops)) (stop_rows links (bytes_in T file.Stops))) ≡ None
    no_routes_fault = rw (← names_are, ← rows_are) along.0

    routes_are : R.names ≡ route_names (bytes_in T file.Routes)
    routes_are = ap (λ (p : List (List ℕ) × List (List ℕ) × List RouteRow). p.1) along.1

    -- an error at the departures is told
    pub departures_told : (s : Stop) → StopsAt s (fault_in T file.Departures (departures_fault R.names)) → StopsAt s (schedule_fault links ends T)
    unfolding schedule_fault
    departures_told s told = later_stop s _ _ are.0 (later_stop s _ _ no_routes_fault (rw (← routes_are) told))

    -- none of the three has a fault
    pub schedule_none : fault_in T file.Departures (departures_fault R.names) ≡ None → schedule_fault links ends T ≡ None
    unfolding schedule_fault
    schedule_none none = both_none _ _ are.0 (both_none _ _ no_routes_fault (rw (← routes_are) none))

    -- what was read is what the texts give
    pub schedule_is : (D : Departures)
        → departure_lists D ≡ (column 0 (body_of (bytes_in T file.Departures)), map (departure_of R.names) (body_of (bytes_in T file.Departures)))
        → schedule_view (record { stops = S; routes = R; departures = D }) ≡ schedule_rows_of links T
    unfolding schedule_rows_of
    schedule_is D is =
        rw (ap (λ (p : List (List ℕ) × List DepartureRow). p.1) is, ap (λ (p : List (List ℕ) × List DepartureRow). p.0) is)
        (rw (ap (λ (p : List (List ℕ) × List (List ℕ) × List RouteRow). p.2) along.1, routes_are)
        (rw (ap (λ (p : List (List ℕ) × List (List ℕ) × List RouteRow). p.0) along.1, rows_are, names_are) refl))
