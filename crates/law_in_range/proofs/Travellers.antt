-- The turns of persons and of departures make fit moves, who waits at stops is fit, and so is what is told of who is under way.
use Rattle.traffic.proofs.Common.{ℕ, List, length, [], ◌∷◌, arith, ◌<◌, ◌+◌, inl, inr, subst, eqb, cases_Bool, All-get_or, recursion_from_All, All-nil}
use Rattle.traffic.proofs.Common.{All-cons, Mode, VehicleId, Act, Leg, landing_turns, leaving_turns, departure_turns, below, stuck_at, waiter, sets_out}
use Rattle.traffic.proofs.Common.{waits_on, transit_vehicle, waiters, stranded, same_vehicle, car, mode_of_leg, link_of_vehicle, World, person_of, Setup}
use Rattle.traffic.proofs.Common.{act_after, leg_at, act_at, link_of_stop, departure, Departure}
use Rattle.traffic.proofs.{Each.each_if, Each.each_flat, Each.each_number, Walks.flight_walk, Walks.leave_walk, Walks.departure_walk}
use Rattle.traffic.specs.declared.world.{Place.Place, Place.TheVariants.Teleporting, Place.TheVariants.Waiting, Place.TheVariants.Riding, Row.Row}
use Rattle.std.specs.List.{AllByRecursion as Each}
use Rattle.rows.specs.declared.plan.Leg.TheVariants as leg
use Rattle.law_in_range.{proofs.Boarding.IsFitWaiter, specs.Moves.AreFitOccurrences, specs.Moves.AreFitMoves}
use Rattle.law_in_range.specs.Rows.{Counts, IsFitLink, IsFitRider, IsFitCall, IsFitRow, IsFitPlace, IsFitWorld}
use Rattle.law_in_range.specs.Setups.{IsFitRoute, IsFitDeparture, IsFitAct, IsFitLeg, IsFitSetup, IsFitStop}

-- PERSONS
pub flight_fit : (z : Counts) (S : Setup) (t i : ℕ) (W : World) → IsFitSetup z S → i < z.persons → AreFitMoves z (landing_turns S t i W)
flight_fit z S t i W f lt =
    let h = f.acts i ((person_of i W).element + 2) lt in
    flight_walk (λ ms. AreFitMoves z ms) S t i (person_of i W) tt
    (λ mode seconds start p w e. assumption (lt, h, tt))

car_fit : (z : Counts) (i : ℕ) (route : List ℕ) (kind : ℕ) → i < z.persons → kind < z.kinds → IsFitRoute z route → IsFitRow z (car i route kind)
car_fit z i route kind lt k h =
    record {
      vehicle = record {
        id = lt;
        line = tt;
        route = h.links;
        few_links = h.few;
        place = h.some;
        riders = All-cons (IsFitRider z) _ [] (record { person = lt; kind = k }) (All-nil (IsFitRider z));
        few_riders = omega arith;
        calls = All-nil (IsFitCall z);
        few_calls = omega arith;
        served = omega arith;
        seats = omega arith;
        departed = omega arith;
      };
      link = All-get_or (IsFitLink z) route 0 0 h.some h.links;
      stage = tt;
    }

stop_below : (z : Counts) (S : Setup) (stop : ℕ) → IsFitSetup z S → stop < z.stops → link_of_stop S stop < z.links
stop_below z S stop f lt = All-get_or (IsFitStop z) S.stops stop (record { link = 0 }) (let e = f.stops in omega arith) f.stop_links

sets_out_fit : (z : Counts) (S : Setup) (i : ℕ) (w : Leg) (next : Act) → IsFitSetup z S → i < z.persons → IsFitAct z next → IsFitLeg z w → AreFitMoves z (sets_out S i w next)
sets_out_fit z S i (leg.Car route) next f lt h g = ((car_fit z i route next.kind lt h.kind g, (record { person = lt; vehicle = lt; link = tt; more = tt }, tt)), tt)
sets_out_fit z S i (leg.Teleport mode seconds) next f lt h g = tt
sets_out_fit z S i (leg.Transit line access egress) next f lt h g = ((tt, (record { person = lt; vehicle = tt; link = stop_below z S access f g; more = g }, tt)), tt)

pub leave_fit : (z : Counts) (S : Setup) (t i : ℕ) (W : World) → IsFitSetup z S → IsFitWorld z W → i < z.persons → AreFitMoves z (leaving_turns S t i W)
leave_fit z S t i W f h lt =
    let P = person_of i W in
    let here = f.acts i P.element lt in
    leave_walk (λ ms. AreFitMoves z ms) S t i (person_of i W) tt
    (λ p. (
      assumption (lt, here, tt),
      sets_out_fit z S i (leg_at S i P.element) (act_after S i P.element) f lt (f.acts i (P.element + 2) lt) (f.legs i P.element lt (subst (λ (pl : Place). IsFitPlace z i P.element pl) p (h.persons i))),
    ))

-- DEPARTURES
transit_fit : (z : Counts) (d : ℕ) (D : Departure) → d < z.departures → IsFitDeparture z D → IsFitRow z (transit_vehicle d D)
transit_fit z d D lt h =
    record {
      vehicle = record {
        id = lt;
        line = h.line;
        route = h.route.links;
        few_links = h.route.few;
        place = h.route.some;
        riders = All-nil (IsFitRider z);
        few_riders = omega arith;
        calls = h.calls;
        few_calls = h.few;
        served = omega arith;
        seats = h.seats;
        departed = h.second;
      };
      link = All-get_or (IsFitLink z) D.route 0 0 h.route.some h.route.links;
      stage = tt;
    }

pub departure_fit : (z : Counts) (S : Setup) (t d : ℕ) (W : World) → IsFitSetup z S → d < length S.departures → AreFitMoves z (departure_turns S t d W)
departure_fit z S t d W f lt =
    let within : d < z.departures = (let e = f.departures in omega arith) in
    let D : IsFitDeparture z (departure S d) = All-get_or (IsFitDeparture z) S.departures d _ lt f.runs in
    let r = transit_fit z d (departure S d) within D in
    departure_walk (λ ms. AreFitMoves z ms) S t d tt (λ e. ((r, (record { person = tt; vehicle = within; link = r.link; more = D.line }, tt)), tt))

-- WHO WAITS
waits_on_fit : (z : Counts) (S : Setup) (l i : ℕ) (w : Leg) (next : Act) (pl : Place) → i < z.persons → IsFitAct z next → Each (IsFitWaiter z) (waits_on S l i w next pl)
waits_on_fit z S l i (leg.Transit line access egress) next (Waiting stop since) lt h =
    each_if (IsFitWaiter z) (eqb (link_of_stop S stop) l) _ _ (record { person = lt; kind = h.kind }, tt) tt
waits_on_fit z S l i w next (Waiting stop since) lt h = each_if (IsFitWaiter z) (eqb (link_of_stop S stop) l) _ _ tt tt
waits_on_fit z S l i w next _ lt h = tt

pub waiters_fit : (z : Counts) (S : Setup) (l : ℕ) (W : World) → IsFitSetup z S → IsFitWorld z W → Each (IsFitWaiter z) (waiters S l W)
unfolding waiters
waiters_fit z S l W f h =
    each_flat (λ i. i < z.persons) (IsFitWaiter z) (λ i. waiter S l i (person_of i W))
    (λ i lt. let P = person_of i W in waits_on_fit z S l i (leg_at S i P.element) (act_after S i P.element) P.place lt (f.acts i (P.element + 2) lt))
    (below (length W.persons)) (each_number z.persons 0 (length W.persons) (let e = h.one_each in omega arith))

-- WHO IS UNDER WAY
row_below : (z : Counts) (v : VehicleId) (rows : List Row) → 0 < z.links → Each (IsFitRow z) rows → link_of_vehicle v rows < z.links
unfolding link_of_vehicle
row_below z v [] some h = some
row_below z v (r ∷ rs) some h = elim (cases_Bool (same_vehicle r.vehicle.id v)) [ inl e ↦ simp e h.0.link | inr e ↦ simp e (row_below z v rs some h.1) ]

stuck_fit : (z : Counts) (S : Setup) (W : World) (i element : ℕ) (here : Act) (mode : Mode) (pl : Place) → IsFitSetup z S → IsFitWorld z W → i < z.persons → IsFitAct z here → IsFitPlace z i element pl →
    AreFitOccurrences z (stuck_at S W i here mode pl)
stuck_fit z S W i element here mode (Teleporting start) f h lt g p = (record { person = lt; vehicle = tt; link = g.link; more = tt }, tt)
stuck_fit z S W i element here mode (Waiting stop since) f h lt g p = (record { person = lt; vehicle = tt; link = stop_below z S stop f p; more = tt }, tt)
stuck_fit z S W i element here mode (Riding v) f h lt g p =
    let some : 0 < z.links = (let k = g.link in omega arith) in
    (record { person = lt; vehicle = tt; link = row_below z v W.rows some (recursion_from_All (IsFitRow z) W.rows h.rows); more = tt }, tt)
stuck_fit z S W i element here mode _ f h lt g p = tt

pub stranded_fit : (z : Counts) (S : Setup) (W : World) (i : ℕ) → IsFitSetup z S → IsFitWorld z W → i < z.persons → AreFitOccurrences z (stranded S W i)
unfolding stranded
stranded_fit z S W i f h lt =
    let P = person_of i W in
    stuck_fit z S W i P.element (act_at S i P.element) (mode_of_leg (leg_at S i P.element)) P.place f h lt (f.acts i P.element lt) (h.persons i)
