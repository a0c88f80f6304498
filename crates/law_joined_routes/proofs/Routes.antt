-- In a town routes are joined: a vehicle at the end of a link goes on along a link that begins there.
use Rattle.traffic.proofs.Common.{◌≡◌, ℕ, zero, suc, ◌+◌, ◌/◌, ◌<◌, true, List, [], ◌∷◌, ◌∙◌, ap, refl, sym, subst, arith, inl, inr, length, get_or, All}
use Rattle.traffic.proofs.Common.{filter, Phase, and_parts, eqb-true, ltb-true, add-one, cases_lt, get_or_past, get_or-map, length-map, All-get_or}
use Rattle.traffic.proofs.Common.{All-from_recursion, recursion_from_All, nat_eq, nat_lt, VehicleId, PlanRows, Leg, Act, LinkRow, RouteRow, DepartureRow, World}
use Rattle.traffic.proofs.Common.{Setup, VehicleState, Departure, next_link, through, world_start, world_at, on, departure, leg_at, leg_of, ends_of, IsOwn}
use Rattle.traffic.proofs.{Common.IsAlong, Common.HasRiders, Common.IsSoundRow, Each.each_filter, Sublists.on_is}
use Rattle.traffic.specs.declared.{stage.Stage.TheVariants.Buffer, world.Row.Row}
use Rattle.std.specs.List.{AllByRecursion as Each}
use Rattle.events.specs.declared.event.VehicleId.TheVariants as vehicle
use Rattle.rows.specs.declared.plan.Leg.TheVariants as leg
use Rattle.rows.specs.{Joined.ends_of_link, Joined.is_joined, Schedules.is_way, Schedules.are_drivable, Schedules.is_route, Schedules.is_departure}
use Rattle.law_in_range.proofs.{Lists.each_tested, Seconds.start_fit, Seconds.from_fit, Seconds.through_fit, Sizes.buffer_next, Sizes.buffer_next_link}
use Rattle.law_in_range.proofs.Towns.{plans_fit, town_fit}
use Rattle.law_in_range.specs.{Rows.Counts, Rows.IsFitRow, Setups.IsFitSetup, Setups.IsPlanIn, Setups.counts_in}
use Rattle.law_matches_plans.proofs.Towns.{town_sound}
use Rattle.law_sound_setups.proofs.Laws.{phases_sound}
use Rattle.town.specs.{Fits.is_car_leg, Fits.leg_fits, Fits.legs_fit, Fits.fits, Fits.first_link, Rows.TownRows, Rows.IsTown, Setups.departure_of}
use Rattle.town.specs.{Setups.setup_of, Views.rows_of, Views.chosen_in, Views.setup, Views.ChosenFit, declared.day_input.DayInput.DayInput}
use Rattle.law_joined_routes.specs.Going.{GoesOn, GoOn}

-- JOINED ROUTES
abbrev Ends : Type 0
Ends = List (ℕ × ℕ)

-- where a link ends, and where it begins
end_at : Ends → ℕ → ℕ
end_at ends l = (get_or ends l (0, 0)).1

begin_at : Ends → ℕ → ℕ
begin_at ends l = (get_or ends l (0, 0)).0

joined_next : (ends : Ends) (route : List ℕ) (k : ℕ) → is_joined ends route ≡ true → suc k < length route
    → end_at ends (get_or route k 0) ≡ begin_at ends (get_or route (suc k) 0)
unfolding is_joined end_at begin_at
joined_next ends [] k h lt = absurd (omega arith)
joined_next ends (l ∷ []) k h lt = absurd (omega arith)
joined_next ends (l ∷ m ∷ route) zero h lt =
    let p = and_parts (nat_eq (get_or ends l (0, 0)).1 (get_or ends m (0, 0)).0) (is_joined ends (m ∷ route)) h in
    eqb-true (get_or ends l (0, 0)).1 (get_or ends m (0, 0)).0 p.0
joined_next ends (l ∷ m ∷ route) (suc k) h lt =
    let p = and_parts (nat_eq (get_or ends l (0, 0)).1 (get_or ends m (0, 0)).0) (is_joined ends (m ∷ route)) h in
    joined_next ends (m ∷ route) k p.1 (omega arith)

-- the ends of the links of a setup
row_ends : (links : List LinkRow) (l : ℕ) → l < length links
    → (end_at (ends_of links) l ≡ (get_or links l (record { from = 0; to = 0; length = 0; speed = 1; capacity = 0; lanes = 0 })).to)
    × (begin_at (ends_of links) l ≡ (get_or links l (record { from = 0; to = 0; length = 0; speed = 1; capacity = 0; lanes = 0 })).from)
unfolding ends_of end_at begin_at
row_ends links l lt =
    let row : LinkRow = record { from = 0; to = 0; length = 0; speed = 1; capacity = 0; lanes = 0 } in
    let e = get_or-map ends_of_link links l row (0, 0) lt in
    (ap (λ (x : ℕ × ℕ). x.1) e, ap (λ (x : ℕ × ℕ). x.0) e)

-- DEPARTURES
way_joined : (ends : Ends) (route : List ℕ) → is_way ends route ≡ true → is_joined ends route ≡ true
way_joined ends [] h = absurd (cc)
way_joined ends (l ∷ route) h = h

route_joined : (T : TownRows) (r : RouteRow) → is_route (length T.book.lines) (length T.links) (ends_of T.links) T.stops r ≡ true
    → is_joined (ends_of T.links) r.links ≡ true
unfolding are_drivable
route_joined T r h =
    let a = and_parts (nat_lt r.line (length T.book.lines)) _ h in
    let b = and_parts _ _ a.1 in
    let c = and_parts _ _ b.0 in
    let d = and_parts _ _ c.0 in
    let e = and_parts _ _ d.0 in
    let f = and_parts _ _ e.0 in
    way_joined (ends_of T.links) r.links f.1

run_joined : (T : TownRows) (d : DepartureRow) → All (λ (r : RouteRow). is_joined (ends_of T.links) r.links ≡ true) T.routes
    → is_departure (length T.routes) d ≡ true → is_joined (ends_of T.links) (departure_of T.routes d).route ≡ true
unfolding is_departure
run_joined T d h g =
    let a = and_parts _ _ g in
    let b = and_parts _ _ a.0 in
    let c = and_parts _ _ b.0 in
    All-get_or (λ (r : RouteRow). is_joined (ends_of T.links) r.links ≡ true) T.routes d.route (record { line = 0; links = []; calls = [] })
    (ltb-true d.route (length T.routes) c.0) h

runs_joined : (T : TownRows) → IsTown T → Each (λ (d : DepartureRow). is_joined (ends_of T.links) (departure_of T.routes d).route ≡ true) T.departures
runs_joined T town =
    let Joined = λ (r : RouteRow). is_joined (ends_of T.links) r.links ≡ true in
    let routes = All-from_recursion Joined T.routes
    (each_tested Joined (is_route (length T.book.lines) (length T.links) (ends_of T.links) T.stops) (route_joined T) T.routes town.routes) in
    each_tested (λ (d : DepartureRow). is_joined (ends_of T.links) (departure_of T.routes d).route ≡ true) (is_departure (length T.routes))
    (λ d g. run_joined T d routes g) T.departures town.departures

departure_joined : (T : TownRows) (chosen : List PlanRows) (k d : ℕ) → IsTown T → d < length (setup_of T chosen k).departures
    → is_joined (ends_of T.links) (departure (setup_of T chosen k) d).route ≡ true
unfolding setup_of
departure_joined T chosen k d town lt =
    let n = length-map T.departures (departure_of T.routes) in
    let there : d < length T.departures = omega arith in
    let Joined = λ (x : DepartureRow). is_joined (ends_of T.links) (departure_of T.routes x).route ≡ true in
    let row : DepartureRow = record { route = 0; second = 0; seats = 0 } in
    let e = get_or-map (departure_of T.routes) T.departures d row (record { second = 0; seats = 0; line = 0; route = []; calls = [] }) there in
    subst (λ (D : Departure). is_joined (ends_of T.links) D.route ≡ true) (sym e)
    (All-get_or Joined T.departures d row there (All-from_recursion Joined T.departures (runs_joined T town)))

-- PLANS
-- a leg by car goes along a joined route
IsJoinedLeg : TownRows → Leg → Type 0
IsJoinedLeg T (leg.Car route) = is_joined (ends_of T.links) route ≡ true
IsJoinedLeg T (leg.Teleport mode seconds) = Unit {0}
IsJoinedLeg T (leg.Transit line access egress) = Unit {0}

leg_joined : (T : TownRows) (here there : ℕ) (x : Leg) → leg_fits T here there x ≡ true → IsJoinedLeg T x
unfolding leg_fits is_car_leg IsJoinedLeg
leg_joined T here there (leg.Car route) h =
    let a = and_parts _ _ h in
    let b = and_parts _ _ a.0 in
    (and_parts _ _ b.1).1
leg_joined T here there (leg.Teleport mode seconds) h = tt
leg_joined T here there (leg.Transit line access egress) h = tt

legs_joined : (T : TownRows) (acts : List Act) (legs : List Leg) → legs_fit T acts legs ≡ true → Each (IsJoinedLeg T) legs
unfolding legs_fit
legs_joined T acts [] h = tt
legs_joined T [] (x ∷ legs) h = absurd (cc)
legs_joined T (a ∷ acts) (x ∷ legs) h =
    let b = and_parts (leg_fits T a.link (first_link acts) x) (legs_fit T acts legs) h in
    (leg_joined T a.link (first_link acts) x b.0, legs_joined T acts legs b.1)

no_leg : (T : TownRows) → IsJoinedLeg T (leg.Car [])
unfolding is_joined IsJoinedLeg
no_leg T = refl

plan_joined : (T : TownRows) (p : PlanRows) → fits T p ≡ true → (k : ℕ) → IsJoinedLeg T (get_or p.legs k (leg.Car []))
unfolding fits
plan_joined T p h k =
    let b = and_parts _ (legs_fit T p.acts p.legs) h in
    elim (cases_lt k (length p.legs)) [
      | inl lt ↦ All-get_or (IsJoinedLeg T) p.legs k (leg.Car []) lt (All-from_recursion (IsJoinedLeg T) p.legs (legs_joined T p.acts p.legs b.1))
      | inr ge ↦ subst (IsJoinedLeg T) (sym (get_or_past p.legs k (leg.Car []) ge)) (no_leg T)
    ]

person_joined : (T : TownRows) (chosen : List PlanRows) (k i element : ℕ) → All (IsPlanIn T) chosen
    → IsJoinedLeg T (leg_at (setup_of T chosen k) i element)
unfolding setup_of
person_joined T chosen k i element h =
    let none : PlanRows = record { acts = []; legs = [] } in
    elim (cases_lt i (length chosen)) [
      | inl lt ↦
          let p = All-get_or (IsPlanIn T) chosen i none lt h in
          plan_joined T (get_or chosen i none) p.fit (element / 2)
      | inr ge ↦
          subst (λ (p : PlanRows). IsJoinedLeg T (get_or p.legs (element / 2) (leg.Car []))) (sym (get_or_past chosen i none ge)) (no_leg T)
    ]

-- VEHICLES
along_joined : (T : TownRows) (route : List ℕ) (w : Leg) → IsAlong route w → IsJoinedLeg T w → is_joined (ends_of T.links) route ≡ true
unfolding IsJoinedLeg
along_joined T route (leg.Car links) a h = subst (λ (xs : List ℕ). is_joined (ends_of T.links) xs ≡ true) a h
along_joined T route (leg.Teleport mode seconds) a h = absurd a
along_joined T route (leg.Transit line access egress) a h = absurd a

vehicle_joined : (T : TownRows) (chosen : List PlanRows) (k : ℕ) (W : World) (v : VehicleState) (id : VehicleId) → IsTown T → All (IsPlanIn T) chosen
    → IsOwn (setup_of T chosen k) v id → HasRiders (setup_of T chosen k) W v id → is_joined (ends_of T.links) v.route ≡ true
vehicle_joined T chosen k W v (vehicle.Car i) town plans own riders =
    along_joined T v.route (leg_of (setup_of T chosen k) W i) riders.2 (person_joined T chosen k i _ plans)
vehicle_joined T chosen k W v (vehicle.Transit d) town plans own riders =
    subst (λ (xs : List ℕ). is_joined (ends_of T.links) xs ≡ true) (sym own.route) (departure_joined T chosen k d town own.there)

-- THE NEXT LINK
links_of : (T : TownRows) (chosen : List PlanRows) (k : ℕ) → (setup_of T chosen k).links ≡ T.links
unfolding setup_of
links_of T chosen k = refl

goes_on : (S : Setup) (z : Counts) (W : World) (l : ℕ) (r : Row) → z.links ≡ length S.links → is_joined (ends_of S.links) r.vehicle.route ≡ true
    → IsSoundRow S W r → IsFitRow z r → on l Buffer r ≡ true → GoesOn S l r
goes_on S z W l r n joined sound fit e =
    let b = on_is l Buffer r e in
    let v = r.vehicle in
    let next : v.place + 1 < length v.route = buffer_next z r fit b.0 in
    let one : v.place + 1 ≡ suc v.place = add-one v.place in
    let there : next_link v < length S.links = subst (λ (k : ℕ). next_link v < k) n (buffer_next_link z r fit b.0) in
    let here : l < length S.links = subst (λ (k : ℕ). l < k) n (subst (λ (k : ℕ). k < z.links) b.1 fit.link) in
    let is : l ≡ get_or v.route v.place 0 = sym b.1 ∙ sound.link in
    let lead : end_at (ends_of S.links) (get_or v.route v.place 0) ≡ begin_at (ends_of S.links) (get_or v.route (suc v.place) 0)
    = joined_next (ends_of S.links) v.route v.place joined (omega arith) in
    let follows : get_or v.route (suc v.place) 0 ≡ next_link v = ap (λ (k : ℕ). get_or v.route k 0) (sym one) in
    record {
      there = there;
      joined =
          sym (row_ends S.links (next_link v) there).1
          ∙ ap (begin_at (ends_of S.links)) (sym follows) ∙ sym lead
          ∙ ap (end_at (ends_of S.links)) (sym is) ∙ (row_ends S.links l here).0;
    }

all_go_on : (S : Setup) (z : Counts) (W : World) (l : ℕ) (rows : List Row) → z.links ≡ length S.links
    → ((r : Row) → IsSoundRow S W r → is_joined (ends_of S.links) r.vehicle.route ≡ true)
    → Each (IsSoundRow S W) rows → Each (IsFitRow z) rows → Each (GoesOn S l) (filter (on l Buffer) rows)
all_go_on S z W l rows n joined sound fit =
    each_filter (λ (r : Row). IsSoundRow S W r × IsFitRow z r) (GoesOn S l) (on l Buffer)
    (λ r e p. goes_on S z W l r n (joined r p.0) p.0 p.1 e) rows (pairs rows sound fit)
  where
    pairs : (xs : List Row) → Each (IsSoundRow S W) xs → Each (IsFitRow z) xs → Each (λ (r : Row). IsSoundRow S W r × IsFitRow z r) xs
    pairs [] a b = tt
    pairs (x ∷ xs) a b = ((a.0, b.0), pairs xs a.1 b.1)

-- in a town each vehicle at the end of a link goes on, at each time between the phases of a second
pub town_goes_on : (day : DayInput) (t : ℕ) (ps : List Phase) → ChosenFit day → GoOn (setup day) (through (setup day) t ps (world_at (setup day) t))
town_goes_on day t ps given = λ l lt.
    let T = rows_of day.town.now in
    let chosen = chosen_in day in
    let S = setup day in
    let z = counts_in day in
    let W = through S t ps (world_at S t) in
    let plans = plans_fit T day.chosen.now given in
    let town : IsFitSetup z S = town_fit day given in
    let links = links_of T chosen day.iteration in
    let sound = phases_sound S t ps (town_sound day given) in
    let fit = through_fit z S t ps (world_at S t) town (from_fit z S (world_start S) t town (start_fit z S town)) in
    all_go_on S z W l W.rows (sym town.links)
    (λ r h. subst (λ (xs : List LinkRow). is_joined (ends_of xs) r.vehicle.route ≡ true) (sym links)
    (vehicle_joined T chosen day.iteration W r.vehicle r.vehicle.id day.town.now.sound plans h.own h.riders))
    (recursion_from_All (IsSoundRow S W) W.rows sound.rows) (recursion_from_All (IsFitRow z) W.rows fit.rows)
