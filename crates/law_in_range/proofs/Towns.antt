-- The setup of a day in a town is fit.
use Rattle.traffic.proofs.Common.{◌≡◌, ℕ, List, ◌∙◌, length, ap, refl, sym, [], ◌∷◌, arith, ◌<◌, true, ◌+◌, ◌≤◌, suc, zero, get_or, ◌/◌, and_parts, ltb-true}
use Rattle.traffic.proofs.Common.{length-map, All-map, All-from_recursion, recursion_from_All, All-weaker, list_all, map, Some, None, All, nat_lt, StopCall}
use Rattle.traffic.proofs.Common.{ends_of, is_open, has_end, are_acts, is_leg, PlanRows, plan_rows, Act, Leg, nat_tests, Plan, DepartureRow, RouteRow, StopRow}
use Rattle.traffic.proofs.{Common.World, Common.OnePlace, Common.Sound, Each.each_map, Each.each_get_or}
use Rattle.std.specs.List.{AllByRecursion as Each}
use Rattle.limits.specs.declared.TheConstants.{MAX_CALLS}
use Rattle.rows.specs.declared.plan.Leg.TheVariants as leg
use Rattle.rows.specs.Schedules.{is_sound_call, is_stop, is_way, are_drivable, is_route, is_departure}
use Rattle.town.specs.{Fits.first_link, Fits.is_act_in, Fits.is_car_leg, Fits.leg_fits, Fits.legs_fit, Fits.fits, Rows.TownRows, Rows.IsTown, Setups.route_at}
use Rattle.town.specs.{Setups.departure_of, Setups.setup_of, Views.rows_of, Views.chosen_in, Views.setup, Views.ChosenFit, declared.day_input.DayInput.DayInput}
use Rattle.law_in_range.proofs.{Lists.each_at, Lists.each_tested, Sounding.sound_fit}
use Rattle.law_in_range.specs.{Moves.IsBookOf, Rows.Counts, Rows.IsFitLink, Rows.IsFitCall, Rows.IsFitWorld, Setups.counts_of}
use Rattle.law_in_range.specs.Setups.{counts_in, IsPlanIn, IsFitRoute, IsFitDeparture, IsFitStop, IsFitAct, IsFitLeg, IsFitSetup, HasPlans, HasItsLinks}

below_links : (z : Counts) (route : List ℕ) → list_all (λ l. nat_lt l z.links) route ≡ true → All (IsFitLink z) route
below_links z route h = All-from_recursion (IsFitLink z) route (each_tested (IsFitLink z) (λ l. nat_lt l z.links) (λ l e. ltb-true l z.links e) route h)

-- ACTIVITIES
abbrev no_act : Act
no_act = record { kind = 0; link = 0; end = None }

act_fit : (T : TownRows) (chosen : List PlanRows) (a : Act) → is_act_in T a ≡ true → IsFitAct (counts_of T chosen) a
act_fit T chosen a h = record { kind = grind (arith, nat_tests); link = grind (arith, nat_tests) }

-- the numbers that stand for an activity that is not there are those of a kind and a link, since the plan has an activity
none_fit : (z : Counts) (legs : ℕ) (acts : List Act) → length acts ≡ legs + 1 → Each (IsFitAct z) acts → IsFitAct z no_act
none_fit z legs [] e h = absurd (omega arith)
none_fit z legs (a ∷ acts) e h = record { kind = (let g = h.0.kind in omega arith); link = (let g = h.0.link in omega arith) }

abbrev Acts : Counts → PlanRows → Type 0
Acts z plan = (k : ℕ) → IsFitAct z (get_or plan.acts k no_act)

plan_acts : (T : TownRows) (chosen : List PlanRows) (p : PlanRows) → IsPlanIn T p → Acts (counts_of T chosen) p
unfolding fits
plan_acts T chosen p h k =
    let z = counts_of T chosen in
    let acts : list_all (is_act_in T) p.acts ≡ true = (and_parts (list_all (is_act_in T) p.acts) _ h.fit).0 in
    let each : Each (IsFitAct z) p.acts = each_tested (IsFitAct z) (is_act_in T) (act_fit T chosen) p.acts acts in
    each_get_or (IsFitAct z) p.acts k no_act (none_fit z (length p.legs) p.acts h.one_more each) each

-- an activity that ends is not the last one
acts_end : (acts : List Act) (k second : ℕ) → are_acts acts ≡ true → (get_or acts k no_act).end ≡ Some second → k + 1 < length acts
unfolding are_acts
acts_end (a ∷ []) zero second h e = let q = ap is_open e in absurd (cc)
acts_end (a ∷ b ∷ acts) zero second h e = omega arith
acts_end (a ∷ b ∷ acts) (suc k) second h e = omega (arith, acts_end (b ∷ acts) k second (and_parts (has_end a) (are_acts (b ∷ acts)) h).1 e)
acts_end _ k second h e = absurd (cc)

abbrev Ends : PlanRows → Type 0
Ends plan = (k second : ℕ) → (get_or plan.acts k no_act).end ≡ Some second → k < length plan.legs

plan_ends : (T : TownRows) (p : PlanRows) → IsPlanIn T p → Ends p
plan_ends T p h k second e = omega (arith, acts_end p.acts k second h.ends e)

-- LEGS
leg_fit : (T : TownRows) (chosen : List PlanRows) (here there : ℕ) (x : Leg) → leg_fits T here there x ≡ true → is_leg x ≡ true → IsFitLeg (counts_of T chosen) x
unfolding leg_fits is_car_leg
leg_fit T chosen here there (leg.Car route) h g =
    record { some = grind (arith, nat_tests); few = grind (arith, nat_tests); links = below_links (counts_of T chosen) route (grind arith) }
leg_fit T chosen here there (leg.Teleport mode seconds) h g = tt
leg_fit T chosen here there (leg.Transit line access egress) h g = grind (arith, nat_tests)

each_leg : (T : TownRows) (chosen : List PlanRows) (acts : List Act) (legs : List Leg) → legs_fit T acts legs ≡ true → list_all is_leg legs ≡ true → Each (IsFitLeg (counts_of T chosen)) legs
unfolding legs_fit
each_leg T chosen acts [] h g = tt
each_leg T chosen [] (x ∷ legs) h g = absurd (cc)
each_leg T chosen (a ∷ acts) (x ∷ legs) h g =
    (leg_fit T chosen a.link (first_link acts) x (grind arith) (grind arith), each_leg T chosen acts legs (grind arith) (grind arith))

abbrev Legs : Counts → PlanRows → Type 0
Legs z plan = (k : ℕ) → k < length plan.legs → IsFitLeg z (get_or plan.legs k (leg.Car []))

plan_legs : (T : TownRows) (chosen : List PlanRows) (p : PlanRows) → IsPlanIn T p → Legs (counts_of T chosen) p
unfolding fits
plan_legs T chosen p h k lt =
    let z = counts_of T chosen in
    let legs : legs_fit T p.acts p.legs ≡ true = (and_parts (list_all (is_act_in T) p.acts) _ h.fit).1 in
    each_at (IsFitLeg z) p.legs k (leg.Car []) lt (each_leg T chosen p.acts p.legs legs h.legs)

-- THE SCHEDULE
call_fit : (T : TownRows) (chosen : List PlanRows) (c : StopCall) → is_sound_call T.stops c ≡ true → IsFitCall (counts_of T chosen) c
unfolding is_sound_call
call_fit T chosen c h = record { stop = grind (arith, nat_tests); offset = grind (arith, nat_tests) }

pub some_links : (ends : List (ℕ × ℕ)) (route : List ℕ) → is_way ends route ≡ true → 0 < length route
some_links ends [] h = absurd (cc)
some_links ends (l ∷ route) h = omega arith

-- the line, the links and the calls of a route are there
pub record IsFitLine (z : Counts) (r : RouteRow) : Type 0 where
  pub line : r.line < z.lines
  pub route : IsFitRoute z r.links
  pub calls : All (IsFitCall z) r.calls
  pub few : length r.calls ≤ MAX_CALLS

pub route_fit : (T : TownRows) (chosen : List PlanRows) (r : RouteRow) → is_route (length T.book.lines) (length T.links) (ends_of T.links) T.stops r ≡ true → IsFitLine (counts_of T chosen) r
unfolding are_drivable
route_fit T chosen r h =
    let z = counts_of T chosen in
    record {
      line = grind (arith, nat_tests);
      route = record { some = some_links (ends_of T.links) r.links (grind arith); few = grind (arith, nat_tests); links = below_links z r.links (grind arith) };
      calls = All-from_recursion (IsFitCall z) r.calls (each_tested (IsFitCall z) (is_sound_call T.stops) (call_fit T chosen) r.calls (grind arith));
      few = grind (arith, nat_tests);
    }

run_fit : (T : TownRows) (chosen : List PlanRows) (d : DepartureRow) → Each (IsFitLine (counts_of T chosen)) T.routes → is_departure (length T.routes) d ≡ true → IsFitDeparture (counts_of T chosen) (departure_of T.routes d)
unfolding is_departure
run_fit T chosen d h g =
    let z = counts_of T chosen in
    let r : IsFitLine z (route_at T.routes d.route) = each_at (IsFitLine z) T.routes d.route _ (grind (arith, nat_tests)) h in
    record { second = grind (arith, nat_tests); seats = grind (arith, nat_tests); line = r.line; route = r.route; calls = r.calls; few = r.few }

-- THE SETUP
plan_at : (T : TownRows) (chosen : List PlanRows) (P : PlanRows → Type 0) (i : ℕ) (d : PlanRows) → ((p : PlanRows) → IsPlanIn T p → P p) → All (IsPlanIn T) chosen → i < length chosen → P (get_or chosen i d)
plan_at T chosen P i d f h lt = f (get_or chosen i d) (each_at (IsPlanIn T) chosen i d lt (recursion_from_All (IsPlanIn T) chosen h))

pub setup_fit : (T : TownRows) (chosen : List PlanRows) (k : ℕ) → IsTown T → All (IsPlanIn T) chosen → IsFitSetup (counts_of T chosen) (setup_of T chosen k)
unfolding setup_of
setup_fit T chosen k town plans =
    let z = counts_of T chosen in
    let none : PlanRows = record { acts = []; legs = [] } in
    let routes = each_tested (IsFitLine z) (is_route (length T.book.lines) (length T.links) (ends_of T.links) T.stops) (route_fit T chosen) T.routes town.routes in
    let stops = each_tested (λ (s : StopRow). s.link < length T.links) (is_stop (length T.links)) (λ s e. ltb-true s.link (length T.links) e) T.stops town.stops in
    let runs = each_tested (λ (d : DepartureRow). is_departure (length T.routes) d ≡ true) (is_departure (length T.routes)) (λ d e. e) T.departures town.departures in
    record {
      persons = refl;
      links = refl;
      stops = refl;
      departures = length-map T.departures (departure_of T.routes);
      stop_links = All-from_recursion (IsFitStop z) T.stops stops;
      runs = All-from_recursion (IsFitDeparture z) (map (departure_of T.routes) T.departures)
          (each_map (λ (d : DepartureRow). is_departure (length T.routes) d ≡ true) (IsFitDeparture z) (departure_of T.routes) (λ d e. run_fit T chosen d routes e) T.departures runs);
      acts = λ i element lt. plan_at T chosen (Acts z) i none (plan_acts T chosen) plans lt (element / 2);
      ends = λ i element second lt e. plan_at T chosen Ends i none (plan_ends T) plans lt (element / 2) second e;
      legs = λ i element lt g. plan_at T chosen (Legs z) i none (plan_legs T chosen) plans lt (element / 2) g;
    }

pub has_plans : (T : TownRows) (chosen : List PlanRows) (k : ℕ) → All (IsPlanIn T) chosen → HasPlans (counts_of T chosen) (setup_of T chosen k)
unfolding setup_of
has_plans T chosen k plans = record {
  legs = λ i there. refl;
  one_more = λ i there. plan_at T chosen (λ plan. length plan.acts ≡ length plan.legs + 1) i (record { acts = []; legs = [] }) (λ plan h. h.one_more) plans there;
}

-- TOWNS
pub plans_fit : (T : TownRows) (chosen : List Plan) → All (λ (p : Plan). fits T (plan_rows p) ≡ true) chosen → All (IsPlanIn T) (map plan_rows chosen)
plans_fit T chosen h =
    All-map (IsPlanIn T) plan_rows chosen
    (All-weaker (λ (p : Plan). fits T (plan_rows p) ≡ true) (λ (p : Plan). IsPlanIn T (plan_rows p)) (λ p g. record { one_more = p.one_more; few = p.few; ends = p.ends; legs = p.sound; fit = g }) chosen h)

pub town_fit : (day : DayInput) → ChosenFit day → IsFitSetup (counts_in day) (setup day)
town_fit day h = setup_fit (rows_of day.town.now) (chosen_in day) day.iteration day.town.now.sound (plans_fit (rows_of day.town.now) day.chosen.now h)

pub book_of : (day : DayInput) → length day.town.now.book.persons ≡ length day.chosen.now → IsBookOf (counts_in day) day.town.now.book
book_of day e =
    let town = day.town.now in
    record {
      persons = e ∙ sym (length-map day.chosen.now plan_rows);
      links = ap length town.named.links ∙ town.network.each_link;
      kinds = refl;
      stops = ap length town.named.stops ∙ town.stops.each;
      lines = refl;
      departures = ap length town.named.departures ∙ town.departures.each;
    }

-- a world in which each person is in one place and every row fits the plans and the timetable
pub town_sound_fit : (day : DayInput) (W : World) → ChosenFit day → length day.town.now.book.persons ≡ length day.chosen.now
    → HasItsLinks (setup day) W → OnePlace (setup day) W → Sound (setup day) W → IsFitWorld (counts_in day) W
town_sound_fit day W h e links one sound =
    let T = rows_of day.town.now in
    let plans = plans_fit T day.chosen.now h in
    let count = length-map day.chosen.now plan_rows in
    sound_fit (counts_in day) (setup day) W (town_fit day h) (has_plans T (chosen_in day) day.iteration plans) (omega arith) links one sound
