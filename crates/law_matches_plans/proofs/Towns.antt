-- The setup of a day in a town is sound and consistent, and its days follow the plans.
use Rattle.traffic.proofs.Common.{◌≡◌, ℕ, List, length, refl, [], arith, ◌<◌, ◌≤◌, length-map, All-from_recursion, All-get_or, All-weaker, map, All, PlanRows}
use Rattle.traffic.proofs.{Common.plan_rows, Common.DepartureRow, Common.Setup, Common.Departure, Each.each_map}
use Rattle.town.specs.Rows.{TownRows, IsTown}
use Rattle.town.specs.{Setups.departure_of, Setups.setup_of, Views.rows_of, Views.chosen_in, Views.setup, Views.ChosenFit, declared.day_input.DayInput.DayInput}
use Rattle.law_in_range.{proofs.Towns.plans_fit, specs.Setups.IsPlanIn}
use Rattle.law_matches_plans.proofs.{Days.stuck_last, Plans.AtStops, Plans.plan_sound, Plans.plan_consistent, Schedule.runs, Sound.sound_planned}
use Rattle.law_matches_plans.{proofs.Sound.has_sound_day, specs.Planned.IsToldAsPlanned, specs.Trips.IsPlanned, specs.Trips.legs}
use Rattle.law_sound_setups.specs.Setups.{IsSoundPlan, IsSoundRun, IsSoundSetup}
use Rattle.law_sound_setups.specs.Consistent.{IsConsistentPlan, AreAtStops, IsConsistentSetup}

-- SETUPS
all_plans : (P : PlanRows → Type 0) (T : TownRows) (chosen : List PlanRows) → ((p : PlanRows) → IsPlanIn T p → P p) → All (IsPlanIn T) chosen → All P chosen
all_plans P T chosen f h = All-weaker (IsPlanIn T) P f chosen h

-- what holds of each departure, of its row in the setup
each_run : (S : Setup) (T : TownRows) (P : Departure → Type 0) → AtStops S T.stops → IsTown T → ((d : Departure) → IsSoundRun d × AreAtStops S d.calls → P d) → All P (map (departure_of T.routes) T.departures)
each_run S T P stops town f =
    All-from_recursion P (map (departure_of T.routes) T.departures)
    (each_map (λ (d : DepartureRow). IsSoundRun (departure_of T.routes d) × AreAtStops S (departure_of T.routes d).calls) P (departure_of T.routes) (λ d h. f (departure_of T.routes d) h) T.departures (runs S T stops town.routes town.departures))

at_stops : (T : TownRows) (chosen : List PlanRows) (k : ℕ) → AtStops (setup_of T chosen k) T.stops
unfolding setup_of
at_stops T chosen k = λ n. refl

pub rows_sound : (T : TownRows) (chosen : List PlanRows) (k : ℕ) → IsTown T → All (IsPlanIn T) chosen → IsSoundSetup (setup_of T chosen k)
unfolding setup_of
rows_sound T chosen k town h =
    let S = setup_of T chosen k in
    record {
      persons = all_plans IsSoundPlan T chosen (plan_sound T) h;
      departures = each_run S T IsSoundRun (at_stops T chosen k) town (λ d h. h.0);
    }

pub rows_consistent : (T : TownRows) (chosen : List PlanRows) (k : ℕ) → IsTown T → All (IsPlanIn T) chosen → IsConsistentSetup (setup_of T chosen k)
unfolding setup_of
rows_consistent T chosen k town h =
    let S = setup_of T chosen k in
    let stops = at_stops T chosen k in
    record {
      persons = all_plans (IsConsistentPlan S) T chosen (plan_consistent S T stops) h;
      departures = each_run S T (λ (d : Departure). AreAtStops S d.calls) stops town (λ d h. h.1);
    }

-- PERSONS
few_in : (T : TownRows) (chosen : List PlanRows) (k i : ℕ) → All (IsPlanIn T) chosen → i < length chosen → legs (setup_of T chosen k) i ≤ 8
unfolding setup_of
few_in T chosen k i h lt =
    All-get_or (λ (p : PlanRows). length p.legs ≤ 8) chosen i (record { acts = []; legs = [] }) lt (all_plans (λ (p : PlanRows). length p.legs ≤ 8) T chosen (λ p g. g.few) h)

pub persons_are : (T : TownRows) (chosen : List PlanRows) (k : ℕ) → length (setup_of T chosen k).persons ≡ length chosen
unfolding setup_of
persons_are T chosen k = refl

pub rows_planned : (T : TownRows) (chosen : List PlanRows) (k i : ℕ) → IsTown T → All (IsPlanIn T) chosen → i < length chosen → IsPlanned (setup_of T chosen k) i
rows_planned T chosen k i town h lt = let n = persons_are T chosen k in sound_planned (setup_of T chosen k) i (rows_sound T chosen k town h) (omega arith)

pub rows_told : (T : TownRows) (chosen : List PlanRows) (k i : ℕ) → IsTown T → All (IsPlanIn T) chosen → i < length chosen → IsToldAsPlanned (setup_of T chosen k) i
rows_told T chosen k i town h lt =
    let S = setup_of T chosen k in
    let n = persons_are T chosen k in
    let there : i < length S.persons = omega arith in
    let sound = rows_sound T chosen k town h in
    let d = has_sound_day S i sound (rows_consistent T chosen k town h) there in
    let few = d.1 in
    record { turn = d.0; last = stuck_last S i (sound_planned S i sound there) there; few = few; most = omega (arith, few_in T chosen k i h lt) }

-- TOWNS
pub town_sound : (day : DayInput) → ChosenFit day → IsSoundSetup (setup day)
town_sound day h = rows_sound (rows_of day.town.now) (chosen_in day) day.iteration day.town.now.sound (plans_fit (rows_of day.town.now) day.chosen.now h)

pub town_consistent : (day : DayInput) → ChosenFit day → IsConsistentSetup (setup day)
town_consistent day h = rows_consistent (rows_of day.town.now) (chosen_in day) day.iteration day.town.now.sound (plans_fit (rows_of day.town.now) day.chosen.now h)

pub town_told : (day : DayInput) (i : ℕ) → ChosenFit day → i < length day.chosen.now → IsToldAsPlanned (setup day) i
town_told day i h lt =
    let n = length-map day.chosen.now plan_rows in
    rows_told (rows_of day.town.now) (chosen_in day) day.iteration i day.town.now.sound (plans_fit (rows_of day.town.now) day.chosen.now h) (omega arith)
