-- A world in which each person is in one place, and whose rows fit the plans and the timetable, is fit.
use Rattle.traffic.proofs.Common.{◌≡◌, ℕ, List, ◌∙◌, length, ap, refl, sym, [], ◌∷◌, arith, ◌<◌, true, ◌+◌, Bool, inl, inr, subst, ◌≤◌, suc, zero, get_or, ◌/◌}
use Rattle.traffic.proofs.Common.{cond, cases_lt, eqb-false, nat_tests, get_or_past, All-from_recursion, All-get_or, recursion_from_All, All-weaker}
use Rattle.traffic.proofs.Common.{sum_by-cons, filter, Some, None, not, All, ◌==◌, count_by, VehicleId, StopCall, PlanRows, Act, Leg, Transit, Car, Teleport}
use Rattle.traffic.proofs.Common.{World, person_of, nobody, Setup, act_after, leg_at, person_plan, departure, VehicleState, listed, IsListed, IsSoundPerson}
use Rattle.traffic.proofs.Common.{listed_in, HasLeg, IsOwn, OnePlace, IsAlong, Sound, HasRiders, IsSoundRow}
use Rattle.traffic.{proofs.Each.each_filter, specs.Worlds.IsFrom, specs.Worlds.IsOnLine, specs.Worlds.leg_of, specs.declared.riders.Rider.Rider}
use Rattle.traffic.specs.declared.world.{Place.Place, Place.TheVariants.At, Place.TheVariants.Waiting, Place.TheVariants.Riding, Row.Row}
use Rattle.std.proofs.lemmas.List.{Filters.length-filter_both, Sums.get_or-le-sum_by, Sums.length-filter}
use Rattle.std.specs.List.{AllByRecursion as Each}
use Rattle.limits.specs.declared.TheConstants.{LAST_SECOND, MAX_CALLS, MAX_SEATS, MAX_PERSONS}
use Rattle.events.specs.declared.event.VehicleId.TheVariants as vehicle
use Rattle.law_in_range.specs.Rows.{Counts, IsFitId, IsFitLine, IsFitLink, IsFitCall, IsFitRow, IsFitPlace, IsFitPerson, IsFitWorld}
use Rattle.law_in_range.specs.Setups.{IsFitRoute, IsFitDeparture, IsFitLeg, IsFitSetup, HasPlans, HasItsLinks}

-- COUNTING
-- how often person i is among riders
abbrev times : ℕ → List Rider → ℕ
times i xs = count_by (λ (x : Rider). x.person == i) xs

times-cons : (i : ℕ) (x : Rider) (xs : List Rider) → times i (x ∷ xs) ≡ cond (x.person == i) 1 0 + times i xs
times-cons i x xs = sum_by-cons (λ (y : Rider). cond (y.person == i) 1 0) x xs

one_less : (p : Rider → Bool) (i : ℕ) (xs : List Rider) → times i (filter p xs) ≤ times i xs
one_less p i [] = omega arith
one_less p i (x ∷ xs) = grind (arith, times-cons i x xs, times-cons i x (filter p xs), one_less p i xs)

-- persons below n, each of whom is there at most once, are at most n
few_persons : (n : ℕ) (xs : List Rider) → Each (λ (x : Rider). x.person < n) xs → ((i : ℕ) → i < n → times i xs ≤ 1) → length xs ≤ n
few_persons n [] below once = omega arith
few_persons zero (x ∷ xs) below once = absurd (omega (arith, below.0))
few_persons (suc n) (x ∷ xs) below once =
    let is : Rider → Bool = λ y. y.person == n in
    let other : Rider → Bool = λ y. not (y.person == n) in
    let all = x ∷ xs in
    let rest = each_filter (λ (y : Rider). y.person < suc n) (λ (y : Rider). y.person < n) other (λ y e h. lower y.person n e h) all below in
    let fewer = few_persons n (filter other all) rest (λ i less. omega (arith, one_less other i all, once i (omega arith))) in
    omega (arith, length-filter_both is other (λ y. refl) all, length-filter is all, once n (omega arith), fewer)
  where
    lower : (m n : ℕ) → not (m == n) ≡ true → m < suc n → m < n
    lower m n e h = grind (arith, nat_tests)

-- PERSONS
from_fit : (z : Counts) (stop : ℕ) (w : Leg) → IsFitLeg z w → IsFrom stop w → stop < z.stops
from_fit z stop (Transit line access egress) fit from = subst (λ (s : ℕ). s < z.stops) from fit
from_fit z stop _ fit from = absurd from

place_fit : (z : Counts) (S : Setup) (i element : ℕ) (pl : Place) → IsFitSetup z S → HasPlans z S → i < z.persons → IsSoundPerson S i element pl → IsFitPlace z i element pl
place_fit z S i element (At None) fit plans there sound = tt
place_fit z S i element (At (Some end)) fit plans there sound =
    omega (arith, plans.one_more i there, eqb-false (element / 2 + 1) (length (person_plan S i).acts) sound.1)
place_fit z S i element (Waiting stop since) fit plans there sound =
    from_fit z stop (leg_at S i element) (fit.legs i element there (omega (arith, plans.legs i there))) sound.1
place_fit z S i element _ fit plans there sound = tt

person_fit : (z : Counts) (S : Setup) (W : World) (i : ℕ) → IsFitSetup z S → HasPlans z S → OnePlace S W → Sound S W → IsFitPerson z i (person_of i W)
person_fit z S W i fit plans one sound =
    elim (cases_lt i (length S.persons)) [
      | inl there ↦ let count = fit.persons in place_fit z S i (person_of i W).element (person_of i W).place fit plans (omega arith) (sound.persons i there)
      | inr past ↦ let rows = one.one_row in subst (IsFitPerson z i) (sym (get_or_past W.persons i nobody (omega arith))) tt
    ]

-- RIDERS
-- the leg of who is not there is none
no_plan : (S : Setup) (i element : ℕ) → length S.persons ≤ i → leg_at S i element ≡ Car []
no_plan S i element past = ap (λ (plan : PlanRows). get_or plan.legs (element / 2) (Car [])) (get_or_past S.persons i (record { acts = []; legs = [] }) past)

on_line_there : (S : Setup) (v : VehicleState) (i element : ℕ) → IsOnLine v (leg_at S i element) → i < length S.persons
on_line_there S v i element on =
    elim (cases_lt i (length S.persons)) [ inl there ↦ there | inr past ↦ absurd (subst (IsOnLine v) (no_plan S i element past) on) ]

kind_of_leg : (r : Rider) (w : Leg) (next : Act) → HasLeg r w next → r.kind ≡ next.kind
kind_of_leg r (Teleport mode seconds) next h = absurd h
kind_of_leg r _ next h = h.1

-- each rider is there
riders_there : (S : Setup) (W : World) (v : VehicleState) (id : VehicleId) → IsOwn S v id → HasRiders S W v id → All (λ (x : Rider). x.person < length S.persons) v.riders
riders_there S W v (vehicle.Car i) own riders = All-weaker (λ (x : Rider). x.person ≡ i) (λ (x : Rider). x.person < length S.persons) (λ x same. let there = own.there in omega arith) v.riders riders.1
riders_there S W v (vehicle.Transit d) own riders =
    All-weaker (λ (x : Rider). IsOnLine v (leg_of S W x.person)) (λ (x : Rider). x.person < length S.persons) (λ x on. on_line_there S v x.person (person_of x.person W).element on) v.riders riders

-- who is listed is on a leg of his plan
listed_leg : (S : Setup) (i element : ℕ) (rows : List Row) (pl : Place) → IsListed i rows pl → 1 ≤ listed i rows → IsSoundPerson S i element pl → element / 2 < length (person_plan S i).legs
listed_leg S i element rows (Riding v) is some sound = sound.0.1
listed_leg S i element rows _ is some sound = absurd (omega arith)

listed_once : (i : ℕ) (rows : List Row) (pl : Place) → IsListed i rows pl → listed i rows ≤ 1
listed_once i rows (Riding v) is = omega arith
listed_once i rows _ is = omega arith

one_rider : (i : ℕ) (xs : List Rider) → length xs ≡ 1 → All (λ (x : Rider). x.person ≡ i) xs → times i xs ≡ 1
one_rider i xs one all = by xs one (recursion_from_All (λ (x : Rider). x.person ≡ i) xs all)
  where
    by : (xs : List Rider) → length xs ≡ 1 → Each (λ (x : Rider). x.person ≡ i) xs → times i xs ≡ 1
    by (x ∷ []) one all = grind (arith, nat_tests, times-cons i x [], all.0)
    by _ one all = absurd (omega arith)

-- VEHICLES
along_fit : (z : Counts) (route : List ℕ) (w : Leg) → IsAlong route w → IsFitLeg z w → IsFitRoute z route
along_fit z route (Car links) along fit = subst (IsFitRoute z) along fit
along_fit z route _ along fit = absurd along

-- what is known of a vehicle by what it is of
record IsFitOwn (z : Counts) (v : VehicleState) : Type 0 where
  id : IsFitId z v.id
  line : IsFitLine z v.id v.line
  route : IsFitRoute z v.route
  calls : All (IsFitCall z) v.calls
  few_calls : length v.calls ≤ MAX_CALLS
  served : v.served ≤ length v.calls
  seats : v.seats ≤ MAX_SEATS
  departed : v.departed ≤ LAST_SECOND

own_fit : (z : Counts) (S : Setup) (W : World) (v : VehicleState) (id : VehicleId) → v.id ≡ id → IsFitSetup z S → HasPlans z S → OnePlace S W → Sound S W → IsOwn S v id → HasRiders S W v id
    → ((i : ℕ) → count_by (λ (x : Rider). x.person == i) v.riders ≤ listed i W.rows) → IsFitOwn z v
own_fit z S W v (vehicle.Car i) is fit plans one sound own riders counted =
    let none : length v.calls ≡ 0 = ap (λ (l : List StopCall). length l) own.calls in
    let served = own.served in
    let seats = own.seats in
    let departed = own.departed in
    let there = own.there in
    let rides = one_rider i v.riders riders.0 riders.1 in
    let leg = listed_leg S i (person_of i W).element W.rows (person_of i W).place (one.one_place i there) (omega (arith, counted i)) (sound.persons i there) in
    let count = plans.legs i (omega arith) in
    record {
      id = subst (IsFitId z) (sym is) (omega arith);
      line = subst (λ (k : VehicleId). IsFitLine z k v.line) (sym is) tt;
      route = along_fit z v.route (leg_of S W i) riders.2 (fit.legs i (person_of i W).element (omega arith) (omega arith));
      calls = subst (All (IsFitCall z)) (sym own.calls) (All-from_recursion (IsFitCall z) [] tt);
      few_calls = omega arith;
      served = omega arith;
      seats = omega arith;
      departed = omega arith;
    }
own_fit z S W v (vehicle.Transit d) is fit plans one sound own riders counted =
    let run : IsFitDeparture z (departure S d) = All-get_or (IsFitDeparture z) S.departures d _ own.there fit.runs in
    let calls : length v.calls ≡ length (departure S d).calls = ap (λ (l : List StopCall). length l) own.calls in
    let seats = run.seats in
    let line = run.line in
    let on_line : v.line < z.lines = omega arith in
    record {
      id = subst (IsFitId z) (sym is) (omega arith);
      line = subst (λ (k : VehicleId). IsFitLine z k v.line) (sym is) on_line;
      route = subst (IsFitRoute z) (sym own.route) run.route;
      calls = subst (All (IsFitCall z)) (sym own.calls) run.calls;
      few_calls = omega arith;
      served = own.served;
      seats = omega arith;
      departed = omega arith;
    }

row_fit : (z : Counts) (S : Setup) (W : World) (r : Row) → IsFitSetup z S → HasPlans z S → OnePlace S W → Sound S W → z.persons ≤ MAX_PERSONS → IsSoundRow S W r → ((i : ℕ) → listed_in i r ≤ listed i W.rows) → IsFitRow z r
row_fit z S W r fit plans one sound few row counted =
    let v = r.vehicle in
    let own = own_fit z S W v v.id refl fit plans one sound row.own row.riders counted in
    let there = riders_there S W v v.id row.own row.riders in
    let few_riders = few_persons (length S.persons) v.riders (recursion_from_All (λ (x : Rider). x.person < length S.persons) v.riders there)
    (λ i less. omega (arith, counted i, listed_once i W.rows (person_of i W).place (one.one_place i less))) in
    let IsThere : Rider → Type 0 = λ x. x.person < length S.persons in
    let HasItsLeg : Rider → Type 0 = λ x. HasLeg x (leg_of S W x.person) (act_after S x.person (person_of x.person W).element) in
    record {
      vehicle = record {
        id = own.id;
        line = own.line;
        route = own.route.links;
        few_links = own.route.few;
        place = row.place;
        riders = λ k d less.
            let x = get_or v.riders k d in
            let here : IsThere x = there k d less in
            let kind = kind_of_leg x (leg_of S W x.person) (act_after S x.person (person_of x.person W).element) (row.legs k d less) in
            let stay = (fit.acts x.person ((person_of x.person W).element + 2) (omega arith)).kind in
            record { person = omega arith; kind = omega arith };
        few_riders = omega arith;
        calls = own.calls;
        few_calls = own.few_calls;
        served = own.served;
        seats = own.seats;
        departed = own.departed;
      };
      link = subst (IsFitLink z) (sym row.link) (All-get_or (IsFitLink z) v.route v.place 0 row.place own.route.links);
      stage = row.stage;
    }

-- THE WORLD
pub sound_fit : (z : Counts) (S : Setup) (W : World) → IsFitSetup z S → HasPlans z S → z.persons ≤ MAX_PERSONS → HasItsLinks S W → OnePlace S W → Sound S W → IsFitWorld z W
sound_fit z S W fit plans few links one sound =
    record {
      rows = λ k d less. row_fit z S W (get_or W.rows k d) fit plans one sound few (sound.rows k d less) (λ i. get_or-le-sum_by (listed_in i) W.rows k d less);
      persons = λ i. person_fit z S W i fit plans one sound;
      one_each = one.one_row ∙ fit.persons;
      credits = links.credits ∙ fit.links;
      holes = subst (λ (n : ℕ). All (λ h. h.link < n) W.holes) fit.links links.holes;
    }
