-- The departures of a town are sound, and their calls are on the links of their stops.
use Rattle.traffic.proofs.Common.{◌≡◌, ℕ, List, length, refl, [], ◌∷◌, arith, ◌<◌, true, ◌+◌, inl, inr, subst, false, suc, eqb, zero, drop, cases_Bool}
use Rattle.traffic.proofs.Common.{ltb-true, All-from_recursion, All-get_or, list_all, All, nat_lt, nat_eq, StopCall, ends_of, DepartureRow, RouteRow, StopRow}
use Rattle.traffic.proofs.Common.{is_nil, Setup, link_of_stop, from_link, AreServable, nat_tests}
use Rattle.std.specs.List.{AllByRecursion as Each, position_or_len}
use Rattle.rows.specs.Schedules.{are_served, is_sound_call, are_drivable, is_route, is_departure}
use Rattle.town.specs.{Rows.TownRows, Setups.route_at, Setups.departure_of}
use Rattle.law_sound_setups.specs.{Consistent.AreAtStops, Setups.IsSoundRun}
use Rattle.law_in_range.proofs.{Lists.each_tested, Towns.some_links}
use Rattle.law_matches_plans.proofs.Plans.{AtStops}

-- SERVED IN ORDER
from_drop : (l : ℕ) (xs : List ℕ) → drop (position_or_len (nat_eq l) xs) xs ≡ from_link l xs
from_drop l [] = refl
from_drop l (x ∷ xs) =
    let f : eqb l x ≡ eqb x l = grind (arith, nat_tests) in
    let g : 1 + position_or_len (nat_eq l) xs ≡ suc (position_or_len (nat_eq l) xs) = omega arith in
    elim (cases_Bool (eqb x l)) [ inl e ↦ simp (f, e) | inr e ↦ simp (f, e, g) (from_drop l xs) ]

some_left : (k : ℕ) (xs : List ℕ) → k < length xs → is_nil (drop k xs) ≡ false
some_left k [] lt = absurd (omega arith)
some_left zero (x ∷ xs) lt = refl
some_left (suc k) (x ∷ xs) lt = some_left k xs (omega arith)

served_servable : (calls : List StopCall) (links : List ℕ) → are_served calls links ≡ true → AreServable calls links
unfolding are_served
served_servable [] links h = tt
served_servable (c ∷ cs) links h =
    let k = position_or_len (nat_eq c.link) links in
    elim (cases_Bool (nat_lt k (length links))) [
      | inl lt ↦
          let g : are_served cs (drop k links) ≡ true = simp lt at h in
          subst (λ (xs : List ℕ). (is_nil xs ≡ false) × AreServable cs xs) (from_drop c.link links) (some_left k links (ltb-true _ _ lt), served_servable cs (drop k links) g)
      | inr ge ↦ let g : false ≡ true = simp ge at h in absurd (cc)
    ]

-- what a route gives to its departures
record IsRunning (S : Setup) (r : RouteRow) : Type 0 where
  some : 0 < length r.links
  served : AreServable r.calls r.links
  at : AreAtStops S r.calls

call_at_stop : (S : Setup) (stops : List StopRow) → AtStops S stops → (c : StopCall) → is_sound_call stops c ≡ true → link_of_stop S c.stop ≡ c.link
unfolding is_sound_call
call_at_stop S stops s c h = grind (arith, nat_tests, s c.stop)

route_sound : (S : Setup) (T : TownRows) → AtStops S T.stops → (r : RouteRow) → is_route (length T.book.lines) (length T.links) (ends_of T.links) T.stops r ≡ true → IsRunning S r
unfolding are_drivable
route_sound S T s r h =
    record {
      some = some_links (ends_of T.links) r.links (grind arith);
      served = served_servable r.calls r.links (grind arith);
      at = All-from_recursion _ r.calls (each_tested _ (is_sound_call T.stops) (call_at_stop S T.stops s) r.calls (grind arith));
    }

run_of : (S : Setup) (T : TownRows) (d : DepartureRow) → All (IsRunning S) T.routes → is_departure (length T.routes) d ≡ true → IsRunning S (route_at T.routes d.route)
unfolding is_departure
run_of S T d h g = All-get_or (IsRunning S) T.routes d.route _ (grind (arith, nat_tests)) h

-- each departure runs on such a route
pub runs : (S : Setup) (T : TownRows) → AtStops S T.stops → list_all (is_route (length T.book.lines) (length T.links) (ends_of T.links) T.stops) T.routes ≡ true → list_all (is_departure (length T.routes)) T.departures ≡ true →
    Each (λ (d : DepartureRow). IsSoundRun (departure_of T.routes d) × AreAtStops S (departure_of T.routes d).calls) T.departures
runs S T s routes departures =
    let all = All-from_recursion (IsRunning S) T.routes (each_tested (IsRunning S) (is_route (length T.book.lines) (length T.links) (ends_of T.links) T.stops) (route_sound S T s) T.routes routes) in
    each_tested _ (is_departure (length T.routes)) (λ d g. let r = run_of S T d all g in (record { some = r.some; calls = r.served }, r.at)) T.departures departures
