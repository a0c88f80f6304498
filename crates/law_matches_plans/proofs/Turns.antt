-- Each move of a turn does its part to one person, in the world that the moves before it left.
use Rattle.traffic.proofs.Common.{◌≡◌, ℕ, List, ◌∙◌, length, ap, refl, sym, [], ◌∷◌, arith, ◌<◌, true, ◌++◌, ◌+◌, Bool, inl, inr, subst, ◌≤◌, false, eqb, ◌-◌}
use Rattle.traffic.proofs.Common.{append_assoc, ◌/◌, ◌⊎◌, ◌*◌, slice_get, cases_Bool, eqb-true, and_parts, cases_lt, ltb-true, All-append, All-map}
use Rattle.traffic.proofs.Common.{All-from_recursion, filter-append, All-nil, All-cons, All-filter, sum_by-le-sum_by, sum_by-cons, flat_map, map, Some, None}
use Rattle.traffic.proofs.Common.{not, if◌then◌else◌, All, nat_lt, ◌==◌, Mode, VehicleId, StopCall, Act, Leg, Transit, Car, Teleport, link_turns, node_turns}
use Rattle.traffic.proofs.Common.{landing_turns, leaving_turns, departure_turns, waiting, buffered, is_last, numbers, without, run, done, told}
use Rattle.traffic.proofs.Common.{person_after_all, person_after, rows_after, entered, waiter, sets_out, waits_on, transit_vehicle, departs, waiters}
use Rattle.traffic.proofs.Common.{same_vehicle, lands, mode_of_leg, is_person, World, person_of, at, on, Setup, act_after, leg_at, act_at, link_of_stop}
use Rattle.traffic.proofs.Common.{departure, served_row, next_call, alighting, rider, calls_on, staying, served_vehicle, boarding, riders_after, alights}
use Rattle.traffic.proofs.Common.{of_rider, mode_in, arrives, serves, strands, aborts, of_person, VehicleState, listed, IsListed, listed_in}
use Rattle.traffic.proofs.Each.{each_all, each_if, each_flat, each_number, each_boarding}
use Rattle.traffic.proofs.{LeftBehind.serving_stage, LinkWalk.LinkCases, LinkWalk.link_walk, Moments.Along, Moments.along_both, Moments.along_given}
use Rattle.traffic.proofs.{Moments.held_along, NodeWalk.NodeCases, NodeWalk.node_walk, Sublists.at_such, Sublists.person-done, Sublists.persons-length}
use Rattle.traffic.proofs.Waiting.{boarded-are, gone_calm, pass_calm, serve_calm}
use Rattle.traffic.{proofs.Walks.flight_walk, proofs.Walks.leave_walk, proofs.Walks.departure_walk, specs.declared.moves.Move.Move}
use Rattle.traffic.specs.declared.moves.Move.TheVariants.{Transfer, Remove, Enter, SetFrontSince, Credit, LeaveHole, Report}
use Rattle.traffic.specs.declared.{moves.Occurrence.Occurrence, stage.Stage.Stage, stage.Stage.TheVariants.Buffer, stage.Stage.TheVariants.Bay}
use Rattle.traffic.specs.declared.world.{Person.Person, Place.Place, Place.TheVariants.At, Place.TheVariants.Teleporting, Place.TheVariants.Waiting}
use Rattle.traffic.specs.declared.world.{Place.TheVariants.Riding, Place.TheVariants.Aborted, Row.Row, Waiter.Waiter}
use Rattle.std.{proofs.lemmas.List.length-append, specs.List.AllByRecursion as Each}
use Rattle.events.specs.declared.event.Mode.TheVariants as mode
use Rattle.events.specs.declared.event.More.TheVariants as more
use Rattle.events.specs.declared.event.VehicleId.TheVariants as vehicle
use Rattle.events.specs.declared.event.Word.TheVariants as word
use Rattle.law_one_place.proofs.Boarding.{IsInLine, in_line, board_few, as_riders, riders_are, served_are, waits_few, line_one, waiters_in_line}
use Rattle.law_one_place.proofs.Places.{vehicles, stands, after_move, listed_once, weight, weight-without, weighed, IsTaken, took, brought, rides, rides_in}
use Rattle.law_one_place.proofs.Places.{counted, listed-rows_of, listed_part, InOne, among_riders, rides_few}
use Rattle.law_one_place.proofs.Turns.{place_of, told_front, told_end, nodes_keep, links_keep}
use Rattle.events.specs.Persons.{names}
use Rattle.law_matches_plans.proofs.Events.{IsPlan, IsCalm, worth, worth_at, IsLast, Stops, stops_last, calm, stuck_count, stuck_place, own, told_steps}
use Rattle.law_matches_plans.proofs.Events.{steps_append, IsFit, Goes, Does, goes_append, after_own, car_worth, half_two, does_nil, goes_less, IsFitAt}
use Rattle.law_matches_plans.proofs.Events.{lands_does, departs_does, waits_does, enters_car, IsIn, kind_next, AreRight, wrong, wrong_few, all_right}
use Rattle.law_matches_plans.proofs.Events.{count_cons, IsWaiting, IsRight, none_wrong, change_element, riders_change, arrives_does, nobody_arrives, front_does}
use Rattle.law_matches_plans.proofs.Events.{put_front, gone_front, riders_stuck, none_after}
use Rattle.law_matches_plans.specs.Trips.{Places, act, leg, legs}

-- what the cars of person i are worth, and how many calls cars have
abbrev pub cars : ℕ → VehicleState → ℕ
cars i v = car_worth i v.id v.started

abbrev pub calls_of_car : VehicleId → List StopCall → ℕ
calls_of_car (vehicle.Car j) calls = length calls
calls_of_car (vehicle.Transit d) calls = 0

abbrev pub strays : VehicleState → ℕ
strays v = calls_of_car v.id v.calls

-- how many riders are the person and go to an activity of another kind
abbrev pub wrongs : ℕ → ℕ → VehicleState → ℕ
wrongs i K v = wrong i K v.riders

-- 1 for a car of the person in which he does not ride
abbrev pub lone_of : ℕ → VehicleId → ℕ → ℕ
lone_of i (vehicle.Car j) n = if j == i then 1 - n else 0
lone_of i (vehicle.Transit d) n = 0

abbrev pub lone : ℕ → VehicleState → ℕ
lone i v = lone_of i v.id (rides i v)

-- in this world no car has a call, whoever rides goes to the activity after his leg, and the element of the person fits his place
pub record IsSane (S : Setup) (i : ℕ) (W : World) : Type 0 where
  pub calls : weight strays W.rows ≡ 0
  pub drivers : weight (lone i) W.rows ≡ 0
  pub kinds : weight (wrongs i (kind_next S i (person_of i W))) W.rows ≡ 0
  pub fit : IsFit S i (person_of i W)

-- ONE MOVE
-- after it nobody lists the person, or he is on the same leg and no rider is wrong who was not
abbrev pub KeepsKinds : Setup → ℕ → ℕ → World → Move → Type 0
KeepsKinds S t i W m =
    (listed i W.rows + brought (rides i) m ≡ took (rides i) m)
    ⊎ (((after_move S t i m W).element / 2 ≡ (person_of i W).element / 2) × (brought (wrongs i (kind_next S i (person_of i W))) m ≤ took (wrongs i (kind_next S i (person_of i W))) m))

-- how many events of him may follow in this world
abbrev pub spare : Setup → ℕ → World → ℕ
spare S i W = worth S i (person_of i W) + weight (cars i) W.rows

-- it takes what it says, and what it tells does its part to person i
pub record Good (A : Places) (S : Setup) (t i : ℕ) (W : World) (m : Move) : Type 0 where
  pub taken : IsTaken m W
  pub there : i < length W.persons
  pub calls : brought strays m ≤ took strays m
  pub drivers : IsSane S i W → brought (lone i) m ≤ took (lone i) m
  pub stops : IsSane S i W → Stops i (told m) (spare S i (done S t m W))
  pub kinds : IsSane S i W → KeepsKinds S t i W m
  pub does : IsSane S i W → Does A S t i (person_of i W) (own i (told m)) (took (cars i) m) (brought (cars i) m)

-- a move that is nothing to him
quiet_good : (A : Places) (S : Setup) (t i : ℕ) (W : World) (m : Move) → IsTaken m W → i < length W.persons → own i (told m) ≡ [] → brought strays m ≤ took strays m → brought (lone i) m ≤ took (lone i) m → brought (cars i) m ≤ took (cars i) m →
    ((kind : ℕ) → brought (wrongs i kind) m ≤ took (wrongs i kind) m) → Each IsCalm (told m) → Good A S t i W m
quiet_good A S t i W m taken lt nil a b c d calm =
    let P = person_of i W in
    record {
      taken = taken;
      there = lt;
      calls = a;
      drivers = λ sane. b;
      stops = λ sane. inl calm;
      kinds = λ sane. inr (ap (λ (x : Person). x.element / 2) (after_own S t i (told m) P ∙ ap (λ (es : List Occurrence). person_after_all S t i es P) nil), d (kind_next S i P));
      does = λ sane. rw nil (does_nil A S t i P _ _ sane.fit c);
    }

-- from world to world by these events
abbrev pub Passes : Places → Setup → ℕ → World → World → List Occurrence → Type 0
Passes A S i W V es =
    Goes A S i (person_of i W) (person_of i V) (told_steps (own i es)) (length (own i es)) (weight (cars i) W.rows) (weight (cars i) V.rows)
    × ((ys : List Occurrence) → length ys ≤ spare S i V → IsLast ys → IsLast (own i es ++ ys))

move_passes : (A : Places) (S : Setup) (t i : ℕ) (m : Move) (W : World) → Good A S t i W m → IsSane S i W → Passes A S i W (done S t m W) (told m)
move_passes A S t i m W g s =
    let d = g.does s in
    let w : weight (cars i) (rows_after m W.rows) + took (cars i) m ≡ weight (cars i) W.rows + brought (cars i) m = weighed (cars i) m W g.taken in (
      rw (person-done S t i m W g.there ∙ after_own S t i (told m) (person_of i W))
          (record { leads = d.leads; cost = omega arith; fit = d.fit }),
      λ ys le h. stops_last i (spare S i (done S t m W)) (told m) ys (g.stops s) le h,
    )

kinds_keep : (S : Setup) (t i : ℕ) (m : Move) (W : World) → IsTaken m W → IsSane S i W → KeepsKinds S t i W m → weight (wrongs i (kind_next S i (after_move S t i m W))) (rows_after m W.rows) ≡ 0
kinds_keep S t i m W taken s (inl a) =
    let w : weight (rides i) (rows_after m W.rows) + took (rides i) m ≡ listed i W.rows + brought (rides i) m = weighed (rides i) m W taken in
    let K = kind_next S i (after_move S t i m W) in
    omega (arith, sum_by-le-sum_by (λ (r : Row). wrongs i K r.vehicle) (listed_in i) (rows_after m W.rows) (λ r. wrong_few i K r.vehicle.riders))
kinds_keep S t i m W taken s (inr b) =
    let K = kind_next S i (person_of i W) in
    let none : weight (wrongs i K) (rows_after m W.rows) ≡ 0 = omega (arith, weighed (wrongs i K) m W taken) in
    subst (λ (k : ℕ). weight (wrongs i (act S i (k + 1)).kind) (rows_after m W.rows) ≡ 0) (sym b.0) none

move_sane : (A : Places) (S : Setup) (t i : ℕ) (m : Move) (W : World) → Good A S t i W m → IsSane S i W → IsSane S i (done S t m W)
move_sane A S t i m W g s =
    let w : weight strays (rows_after m W.rows) + took strays m ≡ weight strays W.rows + brought strays m = weighed strays m W g.taken in
    let w2 : weight (lone i) (rows_after m W.rows) + took (lone i) m ≡ weight (lone i) W.rows + brought (lone i) m = weighed (lone i) m W g.taken in
    let c2 = g.drivers s in
    record { calls = omega arith; kinds = rw (person-done S t i m W g.there) (kinds_keep S t i m W g.taken s (g.kinds s)); drivers = omega arith; fit = (move_passes A S t i m W g s).0.fit }

pub passes_append : (A : Places) (S : Setup) (i : ℕ) (W V U : World) (xs ys : List Occurrence) → Passes A S i W V xs → Passes A S i V U ys → Passes A S i W U (xs ++ ys)
passes_append A S i W V U xs ys f g =
    let split = filter-append (λ (e : Occurrence). names i e.person) xs ys in (
      rw (split, steps_append (own i xs) (own i ys), length-append (own i xs) (own i ys))
          (goes_append A S i (person_of i W) (person_of i V) (person_of i U) (told_steps (own i xs)) (told_steps (own i ys)) (length (own i xs)) (length (own i ys)) _ _ _ f.0 g.0),
      λ zs le h. let all : length (own i ys ++ zs) ≡ length (own i ys) + length zs = length-append (own i ys) zs in
          rw (split, append_assoc (own i xs) (own i ys) zs) (f.1 (own i ys ++ zs) (omega arith) (g.1 zs le h)),
    )

pub passes_none : (A : Places) (S : Setup) (i : ℕ) (W : World) → IsSane S i W → Passes A S i W W []
passes_none A S i W s = (record { leads = λ es h. h; cost = omega arith; fit = s.fit }, λ ys le h. h)

-- MOVES ONE AFTER THE OTHER
pub moves_pass : (A : Places) (S : Setup) (t i : ℕ) (ms : List Move) (W : World) → Along (Good A S t i) S t ms W → IsSane S i W → Passes A S i W (run S t ms W) (flat_map told ms) × IsSane S i (run S t ms W)
moves_pass A S t i [] W h s = (passes_none A S i W s, s)
moves_pass A S t i (m ∷ ms) W h s =
    let V = done S t m W in
    let y = moves_pass A S t i ms V h.1 (move_sane A S t i m W h.0 s) in (passes_append A S i W V (run S t ms V) (told m) (flat_map told ms) (move_passes A S t i m W h.0 s) y.0, y.1)

-- WHAT A ROW SAYS OF ITS RIDERS
same_mode : (v u : VehicleId) → same_vehicle v u ≡ true → mode_in v ≡ mode_in u
same_mode (vehicle.Car i) (vehicle.Car j) h = refl
same_mode (vehicle.Transit d) (vehicle.Transit e) h = refl
same_mode _ _ h = absurd (cc)

in_row : (i l : ℕ) (s : Stage) (k : ℕ) (v : VehicleState) (W : World) (pl : Place) → slice_get (vehicles l s W) k ≡ Some v → IsListed i W.rows pl → 1 ≤ rides i v → IsIn v.id pl
in_row i l s k v W (Riding u) stands h one =
    let rest = without (on l s) k W.rows in
    let a : weight (rides i) rest + rides i v ≡ listed i W.rows = weight-without (rides i) (on l s) k v W.rows stands in
    let b : weight (rides_in u i) rest + counted v.id u (rides i v) ≡ weight (rides_in u i) W.rows = weight-without (rides_in u i) (on l s) k v W.rows stands in
    let c = listed-rows_of u i W.rows in
    let d = listed-rows_of u i rest in
    elim (cases_Bool (same_vehicle v.id u)) [
      | inl q ↦ same_mode v.id u q
      | inr q ↦ let z : counted v.id u (rides i v) ≡ 0 = ap (λ (b : Bool). if b then rides i v else 0) q in absurd (omega (arith, listed_part u i rest))
    ]
in_row i l s k v W _ stands h one = absurd (omega (arith, weight-without (rides i) (on l s) k v W.rows stands))

-- who rides in a row that is taken is in a vehicle of its mode
pub rides_here : (i l : ℕ) (s : Stage) (k : ℕ) (v : VehicleState) (W : World) → slice_get (vehicles l s W) k ≡ Some v → InOne i W → 1 ≤ rides i v → IsIn v.id (person_of i W).place
rides_here i l s k v W stands h one = in_row i l s k v W (person_of i W).place stands h.listed one

-- and then nobody else lists him
pub listed_here : (i l : ℕ) (s : Stage) (k : ℕ) (v : VehicleState) (W : World) → slice_get (vehicles l s W) k ≡ Some v → InOne i W → 1 ≤ rides i v → listed i W.rows ≡ rides i v
listed_here i l s k v W stands h one = omega (arith, weight-without (rides i) (on l s) k v W.rows stands, listed_once i W.rows (person_of i W).place h.listed)

-- a row that is taken has no wrong rider
pub right_here : (S : Setup) (i l : ℕ) (s : Stage) (k : ℕ) (v : VehicleState) (W : World) → slice_get (vehicles l s W) k ≡ Some v → IsSane S i W → AreRight S i (person_of i W) v.riders
right_here S i l s k v W stands h =
    let K = kind_next S i (person_of i W) in
    all_right i K v.riders (omega (arith, weight-without (wrongs i K) (on l s) k v W.rows stands))

-- no car tells of him where nobody lists him
car_few : (i : ℕ) (id : VehicleId) (b : Bool) (n : ℕ) → car_worth i id b ≤ 2 * (n + lone_of i id n)
car_few i (vehicle.Car j) b n = grind arith
car_few i (vehicle.Transit d) b n = omega arith

pub cars_none : (i : ℕ) (rows : List Row) → listed i rows ≡ 0 → weight (lone i) rows ≡ 0 → weight (cars i) rows ≡ 0
cars_none i [] h g = refl
cars_none i (r ∷ rs) h g =
    let v = r.vehicle in
    let lones = sum_by-cons (λ (x : Row). lone i x.vehicle) r rs in
    omega (arith, sum_by-cons (listed_in i) r rs, lones, sum_by-cons (λ (x : Row). cars i x.vehicle) r rs, car_few i v.id v.started (rides i v), cars_none i rs)

lone_pt : (i : ℕ) (id : VehicleId) (n : ℕ) → mode_in id ≡ mode.Pt → lone_of i id n ≡ 0
lone_pt i (vehicle.Car j) n h = absurd (cc)
lone_pt i (vehicle.Transit d) n h = refl

-- a vehicle with calls is none of a car
calls_mode : (id : VehicleId) (calls : List StopCall) (served : ℕ) → calls_of_car id calls ≡ 0 → nat_lt served (length calls) ≡ true → mode_in id ≡ mode.Pt
calls_mode (vehicle.Car j) calls served h q = let lt = ltb-true served (length calls) q in absurd (omega arith)
calls_mode (vehicle.Transit d) calls served h q = refl

pub serves_pt : (S : Setup) (i l a : ℕ) (s : Stage) (k : ℕ) (v : VehicleState) (W : World) → slice_get (vehicles a s W) k ≡ Some v → IsSane S i W → calls_on l v ≡ true → mode_in v.id ≡ mode.Pt
serves_pt S i l a s k v W stands h q = calls_mode v.id v.calls v.served (omega (arith, weight-without strays (on a s) k v W.rows stands)) (and_parts _ _ q).0

-- WHO WAITS
-- who is among these waits at a stop, and goes to the activity after his leg
abbrev IsDue : ℕ → ℕ → Waiter → Type 0
IsDue i K w = eqb w.person i ≡ true → w.kind ≡ K

abbrev Lined : Setup → ℕ → List Waiter → Person → Type 0
Lined S i ws P = 1 ≤ in_line i ws → IsWaiting P.place × Each (IsDue i (kind_next S i P)) ws

-- those who board, as riders
board_right : (i K : ℕ) (v : VehicleState) (ws : List Waiter) → Each (IsDue i K) ws → All (IsRight i K) (map rider (boarding v ws))
board_right i K v ws h = All-map (IsRight i K) rider _ (All-from_recursion (IsDue i K) _ (each_boarding (IsDue i K) (IsDue i K) v (λ w q g. g) ws h))

none_due : (i K : ℕ) (ws : List Waiter) → in_line i ws ≡ 0 → Each (IsDue i K) ws
none_due i K [] h = tt
none_due i K (w ∷ ws) h =
    let c = count_cons (is_person i) w ws in ((λ e. grind arith), none_due i K ws (grind arith))

waits_here : (S : Setup) (l j i : ℕ) (w : Leg) (next : Act) (pl : Place) → 1 ≤ in_line i (waits_on S l j w next pl) → IsWaiting pl
waits_here S l j i w next (Waiting stop since) h = tt
waits_here S l j i w next _ h = absurd (omega arith)

waiter_due : (S : Setup) (l j i K : ℕ) (w : Leg) (next : Act) (pl : Place) → (eqb j i ≡ true → next.kind ≡ K) → Each (IsDue i K) (waits_on S l j w next pl)
waiter_due S l j i K (Transit line access egress) next (Waiting stop since) h = each_if (IsDue i K) (eqb (link_of_stop S stop) l) _ _ (h, tt) tt
waiter_due S l j i K w next (Waiting stop since) h = each_if (IsDue i K) (eqb (link_of_stop S stop) l) _ _ tt tt
waiter_due S l j i K w next _ h = tt

next_act : (S : Setup) (i j : ℕ) (W : World) → j ≡ i → act_after S j (person_of j W).element ≡ act S i ((person_of i W).element / 2 + 1)
next_act S i j W e = ap (λ (k : ℕ). act_after S k (person_of k W).element) e ∙ ap (act S i) (half_two (person_of i W).element)

next_kind : (S : Setup) (i j : ℕ) (W : World) → j ≡ i → (act_after S j (person_of j W).element).kind ≡ kind_next S i (person_of i W)
next_kind S i j W e = ap (λ (s : Act). s.kind) (next_act S i j W e)

waiters_due : (S : Setup) (l i : ℕ) (W : World) → Each (IsDue i (kind_next S i (person_of i W))) (waiters S l W)
unfolding waiters
waiters_due S l i W =
    let n = length W.persons in
    each_flat (λ j. j < n) (IsDue i (kind_next S i (person_of i W))) (λ (j : ℕ). waiter S l j (person_of j W))
    (λ j lt. let P = person_of j W in waiter_due S l j i _ (leg_at S j P.element) (act_after S j P.element) P.place (λ q. next_kind S i j W (eqb-true j i q))) (numbers 0 n) (each_number n 0 n (omega arith))

waiters_lined : (S : Setup) (l i : ℕ) (W : World) → Lined S i (waiters S l W) (person_of i W)
unfolding waiters
waiters_lined S l i W =
    let f = λ (j : ℕ). waiter S l j (person_of j W) in
    let few : (j : ℕ) → in_line i (f j) ≤ (if j == i then 1 else 0) = λ j. waits_few S l j i (leg_at S j (person_of j W).element) (act_after S j (person_of j W).element) (person_of j W).place in
    let a = line_one f i few 0 (length W.persons) in
    let P = person_of i W in λ h. (waits_here S l i i (leg_at S i P.element) (act_after S i P.element) P.place (omega arith), waiters_due S l i W)

-- WHO ALIGHTS
-- where person i, whose leg is this element of his plan, alights from this vehicle on link l, his next activity may name that link
abbrev pub AlightsAt : Places → ℕ → ℕ → ℕ → VehicleState → Type 0
AlightsAt A i l element v =
    (calls_on l v ≡ true → 1 ≤ among_riders i (alighting (next_call v).stop v.riders) → A (element / 2 + 1) (Some l))
    × (calls_on l v ≡ false → is_last v ≡ true → 1 ≤ among_riders i v.riders → A (element / 2 + 1) (Some l))

-- the same of each row of a world
abbrev pub MayAlight : Places → ℕ → World → Type 0
MayAlight A i W = (l : ℕ) (s : Stage) → Each (λ (r : Row). AlightsAt A i l (person_of i W).element r.vehicle) (at l s W)

-- and whoever alights from it may do so
front_alights : (A : Places) (i l : ℕ) (s : Bool) (r : Row) (xs : List Row) (W : World) → at l (serving_stage s) W ≡ r ∷ xs → MayAlight A i W → AlightsAt A i l (person_of i W).element r.vehicle
front_alights A i l s r xs W e may = (subst (Each (λ (x : Row). AlightsAt A i l (person_of i W).element x.vehicle)) e (may l (serving_stage s))).0

-- THE FRONT OF A LIST
riders_right : (i K : ℕ) (v : VehicleState) (ws : List Waiter) → All (IsRight i K) v.riders → All (IsRight i K) (map rider (boarding v ws)) → All (IsRight i K) (riders_after v ws)
unfolding riders_after
riders_right i K v ws h g = All-append (IsRight i K) (staying (next_call v).stop v.riders) (map rider (boarding v ws)) (All-filter (λ r. not (alights (next_call v).stop r)) (IsRight i K) v.riders h) g

stop_front : (A : Places) (S : Setup) (t i l : ℕ) (ws : List Waiter) (s : Bool) (r : Row) (xs : List Row) (W : World) → IsPlan A S i → MayAlight A i W → InOne i W → at l (serving_stage s) W ≡ r ∷ xs → calls_on l r.vehicle ≡ true → ws ≡ waiters S l W →
    Good A S t i W (Transfer l (serving_stage s) 0 r (served_row S.settings.dwell t l ws r.vehicle))
unfolding served_vehicle
stop_front A S t i l ws s r xs W p may h e q w =
    let v = r.vehicle in
    let there = (at_such (λ (x : Row). Unit {0}) l (serving_stage s) 0 r W.rows (λ k d lt. tt) (rw e refl)).2 in
    let alights_here = (front_alights A i l s r xs W e may).0 q in
    let now = served_row S.settings.dwell t l ws v in
    let P = person_of i W in
    let stop = (next_call v).stop in
    let outs = alighting stop v.riders in
    let ins = map rider (boarding v ws) in
    let here : slice_get (vehicles l (serving_stage s) W) 0 ≡ Some v = rw e refl in
    let f = rides_few i l (serving_stage s) 0 r W here h in
    let line : IsInLine i ws P.place = rw w (waiters_in_line S l i W) in
    let lined : Lined S i ws P = rw w (waiters_lined S l i W) in
    let a = as_riders i (boarding v ws) in
    let b : among_riders i outs + among_riders i (staying stop v.riders) ≡ rides i v = riders_are i stop v.riders in
    let c = board_few i v ws in
    let off : 1 ≤ in_line i ws → rides i v ≡ 0 = λ g. f.1 (line.off g) in
    let kind = kind_next S i P in
    let due : All (IsRight i kind) ins = elim (cases_lt 0 (in_line i ws)) [ inl lt ↦ board_right i kind v ws (lined (omega arith)).1 | inr ge ↦ board_right i kind v ws (none_due i kind ws (omega arith)) ] in
    record {
      taken = (here, refl);
      there = h.there;
      calls = omega arith;
      kinds = λ sane. elim (cases_lt 0 (among_riders i outs)) [
        | inl lt ↦
            let z = listed_here i l (serving_stage s) 0 v W here h (omega arith) in
            let n : in_line i (boarding v ws) ≡ 0 = elim (cases_lt 0 (in_line i (boarding v ws))) [ inl k ↦ let z = off (omega arith) in absurd (omega arith) | inr k ↦ omega arith ] in
            inl (omega (arith, served_are i v ws))
        | inr ge ↦
            let d : wrong i kind (riders_after v ws) ≡ 0 = none_wrong i kind (riders_after v ws) (riders_right i kind v ws (right_here S i l (serving_stage s) 0 v W here sane) due) in
            inr (ap (λ (n : ℕ). n / 2) (ap (λ (x : Person). x.element) (told_front S t i s r now P) ∙ rw (boarded-are v ws) (change_element S t i P r.link v.id outs ins (omega arith))), omega arith)
      ];
      drivers = λ sane. let z = lone_pt i v.id (rides i now.vehicle) (serves_pt S i l l (serving_stage s) 0 v W here sane q) in omega arith;
      stops = λ sane. inl (calm _ (serve_calm _ S.settings.dwell t l s ws r (each_all _ (λ x. tt) (boarding v ws))));
      does = λ sane. rw (put_front s r now)
          (front_does A S t i P s r (serves r now) (cars i now.vehicle) sane.fit (rw (boarded-are v ws)
          (riders_change A S t i P (cars i now.vehicle) r.link v.id outs ins p sane.fit (All-filter (alights stop) (IsRight i kind) v.riders (right_here S i l (serving_stage s) 0 v W here sane)) due (omega arith)
          (λ g. (rides_here i l (serving_stage s) 0 v W here h (omega arith), rw there (alights_here g))) (omega arith) (λ g. let z = off (omega arith) in (omega arith, (lined (omega arith)).0, serves_pt S i l l (serving_stage s) 0 v W here sane q)))));
    }

-- a row that is taken out for good, and its riders with it
pub gone_kinds : (S : Setup) (t i l : ℕ) (s : Stage) (r : Row) (W : World) → slice_get (vehicles l s W) 0 ≡ Some r.vehicle → InOne i W → (rides i r.vehicle ≡ 0 → after_move S t i (Remove l s 0 r) W ≡ person_of i W) → KeepsKinds S t i W (Remove l s 0 r)
gone_kinds S t i l s r W here h same =
    elim (cases_lt 0 (rides i r.vehicle)) [
      | inl lt ↦ let z = listed_here i l s 0 r.vehicle W here h (omega arith) in inl (omega arith)
      | inr ge ↦ inr (ap (λ (x : Person). x.element / 2) (same (omega arith)), omega arith)
    ]

end_front : (A : Places) (S : Setup) (t i l : ℕ) (s : Bool) (r : Row) (xs : List Row) (W : World) → IsPlan A S i → MayAlight A i W → InOne i W → at l (serving_stage s) W ≡ r ∷ xs → calls_on l r.vehicle ≡ false → is_last r.vehicle ≡ true →
    Good A S t i W (Remove l (serving_stage s) 0 r)
end_front A S t i l s r xs W p may h e off last =
    let P = person_of i W in
    let there = (at_such (λ (x : Row). Unit {0}) l (serving_stage s) 0 r W.rows (λ k d lt. tt) (rw e refl)).2 in
    let alights_here = (front_alights A i l s r xs W e may).1 off last in
    let here : slice_get (vehicles l (serving_stage s) W) 0 ≡ Some r.vehicle = rw e refl in
    record {
      taken = here;
      there = h.there;
      calls = omega arith;
      kinds = λ sane. gone_kinds S t i l (serving_stage s) r W here h (λ q. told_end S t i s r P ∙ after_own S t i (arrives r) P ∙ nobody_arrives S t i P r q);
      drivers = λ sane. omega arith;
      stops = λ sane. inl (calm _ (gone_calm _ l s r));
      does = λ sane. rw (gone_front s r)
          (front_does A S t i P s r (arrives r) 0 sane.fit (arrives_does A S t i P r p sane.fit (right_here S i l (serving_stage s) 0 r.vehicle W here sane) (rides_few i l (serving_stage s) 0 r W here h).0 (λ g. (rides_here i l (serving_stage s) 0 r.vehicle W here h g, rw there (alights_here g)))));
    }

pass_front : (A : Places) (S : Setup) (t i l b : ℕ) (s : Bool) (r : Row) (xs : List Row) (W : World) → InOne i W → at l (serving_stage s) W ≡ r ∷ xs → Good A S t i W (Transfer l (serving_stage s) 0 r (buffered t l b r))
pass_front A S t i l b s r xs W h e =
    let now = buffered t l b r in
    let P = person_of i W in
    record {
      taken = (rw e refl, refl);
      there = h.there;
      calls = omega arith;
      kinds = λ sane. inr (ap (λ (x : Person). x.element / 2) (told_front S t i s r now P), omega arith);
      drivers = λ sane. omega arith;
      stops = λ sane. inl (calm _ (pass_calm _ t l b s r));
      does = λ sane. rw (put_front s r now) (front_does A S t i P s r [] (cars i now.vehicle) sane.fit (does_nil A S t i P _ _ sane.fit (omega arith)));
    }

-- a credit, a hole or a mark is nothing to persons
still_good : (A : Places) (S : Setup) (t i : ℕ) (m : Move) (W : World) → i < length W.persons → IsTaken m W → told m ≡ [] → ((g : VehicleState → ℕ) → brought g m ≡ took g m) → Good A S t i W m
still_good A S t i m W lt taken nil same =
    let a = same strays in
    let b = same (lone i) in
    let c = same (cars i) in
    quiet_good A S t i W m taken lt (ap (own i) nil) (omega arith) (omega arith) (omega arith) (λ k. let d = same (wrongs i k) in omega arith) (rw nil tt)

links_good : (A : Places) (S : Setup) (t l i : ℕ) → IsPlan A S i → LinkCases S t l (λ W m. MayAlight A i W × InOne i W → Good A S t i W m)
links_good A S t l i p =
    record {
      due = λ k r W e c h. quiet_good A S t i W (Transfer l Bay k r (waiting l r)) (stands l Bay k r W e, refl) h.1.there refl (omega arith) (omega arith) (omega arith) (λ k. omega arith) ((λ q. cc), tt);
      serve = λ s ws r xs W e c q h. stop_front A S t i l ws s r xs W p h.0 h.1 e c q;
      arrive = λ s r xs W e c o h. end_front A S t i l s r xs W p h.0 h.1 e c o;
      pass = λ s b r xs W e c o h. pass_front A S t i l b s r xs W h.1 e;
      pay = λ c W h. still_good A S t i (Credit l c) W h.1.there tt refl (λ g. refl);
      free = λ W h. still_good A S t i (LeaveHole l t) W h.1.there tt refl (λ g. refl);
    }

pub link_along : (A : Places) (S : Setup) (t l i : ℕ) (W : World) → IsPlan A S i → Along (λ V m. MayAlight A i V) S t (link_turns S t l W) W → InOne i W → Along (Good A S t i) S t (link_turns S t l W) W
link_along A S t l i W p may h =
    let ms = link_turns S t l W in
    along_given (λ V m. MayAlight A i V × InOne i V) (Good A S t i) S t ms W (link_walk S t l _ (links_good A S t l i p) W)
    (along_both (λ V m. MayAlight A i V) (λ V m. InOne i V) S t ms W may (held_along (InOne i) S t ms W (link_walk S t l _ (links_keep S t l i) W) h).0)

-- who is removed with a vehicle has no more events
gone_stops : (S : Setup) (t i a : ℕ) (r : Row) (W : World) → slice_get (vehicles a Buffer W) 0 ≡ Some r.vehicle → InOne i W → IsSane S i W → rides i r.vehicle ≤ 1 →
    (length (own i (aborts r)) ≤ 1) × (1 ≤ length (own i (aborts r)) → spare S i (done S t (Remove a Buffer 0 r) W) ≡ 0)
gone_stops S t i a r W here h sane few =
    let v = r.vehicle in
    let m = Remove a Buffer 0 r in
    let n : length (own i (aborts r)) ≡ rides i v = stuck_count i r.link v.id v.riders in (
      omega arith,
      λ one.
          let b = listed_here i a Buffer 0 v W here h (omega arith) in
          let none : weight (cars i) (rows_after m W.rows) ≡ 0 = cars_none i (rows_after m W.rows)
          (omega (arith, weighed (rides i) m W here)) (omega (arith, weighed (lone i) m W here)) in
          let place : (person_of i (done S t m W)).place ≡ Aborted r.link = rw (person-done S t i m W h.there) (stuck_place S t i r.link v.id v.riders (person_of i W) (inl (omega arith))) in
          omega (arith, ap (worth_at (legs S i) ((person_of i (done S t m W)).element / 2)) place),
    )

gone_good : (A : Places) (S : Setup) (t i a : ℕ) (r : Row) (W : World) → slice_get (vehicles a Buffer W) 0 ≡ Some r.vehicle → InOne i W → Good A S t i W (Remove a Buffer 0 r)
gone_good A S t i a r W here h =
    let v = r.vehicle in
    let few = rides_few i a Buffer 0 r W here h in
    record {
      taken = here;
      there = h.there;
      calls = omega arith;
      drivers = λ sane. omega arith;
      stops = λ sane. inr (gone_stops S t i a r W here h sane few.0);
      kinds = λ sane. gone_kinds S t i a Buffer r W here h
          (λ q. after_own S t i (aborts r) (person_of i W) ∙ none_after S t i (person_of i W) (strands v.id r.link) v.riders (λ r q. simp q) q);
      does = λ sane. goes_less A S i (person_of i W) _ _ _ 0 0 _ 0 (omega arith) (omega arith)
          (riders_stuck A S t i (person_of i W) 0 r.link v.id v.riders sane.fit (right_here S i a Buffer 0 v W here sane) few.0 (λ g. rides_here i a Buffer 0 v W here h g));
    }

nodes_good : (A : Places) (S : Setup) (t n i : ℕ) → NodeCases S t n (λ W m. InOne i W → Good A S t i W m)
nodes_good A S t n i =
    record {
      enter = λ a e r xs W f q c h. quiet_good A S t i W (Transfer a Buffer 0 r (entered t e r.vehicle)) (rw f.rows refl, refl) h.there refl
          (omega arith) (omega arith) (omega arith) (λ k. omega arith) ((λ q. cc), ((λ q. cc), tt));
      abort = λ a r xs W f c h. gone_good A S t i a r W (rw f.rows refl) h;
      mark = λ a W c h. still_good A S t i (SetFrontSince a t) W h.there tt refl (λ g. refl);
    }

pub node_along : (A : Places) (S : Setup) (t n i : ℕ) (W : World) → InOne i W → Along (Good A S t i) S t (node_turns S t n W) W
node_along A S t n i W h =
    let ms = node_turns S t n W in
    along_given (λ V m. InOne i V) (Good A S t i) S t ms W (node_walk S t n _ (nodes_good A S t n i) W) (held_along (InOne i) S t ms W (node_walk S t n _ (nodes_keep S t n i) W) h).0

-- what is told of person j does its part to him, and is nothing to others
told_good : (A : Places) (S : Setup) (t j i : ℕ) (says : List Occurrence) (W : World) → i < length W.persons → Each IsCalm says → (eqb j i ≡ true → listed i W.rows ≡ 0) → (eqb j i ≡ true → IsFit S i (person_of i W) → Does A S t i (person_of i W) (own i says) 0 0) → (eqb j i ≡ false → own i says ≡ []) → Good A S t i W (Report says)
told_good A S t j i says W lt calm off f g =
    record {
      taken = tt;
      there = lt;
      calls = omega arith;
      drivers = λ sane. omega arith;
      stops = λ sane. inl calm;
      kinds = λ sane. elim (cases_Bool (eqb j i)) [
        | inl q ↦ let z = off q in inl (omega arith)
        | inr q ↦ inr (ap (λ (x : Person). x.element / 2) (after_own S t i says (person_of i W) ∙ ap (λ (es : List Occurrence). person_after_all S t i es (person_of i W)) (g q)), omega arith)
      ];
      does = λ sane. elim (cases_Bool (eqb j i)) [ inl q ↦ f q sane.fit | inr q ↦ rw (g q) (does_nil A S t i (person_of i W) 0 0 sane.fit (omega arith)) ];
    }

-- a person at a place that is known
at_place : (A : Places) (S : Setup) (t i : ℕ) (P : Person) (e : ℕ) (pl : Place) (es : List Occurrence) (a b : ℕ) → P ≡ record { element = e; place = pl } → (IsFitAt S i e pl → Does A S t i (record { element = e; place = pl }) es a b) → IsFit S i P → Does A S t i P es a b
at_place A S t i P e pl es a b q f = subst (λ (x : Person). IsFit S i x → Does A S t i x es a b) (sym q) f

lands_good : (A : Places) (S : Setup) (t j i seconds start : ℕ) (m : Mode) (next : Act) (W : World) → IsPlan A S i → InOne i W → (eqb j i ≡ true → ((person_of i W).place ≡ Teleporting start) × (m ≡ mode_of_leg (leg S i ((person_of i W).element / 2))) × (next ≡ act S i ((person_of i W).element / 2 + 1))) →
    Good A S t i W (Report (lands j m seconds next))
unfolding person_after
lands_good A S t j i seconds start m next W p h f =
    let P = person_of i W in
    told_good A S t j i (lands j m seconds next) W h.there ((λ q. cc), ((λ q. cc), ((λ q. cc), tt))) (λ q. subst (IsListed i W.rows) (f q).0 h.listed)
    (λ q fit. let h = f q in
    rw (eqb-true j i q) (at_place A S t i P P.element (Teleporting start) (own i (lands i m seconds next)) 0 0
    (ap (λ (x : Place). record P { place = x }) h.0) (λ odd. lands_does A S t i P.element 0 seconds start m next p odd h.1 h.2) fit))
    (λ q. simp q)

pub flight_along : (A : Places) (S : Setup) (t j i : ℕ) (W : World) → IsPlan A S i → InOne i W → Along (Good A S t i) S t (landing_turns S t j W) W
flight_along A S t j i W p h =
    let next = act_after S j (person_of j W).element in
    flight_walk (λ ms. Along (Good A S t i) S t ms W) S t j (person_of j W) tt
    (λ m seconds start e w g. (
      lands_good A S t j i seconds start m next W p h (λ q. (place_of j i W q ∙ e, ap mode_of_leg (sym w) ∙ ap (λ (k : ℕ). mode_of_leg (leg_at S k (person_of k W).element)) (eqb-true j i q), next_act S i j W (eqb-true j i q))),
      tt,
    ))

-- the leg of an element after the one before
same_half : (e : ℕ) → e + 1 ≡ 2 * ((e + 1) / 2) + 1 → (e + 1) / 2 ≡ e / 2
same_half e h = omega arith

rides_right : (S : Setup) (i : ℕ) (P : Person) (e start kind : ℕ) → P ≡ record { element = e + 1; place = Teleporting start } → kind ≡ (act S i (e / 2 + 1)).kind → IsFit S i P → kind ≡ kind_next S i P
rides_right S i P e start kind q k f =
    let odd : e + 1 ≡ 2 * ((e + 1) / 2) + 1 = subst (IsFit S i) q f in
    k ∙ sym (ap (λ (n : ℕ). (act S i (n + 1)).kind) (ap (λ (x : Person). x.element / 2) q ∙ same_half e odd))

sets_out_along : (A : Places) (S : Setup) (t j i e start : ℕ) (w : Leg) (next : Act) (W : World) → i < length W.persons →
    (eqb j i ≡ true → (person_of i W ≡ record { element = e + 1; place = Teleporting start }) × (mode_of_leg w ≡ mode_of_leg (leg S i (e / 2))) × (next.kind ≡ (act S i (e / 2 + 1)).kind) × (listed i W.rows ≡ 0)) → Along (Good A S t i) S t (sets_out S j w next) W
unfolding person_after
sets_out_along A S t j i e start (Car route) next W lt f =
    let P = person_of i W in (
      record {
        taken = tt;
        there = lt;
        calls = omega arith;
        drivers = λ sane. elim (cases_Bool (eqb j i)) [ inl q ↦ simp q (omega arith) | inr q ↦ simp q (omega arith) ];
        stops = λ sane. inl ((λ q. cc), tt);
        kinds = λ sane.
            let right : wrong i (kind_next S i P) (record { person = j; egress = None; kind = next.kind } ∷ []) ≡ 0 = none_wrong i (kind_next S i P) (record { person = j; egress = None; kind = next.kind } ∷ []) (All-cons (IsRight i (kind_next S i P)) _ [] (λ q. rides_right S i P e start next.kind (f q).0 (f q).2 sane.fit) (All-nil (IsRight i (kind_next S i P)))) in
            inr (elim (cases_Bool (eqb j i)) [ inl q ↦ simp q refl | inr q ↦ simp q refl ], omega arith);
        does = λ sane. elim (cases_Bool (eqb j i)) [
          | inl q ↦ rw (eqb-true j i q) (at_place A S t i P (e + 1) (Teleporting start) (own i (of_rider word.PersonEntersVehicle i (vehicle.Car i) ∷ [])) 0 (car_worth i (vehicle.Car i) false) (f q).0
              (λ odd. enters_car A S t i (e + 1) start odd (subst (λ (k : ℕ). mode.Car ≡ mode_of_leg (leg S i k)) (sym (same_half e odd)) (f q).1)) sane.fit)
          | inr q ↦ simp q (does_nil A S t i P 0 0 sane.fit (omega arith))
        ];
      },
      tt,
    )
sets_out_along A S t j i e start (Teleport m seconds) next W lt f = tt
sets_out_along A S t j i e start (Transit line access egress) next W lt f =
    let P = person_of i W in
    let l = link_of_stop S access in (
      told_good A S t j i (of_person word.WaitingForPt j l (more.Stop access) ∷ []) W lt ((λ q. cc), tt) (λ q. (f q).3)
          (λ q fit. rw (eqb-true j i q) (at_place A S t i P (e + 1) (Teleporting start) (own i (of_person word.WaitingForPt i l (more.Stop access) ∷ [])) 0 0 (f q).0
          (λ odd. waits_does A S t i (e + 1) 0 l access start odd (subst (λ (k : ℕ). mode_of_leg (leg S i k) ≡ mode.Pt) (sym (same_half e odd)) (sym (f q).1))) fit))
          (λ q. simp q),
      tt,
    )

leaves_along : (A : Places) (S : Setup) (t j i : ℕ) (here : Act) (w : Leg) (next : Act) (W : World) → IsPlan A S i → InOne i W →
    (eqb j i ≡ true → ((person_of i W).place ≡ At (Some t)) × (here ≡ act S i ((person_of i W).element / 2)) × (mode_of_leg w ≡ mode_of_leg (leg S i ((person_of i W).element / 2))) × (next.kind ≡ kind_next S i (person_of i W))) → Along (Good A S t i) S t (Report (departs j here w) ∷ sets_out S j w next) W
unfolding person_after
leaves_along A S t j i here w next W p h f =
    let P = person_of i W in
    let m = Report (departs j here w) in
    let lt = h.there in
    let off : eqb j i ≡ true → listed i W.rows ≡ 0 = λ q. subst (IsListed i W.rows) (f q).0 h.listed in (
      told_good A S t j i (departs j here w) W lt ((λ q. cc), ((λ q. cc), tt)) off
          (λ q fit. let h = f q in
          rw (eqb-true j i q) (at_place A S t i P P.element (At (Some t)) (own i (departs i here w)) 0 0
          (ap (λ (x : Place). record P { place = x }) h.0) (λ even. departs_does A S t i P.element 0 t here w p even h.1 h.2) fit))
          (λ q. simp q),
      sets_out_along A S t j i P.element t w next (done S t m W) (rw (persons-length S t (told m) W.persons) lt) (λ q. (person-done S t i m W lt ∙ simp q, (f q).2, (f q).3, off q)),
    )

pub leave_along : (A : Places) (S : Setup) (t j i : ℕ) (W : World) → IsPlan A S i → InOne i W → Along (Good A S t i) S t (leaving_turns S t j W) W
leave_along A S t j i W p h =
    let P = person_of j W in
    leave_walk (λ ms. Along (Good A S t i) S t ms W) S t j (person_of j W) tt
    (λ a. leaves_along A S t j i (act_at S j P.element) (leg_at S j P.element) (act_after S j P.element) W p h
    (λ q. let e = eqb-true j i q in
    (place_of j i W q ∙ a, ap (λ (k : ℕ). act_at S k (person_of k W).element) e, ap (λ (k : ℕ). mode_of_leg (leg_at S k (person_of k W).element)) e, next_kind S i j W e)))

pub departure_along : (A : Places) (S : Setup) (t d i : ℕ) (W : World) → i < length W.persons → Along (Good A S t i) S t (departure_turns S t d W) W
departure_along A S t d i W lt =
    departure_walk (λ ms. Along (Good A S t i) S t ms W) S t d tt
    (λ e. (quiet_good A S t i W (Enter (transit_vehicle d (departure S d))) tt lt refl (omega arith) (omega arith) (omega arith) (λ k. omega arith) ((λ q. cc), tt), tt))
