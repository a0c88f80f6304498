-- What each vehicle of a day is, wherever it stands.
use Rattle.traffic.proofs.Common.{act_after, ◌≡◌, ℕ, List, length, ap, refl, [], ◌∷◌, arith, ◌<◌, ◌≤◌, true, false, Bool, ◌+◌, ◌-◌, get_or, take, filter, length-append, length-map}
use Rattle.traffic.proofs.Common.{and_parts, ltb-true, nat_lt, ◌==◌, not, All-from_recursion, VehicleId, world_start, world_at, waiting, buffered}
use Rattle.traffic.proofs.Common.{entered, car, transit_vehicle, World, on, Setup, departure, VehicleState, served_row, served_vehicle, riders_after, boarding, staying}
use Rattle.traffic.proofs.Common.{next_call, calls_on, in_turn, may_board, rows_after, at_second, Option, alights, leg_at, person_of}
use Rattle.traffic.proofs.{LeftBehind.serving_stage, Moments.Along, Each.each_weaker, Each.each_append, Each.each_without, Each.each_with_first}
use Rattle.traffic.specs.declared.moves.Move.{Move, TheVariants.Transfer, TheVariants.Remove, TheVariants.Enter, TheVariants.SetFrontSince}
use Rattle.traffic.specs.declared.{riders.Rider.Rider, stage.Stage.Stage}
use Rattle.traffic.specs.declared.stage.Stage.TheVariants.{Queue, Buffer, Wait, Bay}
use Rattle.traffic.specs.declared.node_views.OutLink.{OutLink}
use Rattle.traffic.specs.declared.world.Row.{Row}
use Rattle.traffic.specs.declared.world.Waiter.{Waiter}
use Rattle.std.{proofs.lemmas.List.length-take, specs.List.AllByRecursion as Each}
use Rattle.events.specs.declared.event.VehicleId.TheVariants as vehicle
use Rattle.rows.specs.declared.plan.Leg.TheVariants as leg
use Rattle.law_capacity.specs.Moves.{second_moves}
use Rattle.law_sound_setups.proofs.Fine.{Rows, found, Brings}
use Rattle.law_journeys.proofs.{Always.KeepsWorld, Always.always, Always.at_each_move}
use Rattle.law_journeys.specs.Journeys.{IsSeated, KeepsSeats}

-- the car of a person, with him alone and with no calls; or the vehicle of a departure, with no more riders than seats
pub record IsCar (S : Setup) (i : ℕ) (v : VehicleState) : Type 0 where
  pub there : i < length S.persons
  pub calls : v.calls ≡ []
  pub one : length v.riders ≡ 1
  pub driver : Each (λ (x : Rider). x.person ≡ i) v.riders
  pub way : (k : ℕ) × (leg_at S i k ≡ leg.Car v.route)

pub record IsTransit (S : Setup) (d : ℕ) (v : VehicleState) : Type 0 where
  pub there : d < length S.departures
  pub route : v.route ≡ (departure S d).route
  pub calls : v.calls ≡ (departure S d).calls
  pub departed : v.departed ≡ (departure S d).second
  pub seats : v.seats ≡ (departure S d).seats
  pub few : length v.riders ≤ (departure S d).seats

abbrev pub IsIts : Setup → VehicleState → VehicleId → Type 0
IsIts S v (vehicle.Car i) = IsCar S i v
IsIts S v (vehicle.Transit d) = IsTransit S d v

-- it has entered traffic, unless it is in the wait list
abbrev pub HasStarted : Stage → VehicleState → Type 0
HasStarted Wait v = Unit {0}
HasStarted s v = v.started ≡ true

pub record IsFit (S : Setup) (s : Stage) (l : ℕ) (v : VehicleState) : Type 0 where
  pub its : IsIts S v v.id
  pub link : l ≡ get_or v.route v.place 0
  pub started : HasStarted s v
  -- before that it is where its route begins
  pub first : v.started ≡ false → v.place ≡ 0

abbrev pub Fit : Setup → World → Type 0
Fit S W = Rows (IsFit S) W.rows

-- what a move brings is such, and the others are
rows_done : (Q : Stage → ℕ → VehicleState → Type 0) (m : Move) (rows : List Row) → Brings Q m → Rows Q rows → Rows Q (rows_after m rows)
rows_done Q (Transfer l s k was now) rows b h = each_append _ _ (now ∷ []) (each_without _ (on l s) k rows h) (b, tt)
rows_done Q (Remove l s k was) rows b h = each_without _ (on l s) k rows h
rows_done Q (Enter now) rows b h = each_append _ rows (now ∷ []) h (b, tt)
rows_done Q (SetFrontSince l t) rows b h = each_with_first (λ (r : Row). Q r.stage r.link r.vehicle) (on l Buffer) (at_second t) (λ r g. g) rows h
rows_done Q _ rows b h = h

-- SERVED AT A STOP
pub car_not_served : (S : Setup) (l i : ℕ) (v : VehicleState) → calls_on l v ≡ true → IsCar S i v → ⊥
car_not_served S l i v h f =
    let lt = ltb-true v.served (length v.calls) (and_parts (nat_lt v.served (length v.calls)) ((next_call v).link == l) h).0 in
    let none = ap length f.calls in
    omega arith

length_take : {X : Type 0} (k : ℕ) (xs : List X) → length (take k xs) ≤ k
length_take k xs = omega (arith, length-take k xs)

filter_shorter : {X : Type 0} (p : X → Bool) (xs : List X) → length (filter p xs) ≤ length xs
filter_shorter p [] = omega arith
filter_shorter p (x ∷ xs) = grind (arith, filter_shorter p xs)

seats_kept : (v : VehicleState) (ws : List Waiter) (seats : ℕ) → v.seats ≡ seats → length v.riders ≤ seats → length (riders_after v ws) ≤ seats
unfolding riders_after boarding
seats_kept v ws seats e le =
    let stop = (next_call v).stop in
    let stay = staying stop v.riders in
    let few = filter_shorter (λ r. not (alights stop r)) v.riders in
    let most = length_take (v.seats - length stay) (in_turn (filter (may_board v) ws)) in
    simp (length-append, length-map) (omega arith)

served_its : (S : Setup) (l : ℕ) (v : VehicleState) (ws : List Waiter) (id : VehicleId) → calls_on l v ≡ true → IsIts S v id → IsIts S (served_vehicle v ws) id
unfolding served_vehicle
served_its S l v ws (vehicle.Car i) h f = absurd (car_not_served S l i v h f)
served_its S l v ws (vehicle.Transit d) h f = record { there = f.there; route = f.route; calls = f.calls; departed = f.departed; seats = f.seats; few = seats_kept v ws (departure S d).seats f.seats f.few }

served_fit : (S : Setup) (s : Stage) (l : ℕ) (v : VehicleState) (ws : List Waiter) → calls_on l v ≡ true → IsFit S s l v → IsFit S Bay l (served_vehicle v ws)
unfolding served_vehicle
served_fit S s l v ws h f = record { its = served_its S l v ws v.id h f.its; link = f.link; started = refl; first = λ q. cc }

-- THE OTHER MOVES
waiting_fit : (S : Setup) (l : ℕ) (v : VehicleState) → IsFit S Bay l v → IsFit S Wait l v
waiting_fit S l v f = record { its = f.its; link = f.link; started = tt; first = f.first }

changed_its : (S : Setup) (v : VehicleState) (place : ℕ) (started pushed : Bool) (id : VehicleId) → IsIts S v id → IsIts S (record v { place = place; started = started; pushed = pushed }) id
changed_its S v place started pushed (vehicle.Car i) f = record { there = f.there; calls = f.calls; one = f.one; driver = f.driver; way = f.way }
changed_its S v place started pushed (vehicle.Transit d) f = record { there = f.there; route = f.route; calls = f.calls; departed = f.departed; seats = f.seats; few = f.few }

buffered_fit : (S : Setup) (s : Stage) (t l b : ℕ) (r : Row) → IsFit S s l r.vehicle → IsFit S Buffer l (buffered t l b r).vehicle
buffered_fit S s t l b r f = let v = r.vehicle in record { its = changed_its S v v.place true v.pushed v.id f.its; link = f.link; started = refl; first = λ q. cc }

entered_fit : (S : Setup) (t l : ℕ) (e : Option OutLink) (v : VehicleState) → IsFit S Buffer l v → IsFit S Queue (entered t e v).link (entered t e v).vehicle
entered_fit S t l e v f =
    record { its = changed_its S v (v.place + 1) v.started _ v.id f.its; link = refl; started = f.started; first = λ q. (let p : v.started ≡ true = f.started in cc) }

fit_cases : (S : Setup) → KeepsWorld (Fit S) S
fit_cases S t =
    record {
      due = λ l k r W e u h. rows_done (IsFit S) (Transfer l Bay k r (waiting l r)) W.rows (waiting_fit S l r.vehicle (found (IsFit S) l Bay k r W.rows h e)) h;
      serve = λ l s ws r xs W e u c q h. rows_done (IsFit S) (Transfer l (serving_stage s) 0 r (served_row S.settings.dwell t l ws r.vehicle)) W.rows (served_fit S (serving_stage s) l r.vehicle ws c (found (IsFit S) l (serving_stage s) 0 r W.rows h (rw e refl))) h;
      arrive = λ l s r xs W e u c o h. rows_done (IsFit S) (Remove l (serving_stage s) 0 r) W.rows tt h;
      pass = λ l s b r xs W e u c o h. rows_done (IsFit S) (Transfer l (serving_stage s) 0 r (buffered t l b r)) W.rows (buffered_fit S (serving_stage s) t l b r (found (IsFit S) l (serving_stage s) 0 r W.rows h (rw e refl))) h;
      pay = λ l c W h. h;
      free = λ l W h. h;
      nodes = λ n. record {
        enter = λ a e r xs W f q c h. rows_done (IsFit S) (Transfer a Buffer 0 r (entered t e r.vehicle)) W.rows (entered_fit S t a e r.vehicle (found (IsFit S) a Buffer 0 r W.rows h (rw f.rows refl))) h;
        abort = λ a r xs W f c h. rows_done (IsFit S) (Remove a Buffer 0 r) W.rows tt h;
        mark = λ a W c h. rows_done (IsFit S) (SetFrontSince a t) W.rows tt h;
      };
      land = λ i mode seconds start W lt p e h. h;
      leave = λ i W lt p h. h;
      drive = λ i route W lt p e h. rows_done (IsFit S) (Enter (car i route (act_after S i (person_of i W).element).kind)) W.rows (record { its = record { there = lt; calls = refl; one = refl; driver = (refl, tt); way = ((person_of i W).element, e) }; link = refl; started = tt; first = λ q. refl }) h;
      wait = λ i line access egress W lt p e h. h;
      start = λ d W lt e h. rows_done (IsFit S) (Enter (transit_vehicle d (departure S d))) W.rows (record { its = record { there = lt; route = refl; calls = refl; departed = refl; seats = refl; few = omega arith }; link = refl; started = tt; first = λ q. refl }) h;
    }

fit_start : (S : Setup) → Fit S (world_start S)
unfolding world_start
fit_start S = tt

pub fit_always : (S : Setup) (t : ℕ) → Fit S (world_at S t)
fit_always S t = always (Fit S) S (fit_cases S) (fit_start S) t

pub fit_moves : (S : Setup) (t : ℕ) → Along (λ V m. Fit S V) S t (second_moves S t (world_at S t)) (world_at S t)
fit_moves S t = at_each_move (Fit S) S (fit_cases S) (fit_start S) t

-- SEATS
seated : (S : Setup) (v : VehicleState) (id : VehicleId) → IsIts S v id → IsSeated S v id
seated S v (vehicle.Car i) f = (f.one, All-from_recursion _ v.riders f.driver)
seated S v (vehicle.Transit d) f = f.few

pub all_seated : (S : Setup) (t : ℕ) → KeepsSeats S t
all_seated S t = All-from_recursion _ (world_at S t).rows (each_weaker (λ (r : Row). IsFit S r.stage r.link r.vehicle) (λ (r : Row). IsSeated S r.vehicle r.vehicle.id) (λ r f. seated S r.vehicle r.vehicle.id f.its) (world_at S t).rows (fit_always S t))
