-- A bus goes on from a stop when its dwell time is over, and the wait that the call asks for.
use Rattle.traffic.proofs.Common.{◌==◌, ltb-true, nat_lt, calls_on, person_of, act_after, served_vehicle, ◌≡◌, ℕ, List, ◌∙◌, length, ap, refl, sym, subst, [], ◌∷◌, ◌++◌, ◌+◌, ◌-◌, arith, ◌<◌, ◌≤◌, ◌⊎◌, true, false, Bool, inl, inr, suc, eqb, eqb-true, eq-eqb}
use Rattle.traffic.proofs.Common.{cases_Bool, if◌then◌else◌, ◌&&◌, ◌||◌, nat_tests, nat_le, leb-true, recursion_from_All, append_assoc, append-nil, map, map-append, flat_map, filter-append, count_by, sum_by-cons, sum_by-append}
use Rattle.traffic.proofs.Common.{All-from_recursion, length-map, slice_get, Some, None, Option, VehicleId, Word, StopCall, Dwelling, day, events_from, end_events, world_start, world_at, run, done, told, waiting, buffered, entered, World, at, on, Setup}
use Rattle.traffic.proofs.Common.{served_row, lands, car, transit_vehicle, departure, of_person, of_rider, link_of_stop, starts, serves, leaves, enters, alighting, boarded, boarding, rider, next_call, call_at}
use Rattle.traffic.proofs.Common.{told_to, told_transfer, same_vehicle, without, with_first, at_second, rows_after, stays_until, rank, and_parts, VehicleState}
use Rattle.traffic.proofs.{LeftBehind.serving_stage, Waiting.boarded-are, Sublists.at_such, Each.each_all, Each.each_append, Each.each_map, Each.each_weaker, Each.each_without, Each.each_kept}
use Rattle.traffic.proofs.{Moments.along_given}
use Rattle.traffic.specs.{Stops.stand, Telling.of_vehicle}
use Rattle.traffic.specs.declared.moves.Move.{Move, TheVariants.Transfer, TheVariants.Remove, TheVariants.Enter, TheVariants.SetFrontSince}
use Rattle.traffic.specs.declared.moves.Move.TheVariants.{Credit, LeaveHole, Report}
use Rattle.traffic.specs.declared.{moves.Occurrence.Occurrence, riders.Rider.Rider, stage.Stage.Stage}
use Rattle.traffic.specs.declared.stage.Stage.TheVariants.{Buffer, Bay}
use Rattle.traffic.specs.declared.world.Row.{Row}
use Rattle.traffic.specs.declared.world.Waiter.{Waiter}
use Rattle.std.specs.List.{AllByRecursion as Each}
use Rattle.events.specs.declared.event.Word.TheVariants as word
use Rattle.events.specs.declared.event.More.TheVariants as more
use Rattle.events.specs.declared.event.VehicleId.TheVariants as vehicle
use Rattle.law_capacity.specs.Moves.{second_moves}
use Rattle.law_one_place.proofs.Places.{IsTaken, stands, weight-without, counted}
use Rattle.law_one_place.proofs.Vehicles.{is_its, rows_it_has}
use Rattle.law_sound_setups.proofs.Fine.{found}
use Rattle.law_journeys.proofs.Driving.{IsOf, AreOf, serves_of, aborts_of, front_of, end_of, same_self}
use Rattle.law_journeys.proofs.{Endings.IsStuck, Endings.end_stuck, Endings.day_news, Fit.Fit, Fit.IsFit, Fit.IsIts, Fit.IsTransit, Fit.fit_moves, History.KeepsRest, History.rest_kept, History.day_by_moves, History.spoken, History.spoken_all, History.at_time}
use Rattle.law_journeys.proofs.{Singles.new_one, Singles.new_ones, Singles.second_new, Singles.rows_due, Singles.adds, Singles.now, Singles.due, Told.Words, Told.starts_words, Told.front_words, Told.end_words, Told.aborts_words, Walk.Cases, Walk.departing, Walk.second_walk}
use Rattle.law_journeys.specs.Journeys.{arrives_at_stop, departs_from_stop, alights_from, boards_it, is_at_stop, at_stops, is_vehicle, call_after, IsAtCall, DepartsInTime, WaitsAtStops}
use Rattle.law_journeys.specs.News.{News, news}

-- WHAT IS TOLD AT STOPS
abbrev any_stop : Word → Bool
any_stop w = arrives_at_stop w || departs_from_stop w || alights_from w || boards_it w

stops_more : (d : ℕ) (hs xs : List News) → at_stops d (hs ++ xs) ≡ at_stops d hs ++ at_stops d xs
stops_more d hs xs = filter-append (is_at_stop d) hs xs

quiet_none : (d t : ℕ) (xs : List Occurrence) → Words (λ w. any_stop w ≡ false) xs → at_stops d (map (at_time t) xs) ≡ []
quiet_none d t [] h = refl
quiet_none d t (x ∷ xs) h = let e : is_at_stop d (at_time t x) ≡ false = rw h.0 refl in simp e (quiet_none d t xs h.1)

and_none : (b : Bool) → b && false ≡ false
and_none true = refl
and_none false = refl

is_other : (d : ℕ) (id : VehicleId) (o : Option VehicleId) → same_vehicle id (vehicle.Transit d) ≡ false → IsOf id o → is_vehicle (vehicle.Transit d) o ≡ false
is_other d id None e h = refl
is_other d id (Some u) e h = ap (λ (x : VehicleId). same_vehicle x (vehicle.Transit d)) h ∙ e

others_none : (d t : ℕ) (id : VehicleId) (xs : List Occurrence) → same_vehicle id (vehicle.Transit d) ≡ false → AreOf id xs → at_stops d (map (at_time t) xs) ≡ []
others_none d t id [] e h = refl
others_none d t id (x ∷ xs) e h =
    let o = is_other d id x.vehicle e h.0 in
    let q : is_at_stop d (at_time t x) ≡ false = rw o (and_none (any_stop x.word)) in
    simp q (others_none d t id xs e h.1)

-- the riders who alight, and those who board
abbrev left_news : ℕ → ℕ → List Rider → List News
left_news d t rs = map (λ (r : Rider). at_time t (of_rider word.PersonLeavesVehicle r.person (vehicle.Transit d))) rs

abbrev boarding_news : ℕ → ℕ → List Rider → List News
boarding_news d t rs = map (λ (r : Rider). at_time t (of_rider word.PersonEntersVehicle r.person (vehicle.Transit d))) rs

leaves_are : (d t l : ℕ) (rs : List Rider) → at_stops d (map (at_time t) (flat_map (leaves (vehicle.Transit d) l) rs)) ≡ left_news d t rs
leaves_are d t l [] = refl
leaves_are d t l (r ∷ rs) = let q = eq-eqb d d refl in simp q (ap (λ (xs : List News). at_time t (of_rider word.PersonLeavesVehicle r.person (vehicle.Transit d)) ∷ xs) (leaves_are d t l rs))

enters_are : (d t : ℕ) (rs : List Rider) → at_stops d (map (at_time t) (flat_map (enters (vehicle.Transit d)) rs)) ≡ boarding_news d t rs
enters_are d t [] = refl
enters_are d t (r ∷ rs) = let q = eq-eqb d d refl in simp q (ap (λ (xs : List News). at_time t (of_rider word.PersonEntersVehicle r.person (vehicle.Transit d)) ∷ xs) (enters_are d t rs))

abbrev ones : (Word → Bool) → News → ℕ
ones p e = if p e.what.word then 1 else 0

abbrev times : (Word → Bool) → List News → ℕ
times p es = count_by (λ (e : News). p e.what.word) es

left_counts : (d t : ℕ) (rs : List Rider) → (times alights_from (left_news d t rs) ≡ length rs) × (times boards_it (left_news d t rs) ≡ 0)
left_counts d t [] = (refl, refl)
left_counts d t (r ∷ rs) =
    let x = at_time t (of_rider word.PersonLeavesVehicle r.person (vehicle.Transit d)) in
    let y = left_counts d t rs in
    let a = y.0 in
    let b = y.1 in
    (omega (arith, sum_by-cons (ones alights_from) x (left_news d t rs)), omega (arith, sum_by-cons (ones boards_it) x (left_news d t rs)))

boarding_counts : (d t : ℕ) (rs : List Rider) → (times alights_from (boarding_news d t rs) ≡ 0) × (times boards_it (boarding_news d t rs) ≡ length rs)
boarding_counts d t [] = (refl, refl)
boarding_counts d t (r ∷ rs) =
    let x = at_time t (of_rider word.PersonEntersVehicle r.person (vehicle.Transit d)) in
    let y = boarding_counts d t rs in
    let a = y.0 in
    let b = y.1 in
    (omega (arith, sum_by-cons (ones alights_from) x (boarding_news d t rs)), omega (arith, sum_by-cons (ones boards_it) x (boarding_news d t rs)))

abbrev IsRiderWord : News → Type 0
IsRiderWord e = alights_from e.what.word || boards_it e.what.word ≡ true

all_riders : (d t : ℕ) (outs ins : List Rider) → Each IsRiderWord (left_news d t outs ++ boarding_news d t ins)
all_riders d t outs ins =
    each_append IsRiderWord (left_news d t outs) (boarding_news d t ins)
    (each_map (λ (r : Rider). Unit {0}) IsRiderWord (λ (r : Rider). at_time t (of_rider word.PersonLeavesVehicle r.person (vehicle.Transit d))) (λ r h. refl) outs (each_all (λ (r : Rider). Unit {0}) (λ r. tt) outs))
    (each_map (λ (r : Rider). Unit {0}) IsRiderWord (λ (r : Rider). at_time t (of_rider word.PersonEntersVehicle r.person (vehicle.Transit d))) (λ r h. refl) ins (each_all (λ (r : Rider). Unit {0}) (λ r. tt) ins))

-- by them no vehicle comes to a stop or goes on
rider_comes : (w : Word) → alights_from w || boards_it w ≡ true → arrives_at_stop w ≡ false
rider_comes word.VehicleArrivesAtFacility h = absurd (cc)
rider_comes _ h = refl

rider_goes : (w : Word) → alights_from w || boards_it w ≡ true → departs_from_stop w ≡ false
rider_goes word.VehicleDepartsAtFacility h = absurd (cc)
rider_goes _ h = refl

no_calls : (es : List News) → Each IsRiderWord es → times arrives_at_stop es ≡ 0
no_calls [] h = refl
no_calls (e ∷ es) h =
    let c = rider_comes e.what.word h.0 in
    let z : ones arrives_at_stop e ≡ 0 = rw c refl in
    omega (arith, sum_by-cons (ones arrives_at_stop) e es, no_calls es h.1)

-- WHENEVER IT GOES ON
abbrev Gone : Setup → ℕ → List News → List News → Type 0
Gone S d acc [] = Unit {0}
Gone S d acc (e ∷ es) = (e.what.word ≡ word.VehicleDepartsAtFacility → DepartsInTime S d acc e) × Gone S d (acc ++ e ∷ []) es

gone_append : (S : Setup) (d : ℕ) (acc es xs : List News) → Gone S d acc es → Gone S d (acc ++ es) xs → Gone S d acc (es ++ xs)
gone_append S d acc [] xs h g = subst (λ (ys : List News). Gone S d ys xs) (append-nil acc) g
gone_append S d acc (e ∷ es) xs h g = (h.0, gone_append S d (acc ++ e ∷ []) es xs h.1 (subst (λ (ys : List News). Gone S d ys xs) (sym (append_assoc acc (e ∷ []) es)) g))

abbrev Stays : News → Type 0
Stays e = departs_from_stop e.what.word ≡ false

gone_none : (S : Setup) (d : ℕ) (acc xs : List News) → Each Stays xs → Gone S d acc xs
gone_none S d acc [] h = tt
gone_none S d acc (e ∷ es) h = ((λ w. absurd (let z = h.0 in let y : departs_from_stop e.what.word ≡ true = ap departs_from_stop w in cc)), gone_none S d (acc ++ e ∷ []) es h.1)

gone_at : (S : Setup) (d : ℕ) (acc before after : List News) (e : News) → Gone S d acc (before ++ e ∷ after) → e.what.word ≡ word.VehicleDepartsAtFacility → DepartsInTime S d (acc ++ before) e
gone_at S d acc [] after e h w = subst (λ (ys : List News). DepartsInTime S d ys e) (sym (append-nil acc)) (h.0 w)
gone_at S d acc (b ∷ before) after e h w = subst (λ (ys : List News). DepartsInTime S d ys e) (append_assoc acc (b ∷ []) before) (gone_at S d (acc ++ b ∷ []) before after e h.1 w)

-- ITS ROW
-- so often it came to stops; and in a bay it is at its call, until its second
record IsServed (S : Setup) (d : ℕ) (es : List News) (r : Row) : Type 0 where
  count : times arrives_at_stop es ≡ r.vehicle.served
  in_bay : r.stage ≡ Bay → IsAtCall S d es r.link r.second

-- at a call it has come to one stop more
calls_then : (S : Setup) (d l n : ℕ) (es : List News) (c : IsAtCall S d es l n) → times arrives_at_stop es ≡ times arrives_at_stop c.earlier + 1
calls_then S d l n es c =
    let none = no_calls c.riders (recursion_from_All IsRiderWord c.riders c.only_riders) in
    let one : ones arrives_at_stop c.came ≡ 1 = rw c.arrived refl in
    ap (times arrives_at_stop) c.split ∙ (omega (arith, sum_by-append (ones arrives_at_stop) c.earlier (c.came ∷ c.riders), sum_by-cons (ones arrives_at_stop) c.came c.riders))

-- a later second will do, too
later : (S : Setup) (d l n u : ℕ) (es : List News) → n ≤ u → IsAtCall S d es l n → IsAtCall S d es l u
later S d l n u es le c =
    let a = c.dwell in
    record { earlier = c.earlier; came = c.came; riders = c.riders; split = c.split; arrived = c.arrived; next = c.next; stop = c.stop; link = c.link; on = c.on; only_riders = c.only_riders; dwell = omega arith; wait = λ w. (let b = c.wait w in omega arith) }

-- how long it stays
stays_long : (D : Dwelling) (t : ℕ) (v : VehicleState) (ws : List Waiter) → t + stand D (length (alighting (next_call v).stop v.riders)) (length (boarding v ws)) ≤ stays_until D t v ws
unfolding stays_until
stays_long D t v ws =
    let call = next_call v in
    let n = t + stand D (length (alighting call.stop v.riders)) (length (boarding v ws)) in
    elim (cases_Bool call.wait) [ inl e ↦ rw e (omega arith) | inr e ↦ rw e (omega arith) ]

stays_waiting : (D : Dwelling) (t : ℕ) (v : VehicleState) (ws : List Waiter) → (next_call v).wait ≡ true → v.departed + (next_call v).offset ≤ stays_until D t v ws
unfolding stays_until
stays_waiting D t v ws e = rw e (omega arith)

-- VEHICLES BY NUMBER
same_is : (u : VehicleId) (d : ℕ) → same_vehicle u (vehicle.Transit d) ≡ true → u ≡ vehicle.Transit d
same_is (vehicle.Car i) d h = absurd (cc)
same_is (vehicle.Transit e) d h = ap (λ (k : ℕ). vehicle.Transit k) (eqb-true e d h)

one_its : (d : ℕ) (v : VehicleState) → v.id ≡ vehicle.Transit d → is_its (vehicle.Transit d) v ≡ 1
one_its d v q = ap (λ (u : VehicleId). counted u (vehicle.Transit d) 1) q ∙ (let e = eq-eqb d d refl in rw e refl)

none_its : (d : ℕ) (rows : List Row) → rows_it_has (vehicle.Transit d) rows ≡ 0 → Each (λ (r : Row). r.vehicle.id ≡ vehicle.Transit d → ⊥) rows
none_its d [] h = tt
none_its d (r ∷ rs) h =
    let c = sum_by-cons (λ (x : Row). is_its (vehicle.Transit d) x.vehicle) r rs in
    ((λ q. (let one = one_its d r.vehicle q in absurd (omega arith))), none_its d rs (omega arith))

-- what is told at a stop
abbrev stop_list : VehicleId → ℕ → ℕ → List Rider → List Rider → List Occurrence
stop_list id l stop outs ins = of_vehicle word.VehicleArrivesAtFacility id l (more.Stop stop) ∷ (flat_map (leaves id l) outs ++ flat_map (enters id) ins)

stop_list_are : (d t l stop : ℕ) (outs ins : List Rider) → at_stops d (map (at_time t) (stop_list (vehicle.Transit d) l stop outs ins)) ≡ at_time t (of_vehicle word.VehicleArrivesAtFacility (vehicle.Transit d) l (more.Stop stop)) ∷ (left_news d t outs ++ boarding_news d t ins)
stop_list_are d t l stop outs ins =
    let q = eq-eqb d d refl in
    let came = at_time t (of_vehicle word.VehicleArrivesAtFacility (vehicle.Transit d) l (more.Stop stop)) in
    let rest : at_stops d (map (at_time t) (flat_map (leaves (vehicle.Transit d) l) outs ++ flat_map (enters (vehicle.Transit d)) ins)) ≡ left_news d t outs ++ boarding_news d t ins =
    ap (at_stops d) (map-append (at_time t) (flat_map (leaves (vehicle.Transit d) l) outs) (flat_map (enters (vehicle.Transit d)) ins))
    ∙ stops_more d (map (at_time t) (flat_map (leaves (vehicle.Transit d) l) outs)) (map (at_time t) (flat_map (enters (vehicle.Transit d)) ins))
    ∙ ap (λ (xs : List News). xs ++ at_stops d (map (at_time t) (flat_map (enters (vehicle.Transit d)) ins))) (leaves_are d t l outs)
    ∙ ap (λ (xs : List News). left_news d t outs ++ xs) (enters_are d t ins) in
    simp q (ap (λ (xs : List News). came ∷ xs) rest)

stop_list_of : (d t l stop : ℕ) (id : VehicleId) (outs ins : List Rider) → id ≡ vehicle.Transit d → at_stops d (map (at_time t) (stop_list id l stop outs ins)) ≡ at_time t (of_vehicle word.VehicleArrivesAtFacility id l (more.Stop stop)) ∷ (left_news d t outs ++ boarding_news d t ins)
stop_list_of d t l stop id outs ins q =
    subst (λ (u : VehicleId). at_stops d (map (at_time t) (stop_list u l stop outs ins)) ≡ at_time t (of_vehicle word.VehicleArrivesAtFacility u l (more.Stop stop)) ∷ (left_news d t outs ++ boarding_news d t ins)) (sym q) (stop_list_are d t l stop outs ins)

-- ONE MOVE
module _ (S : Setup) (d t : ℕ) where
  -- 1 once its departure has come
  abbrev ready : ℕ
  ready = if nat_le (departure S d).second t then 1 else 0

  abbrev Serves : List News → Row → Type 0
  Serves es r = r.vehicle.id ≡ vehicle.Transit d → IsServed S d es r

  record IsBus (hs : List News) (W : World) (ms : List Move) : Type 0 where
    few : rows_it_has (vehicle.Transit d) W.rows + new_ones (vehicle.Transit d) ms ≤ ready
    begun : (at_stops d hs ≡ []) ⊎ ((departure S d).second ≤ t)
    idle : (at_stops d hs ≡ []) ⊎ (new_ones (vehicle.Transit d) ms ≡ 0)
    gone : Gone S d [] (at_stops d hs)
    rows : Each (Serves (at_stops d hs)) W.rows

  -- a move by which nothing is told of it at stops
  silent : (m : Move) (W : World) → IsTaken m W → at_stops d (spoken t m) ≡ [] → (hs : List News) (ms : List Move) → IsBus hs W (m ∷ ms) → Each (Serves (at_stops d hs)) (done S t m W).rows → IsBus (hs ++ spoken t m) (done S t m W) ms
  silent m W taken none hs ms j keep =
      let same : at_stops d (hs ++ spoken t m) ≡ at_stops d hs = stops_more d hs (spoken t m) ∙ ap (λ (ys : List News). at_stops d hs ++ ys) none ∙ append-nil (at_stops d hs) in
      let a = adds (vehicle.Transit d) S t m W taken in
      let c = sum_by-cons (new_one (vehicle.Transit d)) m ms in
      let few = j.few in
      record {
        few = omega arith;
        begun = elim j.begun [ inl e ↦ inl (same ∙ e) | inr le ↦ inr le ];
        idle = elim j.idle [ inl e ↦ inl (same ∙ e) | inr z ↦ inr (omega arith) ];
        gone = rw same j.gone;
        rows = rw same keep;
      }

  -- a move that takes its row
  own : (m : Move) (W : World) → IsTaken m W → 1 ≤ rows_it_has (vehicle.Transit d) W.rows → (hs : List News) (ms : List Move) → IsBus hs W (m ∷ ms) → Gone S d (at_stops d hs) (at_stops d (spoken t m))
      → Each (Serves (at_stops d hs ++ at_stops d (spoken t m))) (done S t m W).rows → IsBus (hs ++ spoken t m) (done S t m W) ms
  own m W taken some hs ms j g keep =
      let same = stops_more d hs (spoken t m) in
      let a = adds (vehicle.Transit d) S t m W taken in
      let c = sum_by-cons (new_one (vehicle.Transit d)) m ms in
      let few = j.few in
      let one : ready ≤ 1 = grind arith in
      let come : (departure S d).second ≤ t = elim (cases_Bool (nat_le (departure S d).second t)) [ inl e ↦ leb-true (departure S d).second t e | inr e ↦ let z : ready ≡ 0 = rw e refl in absurd (omega arith) ] in
      record {
        few = omega arith;
        begun = inr come;
        idle = inr (omega arith);
        gone = rw same (gone_append S d [] (at_stops d hs) (at_stops d (spoken t m)) j.gone g);
        rows = rw same keep;
      }

  its_rows : (a : ℕ) (s : Stage) (k : ℕ) (r : Row) (W : World) → slice_get (at a s W) k ≡ Some r → r.vehicle.id ≡ vehicle.Transit d → rows_it_has (vehicle.Transit d) (without (on a s) k W.rows) + 1 ≡ rows_it_has (vehicle.Transit d) W.rows
  its_rows a s k r W e q =
      let one = one_its d r.vehicle q in
      let w = weight-without (is_its (vehicle.Transit d)) (on a s) k r.vehicle W.rows (stands a s k r W e) in
      omega arith

  row_of : (a : ℕ) (s : Stage) (k : ℕ) (r : Row) (W : World) (es : List News) → slice_get (at a s W) k ≡ Some r → Each (Serves es) W.rows → Serves es r × (r.stage ≡ s) × (r.link ≡ a)
  row_of a s k r W es e h = at_such (Serves es) a s k r W.rows (All-from_recursion (Serves es) W.rows h) e

  -- what is asked of a row that is taken, if it is its row: what is told, and what it is then
  abbrev Takes : Row → Row → Move → Type 0
  Takes r now m = r.vehicle.id ≡ vehicle.Transit d → (es : List News) → IsServed S d es r → Gone S d es (at_stops d (spoken t m)) × IsServed S d (es ++ at_stops d (spoken t m)) now

  transfer : (a : ℕ) (s : Stage) (k : ℕ) (r now : Row) (W : World) → slice_get (at a s W) k ≡ Some r → now.vehicle.id ≡ r.vehicle.id → AreOf r.vehicle.id (told (Transfer a s k r now)) → Takes r now (Transfer a s k r now) → KeepsRest IsBus S t W (Transfer a s k r now)
  transfer a s k r now W e id of takes hs ms j =
      let m = Transfer a s k r now in
      let es = at_stops d hs in
      let taken : IsTaken m W = (stands a s k r W e, id) in
      let few = j.few in
      let one : ready ≤ 1 = grind arith in
      elim (cases_Bool (same_vehicle r.vehicle.id (vehicle.Transit d))) [
        | inl q ↦
            let its = same_is r.vehicle.id d q in
            let w = its_rows a s k r W e its in
            let y = takes its es ((row_of a s k r W es e j.rows).0 its) in
            let all = es ++ at_stops d (spoken t m) in
            own m W taken (omega arith) hs ms j y.0
            (each_append (Serves all) (without (on a s) k W.rows) (now ∷ [])
            (each_weaker (λ (x : Row). x.vehicle.id ≡ vehicle.Transit d → ⊥) (Serves all) (λ x no p. absurd (no p)) (without (on a s) k W.rows) (none_its d (without (on a s) k W.rows) (omega arith))) ((λ p. y.1), tt))
        | inr q ↦
            silent m W taken (others_none d t r.vehicle.id (told m) q of) hs ms j
            (each_append (Serves es) (without (on a s) k W.rows) (now ∷ []) (each_without (Serves es) (on a s) k W.rows j.rows)
            ((λ p. absurd (let z : same_vehicle r.vehicle.id (vehicle.Transit d) ≡ true = rw (sym id ∙ p) (same_self (vehicle.Transit d)) in cc)), tt))
      ]

  remove : (a : ℕ) (s : Stage) (k : ℕ) (r : Row) (W : World) → slice_get (at a s W) k ≡ Some r → AreOf r.vehicle.id (told (Remove a s k r)) → Words (λ w. departs_from_stop w ≡ false) (told (Remove a s k r)) → KeepsRest IsBus S t W (Remove a s k r)
  remove a s k r W e of words hs ms j =
      let m = Remove a s k r in
      let es = at_stops d hs in
      let taken : IsTaken m W = stands a s k r W e in
      let few = j.few in
      let one : ready ≤ 1 = grind arith in
      elim (cases_Bool (same_vehicle r.vehicle.id (vehicle.Transit d))) [
        | inl q ↦
            let w = its_rows a s k r W e (same_is r.vehicle.id d q) in
            let all = es ++ at_stops d (spoken t m) in
            let stay = each_kept Stays (is_at_stop d) (spoken t m) (each_map (λ (x : Occurrence). departs_from_stop x.word ≡ false) Stays (at_time t) (λ x h. h) (told m) words) in
            own m W taken (omega arith) hs ms j (gone_none S d es (at_stops d (spoken t m)) stay)
            (each_weaker (λ (x : Row). x.vehicle.id ≡ vehicle.Transit d → ⊥) (Serves all) (λ x no p. absurd (no p)) (without (on a s) k W.rows) (none_its d (without (on a s) k W.rows) (omega arith)))
        | inr q ↦ silent m W taken (others_none d t r.vehicle.id (told m) q of) hs ms j (each_without (Serves es) (on a s) k W.rows j.rows)
      ]

  -- THE ROW ITSELF
  -- it goes on its way without a stop
  still : (r now : Row) (m : Move) → at_stops d (spoken t m) ≡ [] → now.vehicle.served ≡ r.vehicle.served → (now.stage ≡ Bay → ⊥) → Takes r now m
  still r now m none same away its es s =
      let here : es ++ at_stops d (spoken t m) ≡ es = ap (λ (ys : List News). es ++ ys) none ∙ append-nil es in
      (rw none tt, rw here (record { count = s.count ∙ sym same; in_bay = λ q. absurd (away q) }))

  -- it goes on from a stop
  goes : (a k : ℕ) (r : Row) → r.stage ≡ Bay → r.second ≤ t → (r.vehicle.id ≡ vehicle.Transit d → IsTransit S d r.vehicle) → Takes r (waiting a r) (Transfer a Bay k r (waiting a r))
  goes a k r stage due fit its es s =
      let u = at_time t (of_vehicle word.VehicleDepartsAtFacility r.vehicle.id r.link (more.Stop (call_at r.vehicle.calls (r.vehicle.served - 1)).stop)) in
      let c = later S d r.link r.second t es due (s.in_bay stage) in
      let made = calls_then S d r.link t es c in
      let count = s.count in
      let number : r.vehicle.served - 1 ≡ times arrives_at_stop c.earlier = omega arith in
      let what : u.what.more ≡ c.came.what.more =
      ap (λ (n : ℕ). more.Stop (call_at r.vehicle.calls n).stop) number ∙ ap (λ (cs : List StopCall). more.Stop (call_at cs (times arrives_at_stop c.earlier)).stop) (fit its).calls ∙ sym c.stop in
      let q = eq-eqb d d refl in
      let only : at_stops d (u ∷ []) ≡ u ∷ [] = (let z : same_vehicle r.vehicle.id (vehicle.Transit d) ≡ true = rw its (same_self (vehicle.Transit d)) in simp z) in (
        rw only ((λ w. record { place = r.link; link = refl; call = c; stop = what }), tt),
        rw only (record { count = omega (arith, sum_by-append (ones arrives_at_stop) es (u ∷ []), sum_by-cons (ones arrives_at_stop) u []); in_bay = λ b. absurd (cc) }),
      )

  -- what is told when it is served
  served_news : (s : Bool) (r now : Row) (ins : List Rider) → now.stage ≡ Bay → boarded (next_call r.vehicle).stop r.vehicle.riders now.vehicle.riders ≡ ins → r.vehicle.id ≡ vehicle.Transit d →
      at_stops d (map (at_time t) (told_transfer (serving_stage s) r now)) ≡ at_time t (of_vehicle word.VehicleArrivesAtFacility r.vehicle.id r.link (more.Stop (next_call r.vehicle).stop)) ∷ (left_news d t (alighting (next_call r.vehicle).stop r.vehicle.riders) ++ boarding_news d t ins)
  served_news s r now ins bay board its =
      let stop = (next_call r.vehicle).stop in
      let outs = alighting stop r.vehicle.riders in
      let list = stop_list r.vehicle.id r.link stop outs ins in
      let here : serves r now ≡ list = ap (λ (xs : List Rider). stop_list r.vehicle.id r.link stop outs xs) board in
      let to : told_to now.stage r now ≡ serves r now = rw bay refl in
      let front : at_stops d (map (at_time t) (told_transfer (serving_stage s) r now)) ≡ at_stops d (map (at_time t) (told_to now.stage r now)) =
      elim s as (λ s. at_stops d (map (at_time t) (told_transfer (serving_stage s) r now)) ≡ at_stops d (map (at_time t) (told_to now.stage r now))) [
        | true ↦
            ap (at_stops d) (map-append (at_time t) (starts r) (told_to now.stage r now)) ∙ stops_more d (map (at_time t) (starts r)) (map (at_time t) (told_to now.stage r now))
            ∙ ap (λ (ys : List News). ys ++ at_stops d (map (at_time t) (told_to now.stage r now))) (quiet_none d t (starts r) (starts_words (λ w. any_stop w ≡ false) r refl))
        | false ↦ refl
      ] in
      front ∙ ap (λ (xs : List Occurrence). at_stops d (map (at_time t) xs)) (to ∙ here) ∙ stop_list_of d t r.link stop r.vehicle.id outs ins its

  -- it comes to a stop
  calls : (a : ℕ) (s : Bool) (ws : List Waiter) (r : Row) → r.link ≡ a → calls_on a r.vehicle ≡ true → (r.vehicle.id ≡ vehicle.Transit d → IsTransit S d r.vehicle) → Takes r (served_row S.settings.dwell t a ws r.vehicle) (Transfer a (serving_stage s) 0 r (served_row S.settings.dwell t a ws r.vehicle))
  unfolding served_vehicle
  calls a s ws r here on_it fit its es was =
      let v = r.vehicle in
      let D = S.settings.dwell in
      let now = served_row D t a ws v in
      let stop = (next_call v).stop in
      let outs = alighting stop v.riders in
      let ins = map rider (boarding v ws) in
      let came = at_time t (of_vehicle word.VehicleArrivesAtFacility v.id r.link (more.Stop stop)) in
      let riders = left_news d t outs ++ boarding_news d t ins in
      let only = all_riders d t outs ins in
      let told_it = served_news s r now ins refl (boarded-are v ws) its in
      let count = was.count in
      let next : call_after S d es ≡ next_call v = ap (λ (cs : List StopCall). call_at cs (times arrives_at_stop es)) (sym (fit its).calls) ∙ ap (λ (n : ℕ). call_at v.calls n) count in
      let called = and_parts (nat_lt v.served (length v.calls)) ((next_call v).link == a) on_it in
      let left = left_counts d t outs in
      let board = boarding_counts d t ins in
      let l0 = left.0 in
      let l1 = left.1 in
      let b0 = board.0 in
      let b1 = board.1 in
      let out : times alights_from riders ≡ length outs = omega (arith, sum_by-append (ones alights_from) (left_news d t outs) (boarding_news d t ins)) in
      let in_ : times boards_it riders ≡ length (boarding v ws) = omega (arith, sum_by-append (ones boards_it) (left_news d t outs) (boarding_news d t ins), length-map (boarding v ws) rider) in
      let none = no_calls riders only in
      let one : times arrives_at_stop (es ++ came ∷ riders) ≡ v.served + 1 = omega (arith, sum_by-append (ones arrives_at_stop) es (came ∷ riders), sum_by-cons (ones arrives_at_stop) came riders) in
      let at_call : IsAtCall S d (es ++ came ∷ riders) a (stays_until D t v ws) = record {
        earlier = es;
        came = came;
        riders = riders;
        split = refl;
        arrived = refl;
        next = (let lt = ltb-true v.served (length v.calls) called.0 in let same : length v.calls ≡ length (departure S d).calls = ap (λ (cs : List StopCall). length cs) (fit its).calls in omega arith);
        stop = ap (λ (c : StopCall). more.Stop c.stop) (sym next);
        link = ap (λ (l : ℕ). Some l) here;
        on = ap (λ (c : StopCall). c.link) next ∙ eqb-true (next_call v).link a called.1;
        only_riders = All-from_recursion IsRiderWord riders only;
        dwell = rw (out, in_) (stays_long D t v ws);
        wait = λ w. subst (λ (c : StopCall). (departure S d).second + c.offset ≤ stays_until D t v ws) (sym next) (subst (λ (n : ℕ). n + (next_call v).offset ≤ stays_until D t v ws) (fit its).departed (stays_waiting D t v ws (sym (ap (λ (c : StopCall). c.wait) next) ∙ w)));
      } in (
        rw told_it (gone_none S d es (came ∷ riders) (refl, each_weaker IsRiderWord Stays (λ e h. rider_goes e.what.word h) riders only)),
        rw told_it (record { count = one; in_bay = λ q. at_call }),
      )

  -- EVERY MOVE
  abbrev Keeps : World → Move → Type 0
  Keeps W m = Fit S W → KeepsRest IsBus S t W m

  fit_of : (a : ℕ) (s : Stage) (k : ℕ) (r : Row) (W : World) → Fit S W → slice_get (at a s W) k ≡ Some r → r.vehicle.id ≡ vehicle.Transit d → IsTransit S d r.vehicle
  fit_of a s k r W h e q = subst (IsIts S r.vehicle) q (found (IsFit S) a s k r W.rows h e).its

  place_of : (a : ℕ) (s : Stage) (k : ℕ) (r : Row) (W : World) → slice_get (at a s W) k ≡ Some r → (r.stage ≡ s) × (r.link ≡ a)
  place_of a s k r W e = (let y = at_such (λ (x : Row). Unit {0}) a s k r W.rows (λ j n lt. tt) e in (y.1, y.2))

  quiet : (m : Move) (W : World) → IsTaken m W → Words (λ w. any_stop w ≡ false) (told m) → rows_after m W.rows ≡ W.rows → KeepsRest IsBus S t W m
  quiet m W taken words same hs ms j = silent m W taken (quiet_none d t (told m) words) hs ms j (rw same j.rows)

  marked : (es : List News) (a : ℕ) (rows : List Row) → Each (Serves es) rows → Each (Serves es) (with_first (on a Buffer) (at_second t) rows)
  marked es a [] h = tt
  marked es a (r ∷ rs) h =
      elim (cases_Bool (on a Buffer r)) [
        | inl e ↦
            let q = and_parts (eqb (rank r.stage) (rank Buffer)) (eqb r.link a) e in
            let one : rank r.stage ≡ 1 = eqb-true (rank r.stage) 1 q.0 in
            simp e ((λ p. record { count = (h.0 p).count; in_bay = λ b. absurd (let three : rank r.stage ≡ 3 = ap rank b in omega arith) }), h.1)
        | inr e ↦ simp e (h.0, marked es a rs h.1)
      ]

  cars : (i kind : ℕ) (route : List ℕ) (W : World) → KeepsRest IsBus S t W (Enter (car i route kind))
  cars i kind route W hs ms j =
      silent (Enter (car i route kind)) W tt (others_none d t (vehicle.Car i) (told (Enter (car i route kind))) refl (refl, tt)) hs ms j
      (each_append (Serves (at_stops d hs)) W.rows (car i route kind ∷ []) j.rows ((λ p. absurd (cc)), tt))

  new_bus : (e : ℕ) (W : World) → KeepsRest IsBus S t W (Enter (transit_vehicle e (departure S e)))
  new_bus e W hs ms j =
      let m = Enter (transit_vehicle e (departure S e)) in
      let c = sum_by-cons (new_one (vehicle.Transit d)) m ms in
      silent m W tt (quiet_none d t (told m) (refl, tt)) hs ms j
      (each_append (Serves (at_stops d hs)) W.rows (transit_vehicle e (departure S e) ∷ []) j.rows (
        (λ p. elim j.idle [
          | inl none ↦ rw none (record { count = refl; in_bay = λ q. absurd (cc) })
          | inr z ↦ absurd (let one : new_one (vehicle.Transit d) m ≡ 1 = one_its d (transit_vehicle e (departure S e)).vehicle p in omega arith)
        ]),
        tt,
      ))

  front_still : (a : ℕ) (s : Bool) (r : Row) (b : ℕ) → at_stops d (spoken t (Transfer a (serving_stage s) 0 r (buffered t a b r))) ≡ []
  front_still a s r b = quiet_none d t (told (Transfer a (serving_stage s) 0 r (buffered t a b r))) (front_words (λ w. any_stop w ≡ false) s r (buffered t a b r) refl tt)

  cases : Cases S t Keeps
  unfolding served_vehicle
  cases =
      record {
        due = λ a k r W e u f. (let p = place_of a Bay k r W e in transfer a Bay k r (waiting a r) W e refl (refl, tt) (goes a k r p.0 u (fit_of a Bay k r W f e)));
        serve = λ a s ws r xs W e u c q f. (
            let now = served_row S.settings.dwell t a ws r.vehicle in
            let front : slice_get (at a (serving_stage s) W) 0 ≡ Some r = rw e refl in
            transfer a (serving_stage s) 0 r now W front refl (front_of s r now (serves_of r now)) (calls a s ws r (place_of a (serving_stage s) 0 r W front).1 c (fit_of a (serving_stage s) 0 r W f front))
            );
        arrive = λ a s r xs W e u c o f. remove a (serving_stage s) 0 r W (rw e refl) (end_of s r) (end_words (λ w. departs_from_stop w ≡ false) s r refl refl (record { comes = refl; leaves = refl; arrives = refl; begins = refl; enters = refl }));
        pass = λ a s b r xs W e u c o f. transfer a (serving_stage s) 0 r (buffered t a b r) W (rw e refl) refl (front_of s r (buffered t a b r) tt) (still r (buffered t a b r) (Transfer a (serving_stage s) 0 r (buffered t a b r)) (front_still a s r b) refl (λ q. cc));
        pay = λ a c W f. quiet (Credit a c) W tt tt refl;
        free = λ a W f. quiet (LeaveHole a t) W tt tt refl;
        nodes = λ n. record {
          enter = λ a e r xs W f q c fit. transfer a Buffer 0 r (entered t e r.vehicle) W (rw f.rows refl) refl (refl, (refl, tt)) (still r (entered t e r.vehicle) (Transfer a Buffer 0 r (entered t e r.vehicle)) (quiet_none d t (told (Transfer a Buffer 0 r (entered t e r.vehicle))) (refl, (refl, tt))) refl (λ z. cc));
          abort = λ a r xs W f c fit. remove a Buffer 0 r W (rw f.rows refl) (aborts_of r) (aborts_words (λ w. departs_from_stop w ≡ false) r refl refl);
          mark = λ a W c fit hs ms j. silent (SetFrontSince a t) W tt refl hs ms j (marked (at_stops d hs) a W.rows j.rows);
        };
        land = λ i mode seconds began W lt p e f. quiet (Report (lands i mode seconds (act_after S i (person_of i W).element))) W tt (refl, (refl, (refl, tt))) refl;
        leave = λ i W lt p f. quiet (departing S i W) W tt (refl, (refl, tt)) refl;
        drive = λ i route W lt p e f. cars i (act_after S i (person_of i W).element).kind route (done S t (departing S i W) W);
        wait = λ i line access egress W lt p e f. quiet (Report (of_person word.WaitingForPt i (link_of_stop S access) (more.Stop access) ∷ [])) (done S t (departing S i W) W) tt (refl, tt) refl;
        start = λ e W lt q f. new_bus e W;
      }

-- THE DAY
record IsSoFar (S : Setup) (d n : ℕ) (hs : List News) (W : World) : Type 0 where
  begun : (at_stops d hs ≡ []) ⊎ ((departure S d).second < n)
  gone : Gone S d [] (at_stops d hs)
  rows : Each (λ (r : Row). r.vehicle.id ≡ vehicle.Transit d → IsServed S d (at_stops d hs) r) W.rows

second_so_far : (S : Setup) (d t : ℕ) (hs : List News) → IsSoFar S d t hs (world_at S t) → IsSoFar S d (suc t) (hs ++ spoken_all t (second_moves S t (world_at S t))) (run S t (second_moves S t (world_at S t)) (world_at S t))
second_so_far S d t hs h =
    let W = world_at S t in
    let ms = second_moves S t W in
    let rows = rows_due d S t in
    let new = second_new d S t W in
    let within : due d S t + now d S t ≤ ready S d t = grind (arith, nat_tests) in
    let over : (departure S d).second < t → now d S t ≡ 0 = λ lt. grind (arith, nat_tests) in
    let start : IsBus S d t hs W ms = record {
      few = omega arith;
      begun = elim h.begun [ inl e ↦ inl e | inr lt ↦ inr (omega arith) ];
      idle = elim h.begun [ inl e ↦ inl e | inr lt ↦ inr (let z = over lt in omega arith) ];
      gone = h.gone;
      rows = h.rows;
    } in
    let keep = along_given (λ V m. Fit S V) (KeepsRest (IsBus S d t) S t) S t ms W (second_walk S t (Keeps S d t) (cases S d t) W) (fit_moves S t) in
    let y = rest_kept (IsBus S d t) S t ms W hs keep start in
    record { begun = elim y.begun [ inl e ↦ inl e | inr le ↦ inr (omega arith) ]; gone = y.gone; rows = y.rows }

stuck_none : (d : ℕ) (es : List News) → Each IsStuck es → at_stops d es ≡ []
stuck_none d [] h = refl
stuck_none d (e ∷ es) h = let no : is_at_stop d e ≡ false = rw h.0.word refl in simp no (stuck_none d es h.1)

pub buses_wait : (S : Setup) (d : ℕ) → WaitsAtStops S d
unfolding world_start
buses_wait S d =
    let end = S.settings.end_second in
    let hs = news (events_from S (world_start S) end) in
    let more = news (end_events S end (world_at S end)) in
    let all : at_stops d (news (day S)) ≡ at_stops d hs = ap (at_stops d) (day_news S) ∙ stops_more d hs more ∙ ap (λ (xs : List News). at_stops d hs ++ xs) (stuck_none d more (end_stuck S end (world_at S end))) ∙ append-nil (at_stops d hs) in
    let y = day_by_moves (IsSoFar S d) S (record { begun = inl refl; gone = tt; rows = tt }) (second_so_far S d) end in
    record { each = λ before after e is w. gone_at S d [] before after e (subst (Gone S d []) (sym all ∙ is) y.gone) w }
