-- A vehicle that drives on or is served at a stop stays sound, and so does a person who leaves an activity, arrives, is lost or boards.
use Rattle.traffic.proofs.Common.{◌≡◌, ℕ, List, ◌∙◌, length, ap, refl, sym, [], ◌∷◌, arith, ◌<◌, true, ◌+◌, Bool, inl, inr, subst, ◌≤◌, false, eqb, get_or}
use Rattle.traffic.proofs.Common.{drop, ◌/◌, ◌⊎◌, add-one, cases_Bool, eqb-true, and_parts, cases_lt, eq-eqb, eqb-false, ne_eqb, ltb-true, ltb-false, nat_tests}
use Rattle.traffic.proofs.Common.{not-true, All-get_or, flat_map, map, Some, None, Option, nat_lt, ◌%◌, VehicleId, StopCall, calls_at, Act, Leg, Transit, Car}
use Rattle.traffic.proofs.Common.{Dwelling, is_last, person_after_all, start_act, person_after, ends_at, next_link, nobody, Setup, act_after, leg_at, act_at}
use Rattle.traffic.proofs.Common.{person_plan, is_egress, call_at, served_row, next_call, alighting, rider, calls_on, staying, served_vehicle, boarding}
use Rattle.traffic.proofs.Common.{riders_after, alights, may_board, arrives, enters, leaves, serves, driver, of_driver, aborts, VehicleState, IsLeg}
use Rattle.traffic.proofs.{Common.IsInVehicle, Common.HasEnd, Common.IsSoundPerson, Common.HasLeg, Common.IsOwn, Common.AreServable, Each.each_append}
use Rattle.traffic.proofs.{Each.each_filter, Each.each_map, Each.each_boarding, Each.each_weaker, LeftBehind.serving_stage, LeftBehind.after-append}
use Rattle.traffic.{proofs.Waiting.boarded-are, specs.Worlds.is_last_act, specs.declared.riders.Rider.Rider, specs.declared.stage.Stage.TheVariants.Queue}
use Rattle.traffic.specs.declared.{stage.Stage.TheVariants.Buffer, stage.Stage.TheVariants.Wait, stage.Stage.TheVariants.Bay, world.Person.Person}
use Rattle.traffic.specs.declared.world.{Place.Place, Place.TheVariants.At, Place.TheVariants.Riding, Place.TheVariants.Aborted, Row.Row, Waiter.Waiter}
use Rattle.std.{proofs.Math.Seq.drop-cons, proofs.lemmas.List.drop_all, specs.List.AllByRecursion as Each}
use Rattle.events.specs.declared.event.VehicleId.TheVariants as vehicle
use Rattle.events.specs.declared.event.Word.TheVariants as word
use Rattle.law_one_place.proofs.Boarding.{IsTold, start_off, leaves_told, strands_told, quiet, riders_are}
use Rattle.law_one_place.proofs.Places.{among_riders, rides, IsOff}
use Rattle.law_sound_setups.proofs.Fine.{IsAlone, IsPlain, IsBy, Fits, Carries}
use Rattle.law_sound_setups.specs.Setups.{IsSoundPlan, IsSoundSetup}

-- WHOSE IT IS
-- a vehicle is whose it was wherever it stands and whoever rides
own_moved : (S : Setup) (v : VehicleState) (place : ℕ) (started pushed : Bool) (riders : List Rider) (id : VehicleId) → IsOwn S v id → IsOwn S (record v { place = place; started = started; riders = riders; pushed = pushed }) id
own_moved S v place started pushed riders (vehicle.Car i) h =
    record { there = h.there; line = h.line; calls = h.calls; served = h.served; departed = h.departed; seats = h.seats }
own_moved S v place started pushed riders (vehicle.Transit d) h =
    record { there = h.there; route = h.route; line = h.line; calls = h.calls; served = h.served; departed = h.departed; seats = h.seats }

-- and so it is after one more call
own_served : (S : Setup) (v : VehicleState) (riders : List Rider) (id : VehicleId) → v.served < length v.calls → IsOwn S v id → IsOwn S (record v { started = true; riders = riders; served = v.served + 1 }) id
own_served S v riders (vehicle.Car i) lt h = absurd (let e = ap length h.calls in omega arith)
own_served S v riders (vehicle.Transit d) lt h =
    record { there = h.there; route = h.route; line = h.line; calls = h.calls; served = omega arith; departed = h.departed; seats = h.seats }

-- a vehicle with a call is no car
alone_served : (S : Setup) (v : VehicleState) (id : VehicleId) (ss : List Rider) → v.served < length v.calls → IsOwn S v id → IsAlone id ss
alone_served S v (vehicle.Car i) ss lt h = absurd (let e = ap length h.calls in omega arith)
alone_served S v (vehicle.Transit d) ss lt h = tt

pub stage_plain : (S : Setup) (l : ℕ) (s : Bool) (v : VehicleState) → IsPlain S (serving_stage s) l v → IsPlain S Wait l v
stage_plain S l true v h = h
stage_plain S l false v h = record { own = h.own; stage = tt; place = h.place; link = h.link; calls = h.calls; alone = h.alone; riders = h.riders }

pub entered_plain : (S : Setup) (a : ℕ) (pushed : Bool) (v : VehicleState) → IsPlain S Buffer a v → IsPlain S Queue (next_link v) (record v { place = v.place + 1; pushed = pushed })
entered_plain S a pushed v h =
    record { own = own_moved S v (v.place + 1) v.started pushed v.riders v.id h.own; stage = tt; place = h.stage; link = refl; calls = h.calls; alone = h.alone; riders = h.riders }

pub waiting_plain : (S : Setup) (l : ℕ) (v : VehicleState) → IsPlain S Bay l v → IsPlain S Wait l v
waiting_plain S l v h = record { own = h.own; stage = tt; place = h.place; link = h.link; calls = h.calls; alone = h.alone; riders = h.riders }

-- CALLS
calls_split : (calls : List StopCall) (k : ℕ) → k < length calls → drop k calls ≡ call_at calls k ∷ drop (k + 1) calls
calls_split calls k lt = rw add-one (drop-cons calls k _ lt)

pass_one : (c : StopCall) (cs : List StopCall) (l : ℕ) (xs : List ℕ) → eqb c.link l ≡ false → AreServable (c ∷ cs) (l ∷ xs) → AreServable (c ∷ cs) xs
pass_one c cs l xs e h = let q = ne_eqb l c.link (λ q. eqb-false c.link l e (sym q)) in simp q at h

serve_one : (c : StopCall) (cs : List StopCall) (l : ℕ) (xs : List ℕ) → eqb c.link l ≡ true → AreServable (c ∷ cs) (l ∷ xs) → AreServable cs (l ∷ xs)
serve_one c cs l xs e h = let q = eq-eqb l c.link (sym (eqb-true c.link l e)) in (simp q at h).1

-- what is ahead begins with the link where the vehicle is
ahead_split : (S : Setup) (l : ℕ) (v : VehicleState) → IsPlain S Wait l v → drop v.place v.route ≡ l ∷ drop (v.place + 1) v.route
ahead_split S l v h = rw (h.link, add-one) (drop-cons v.route v.place 0 h.place)

passing : (S : Setup) (l : ℕ) (v : VehicleState) → calls_on l v ≡ false → IsPlain S Wait l v → AreServable (drop v.served v.calls) (drop (v.place + 1) v.route)
passing S l v e h =
    let s = subst (AreServable (drop v.served v.calls)) (ahead_split S l v h) h.calls in
    elim (cases_Bool (nat_lt v.served (length v.calls))) [
      | inl lt ↦
          let c = calls_split v.calls v.served (ltb-true _ _ lt) in
          let f : eqb (next_call v).link l ≡ false = simp lt at e in
          rw c (pass_one (next_call v) _ l _ f (subst (λ (cs : List StopCall). AreServable cs (l ∷ drop (v.place + 1) v.route)) c s))
      | inr ge ↦ rw (drop_all v.served v.calls (ltb-false _ _ ge)) tt
    ]

pub buffered_plain : (S : Setup) (l : ℕ) (v : VehicleState) → calls_on l v ≡ false → is_last v ≡ false → IsPlain S Wait l v → IsPlain S Buffer l (record v { started = true })
buffered_plain S l v e f h =
    record {
      own = own_moved S v v.place true v.pushed v.riders v.id h.own;
      stage = grind (arith, nat_tests, eqb-false (v.place + 1) (length v.route) f);
      place = h.place;
      link = h.link;
      calls = passing S l v e h;
      alone = h.alone;
      riders = h.riders;
    }

-- SERVED
has_call : (l : ℕ) (v : VehicleState) → calls_on l v ≡ true → (v.served < length v.calls) × (eqb (next_call v).link l ≡ true)
has_call l v e = let a = and_parts (nat_lt v.served (length v.calls)) (eqb (next_call v).link l) e in (ltb-true v.served (length v.calls) a.0, a.1)

serving : (S : Setup) (l : ℕ) (v : VehicleState) → calls_on l v ≡ true → IsPlain S Wait l v → AreServable (drop (v.served + 1) v.calls) (drop v.place v.route)
serving S l v e h =
    let a = has_call l v e in
    let s = subst (AreServable (drop v.served v.calls)) (ahead_split S l v h) h.calls in
    rw (ahead_split S l v h) (serve_one (next_call v) _ l _ a.1 (subst (λ (cs : List StopCall). AreServable cs (l ∷ drop (v.place + 1) v.route)) (calls_split v.calls v.served a.0) s))

pub served_plain : (S : Setup) (l : ℕ) (v : VehicleState) (ws : List Waiter) → calls_on l v ≡ true → Each (λ (w : Waiter). w.person < length S.persons) ws → IsPlain S Wait l v → IsPlain S Bay l (served_vehicle v ws)
unfolding served_vehicle riders_after
served_plain S l v ws e g h =
    let a = has_call l v e in
    let n = length S.persons in
    record {
      own = own_served S v _ v.id a.0 h.own;
      stage = omega arith;
      place = h.place;
      link = h.link;
      calls = serving S l v e h;
      alone = alone_served S v v.id _ a.0 h.own;
      riders = each_append _ (staying (next_call v).stop v.riders) (map rider (boarding v ws)) (each_filter _ _ _ (λ x q p. p) v.riders h.riders)
          (each_map (λ (w : Waiter). w.person < n) (λ (x : Rider). x.person < n) rider (λ w p. p) (boarding v ws) (each_boarding (λ (w : Waiter). w.person < n) (λ (w : Waiter). w.person < n) v (λ w q p. p) ws g));
    }

-- who waits at a stop: a person that is there and in no vehicle, on a transit leg of his plan
abbrev pub IsWayOf : Waiter → Leg → Type 0
IsWayOf w (Transit line access egress) = (line ≡ w.line) × (egress ≡ w.egress)
IsWayOf w _ = ⊥

pub record IsWaiting (S : Setup) (P : Person) (w : Waiter) : Type 0 where
  pub there : w.person < length S.persons
  pub off : IsOff P.place
  pub leg : IsLeg S w.person P.element
  pub by : IsWayOf w (leg_at S w.person P.element)
  pub kind : w.kind ≡ (act_after S w.person P.element).kind

-- each of these waits, by the rows of all persons
abbrev pub Wait_all : Setup → List Person → List Waiter → Type 0
Wait_all S ps ws = Each (λ (w : Waiter). IsWaiting S (get_or ps w.person nobody) w) ws

-- who stays has a later stop
stays_by : (id : VehicleId) (route : List ℕ) (line : ℕ) (c : StopCall) (cs : List StopCall) (w : Leg) (next : Act) (x : Rider) → alights c.stop x ≡ false → HasLeg x w next → IsBy route line (c ∷ cs) id w → IsBy route line cs id w
stays_by (vehicle.Car i) route line c cs w next x e h g = g
stays_by (vehicle.Transit d) route line c cs (Transit n access egress) next x e h g =
    let f : eqb egress c.stop ≡ false = subst (λ (o : Option ℕ). is_egress c.stop o ≡ false) h.0 e in
    let q : eqb c.stop egress ≡ false = ne_eqb c.stop egress (λ k. eqb-false egress c.stop f (sym k)) in
    (g.0, simp q at g.1)
stays_by (vehicle.Transit d) route line c cs w next x e h g = absurd g

-- who boards is on a leg that the vehicle serves
boards_by : (S : Setup) (v : VehicleState) (id : VehicleId) (cs : List StopCall) (u : Leg) (next : Act) (w : Waiter) → v.served < length v.calls → IsOwn S v id → IsWayOf w u → w.kind ≡ next.kind → w.line ≡ v.line → calls_at w.egress cs ≡ true →
    HasLeg (rider w) u next × IsBy v.route v.line cs id u
boards_by S v (vehicle.Car i) cs u next w lt own by kind e f = absurd (let q = ap length own.calls in omega arith)
boards_by S v (vehicle.Transit d) cs (Transit n access egress) next w lt own by kind e f = ((ap Some (sym by.1), kind), (by.0 ∙ e, rw by.1 f))
boards_by S v (vehicle.Transit d) cs u next w lt own by kind e f = absurd by

boards_one : (S : Setup) (ps : List Person) (l i : ℕ) (v : VehicleState) (w : Waiter) → calls_on l v ≡ true → IsPlain S Wait l v → may_board v w ≡ true → IsWaiting S (get_or ps w.person nobody) w → w.person ≡ i →
    HasLeg (rider w) (leg_at S i (get_or ps i nobody).element) (act_after S i (get_or ps i nobody).element) × IsBy v.route v.line (drop (v.served + 1) v.calls) v.id (leg_at S i (get_or ps i nobody).element)
boards_one S ps l i v w e h may g q =
    let a = has_call l v e in
    subst (λ (j : ℕ). HasLeg (rider w) (leg_at S j (get_or ps j nobody).element) (act_after S j (get_or ps j nobody).element) × IsBy v.route v.line (drop (v.served + 1) v.calls) v.id (leg_at S j (get_or ps j nobody).element)) q
    (boards_by S v v.id (drop (v.served + 1) v.calls) _ _ w a.0 h.own g.by g.kind (grind (arith, nat_tests)) (grind arith))

pub served_carries : (S : Setup) (ps : List Person) (l i : ℕ) (v : VehicleState) (ws : List Waiter) → calls_on l v ≡ true → Wait_all S ps ws → IsPlain S Wait l v → Carries S i (get_or ps i nobody).element v → Carries S i (get_or ps i nobody).element (served_vehicle v ws)
unfolding served_vehicle riders_after
served_carries S ps l i v ws e g h c =
    let a = has_call l v e in
    let E = (get_or ps i nobody).element in
    let after = served_vehicle v ws in
    let split = calls_split v.calls v.served a.0 in
    each_append (Fits S i E after) (staying (next_call v).stop v.riders) (map rider (boarding v ws))
    (each_filter (Fits S i E v) (Fits S i E after) _
    (λ x q p k. (let f = p k in (f.0, stays_by v.id v.route v.line (next_call v) (drop (v.served + 1) v.calls) (leg_at S i E) (act_after S i E) x (not-true _ q) f.0 (subst (λ (cs : List StopCall). IsBy v.route v.line cs v.id (leg_at S i E)) split f.1)))) v.riders c)
    (each_map (λ (w : Waiter). Fits S i E after (rider w)) (Fits S i E after) rider (λ w p. p) (boarding v ws)
    (each_boarding (λ (w : Waiter). IsWaiting S (get_or ps w.person nobody) w) (λ (w : Waiter). Fits S i E after (rider w)) v (λ w may p. boards_one S ps l i v w e h may p) ws g))

-- PLANS
pub plan_sound : (S : Setup) (i : ℕ) → IsSoundSetup S → i < length S.persons → IsSoundPlan (person_plan S i)
plan_sound S i f lt = All-get_or IsSoundPlan S.persons i _ lt f.persons

ends_later : (last : Bool) (end : Option ℕ) (t : ℕ) → HasEnd last end → HasEnd last (ends_at end t)
ends_later last None t h = h
ends_later last (Some end) t h = h

pub arrive_sound : (S : Setup) (t i e : ℕ) → IsSoundSetup S → i < length S.persons → IsLeg S i e → IsSoundPerson S i (e + 1) (At (ends_at (act_at S i (e + 1)).end t))
arrive_sound S t i e f lt h =
    let p = plan_sound S i f lt in
    let less : (e + 1) / 2 < length (person_plan S i).acts = omega arith in
    ((omega arith, less), ends_later (is_last_act S i (e + 1)) _ t (p.ends ((e + 1) / 2) less))

pub leave_leg : (S : Setup) (i e end : ℕ) → IsSoundSetup S → i < length S.persons → IsSoundPerson S i e (At (Some end)) → IsLeg S i (e + 1)
leave_leg S i e end f lt h =
    let p = plan_sound S i f lt in
    let less : e / 2 < length (person_plan S i).legs = grind (arith, nat_tests, h.1) in
    (omega arith, omega arith)

-- the leg that begins is the one that the activity before it shows
pub way_same : (S : Setup) (i e : ℕ) → e % 2 ≡ 0 → leg_at S i (e + 1) ≡ leg_at S i e
way_same S i e even = let half : (e + 1) / 2 ≡ e / 2 = omega arith in ap (λ (k : ℕ). get_or (person_plan S i).legs k (Car [])) half

pub next_same : (S : Setup) (i e : ℕ) → e % 2 ≡ 0 → act_after S i (e + 1) ≡ act_after S i e
next_same S i e even =
    let half : (e + 1 + 2) / 2 ≡ (e + 2) / 2 = omega arith in ap (λ (k : ℕ). get_or (person_plan S i).acts k (record { kind = 0; link = 0; end = None })) half

-- a rider's next activity begins
pub start_sound : (S : Setup) (t i : ℕ) (P : Person) (pl : Place) → IsSoundSetup S → i < length S.persons → (IsOff pl → ⊥) → IsSoundPerson S i P.element pl → IsSoundPerson S i (start_act S t i P pl).element (start_act S t i P pl).place
start_sound S t i P (Riding v) f lt o h = arrive_sound S t i P.element f lt h.0
start_sound S t i P _ f lt o h = absurd (o tt)

lost_sound : (S : Setup) (i e l : ℕ) (pl : Place) → (IsOff pl → ⊥) → IsSoundPerson S i e pl → IsSoundPerson S i e (Aborted l)
lost_sound S i e l (Riding v) o h = h
lost_sound S i e l _ o h = absurd (o tt)

-- ONE PERSON BEFORE AND AFTER
pub record IsPassage (S : Setup) (i : ℕ) (P N : Person) : Type 0 where
  pub sound : IsSoundPerson S i N.element N.place
  -- he is in no vehicle then, or his element is the same
  pub calm : IsOff N.place ⊎ (N.element ≡ P.element)

pub stay_passage : (S : Setup) (i : ℕ) (P N : Person) → N ≡ P → IsSoundPerson S i P.element P.place → IsPassage S i P N
stay_passage S i P N e h = rw e (record { sound = h; calm = inr refl })

-- whoever rides gets out
out_passage : (S : Setup) (i n : ℕ) (does : Person → Person) (P N : Person) → n ≤ 1 → (IsOff P.place → n ≡ 0) → ((IsOff P.place → ⊥) → IsSoundPerson S i (does P).element (does P).place × IsOff (does P).place) → IsSoundPerson S i P.element P.place → IsTold does IsOff n P N → IsPassage S i P N
out_passage S i n does P N few none f h told =
    elim (cases_lt 0 n) [
      | inl lt ↦
          let z = f (λ o. (let q = none o in omega arith)) in
          let e : N ≡ does P = told.1 (omega arith) in
          record { sound = rw e z.0; calm = inl (rw e z.1) }
      | inr ge ↦ stay_passage S i P N (told.0 (omega arith)) h
    ]

leave_passage : (S : Setup) (t i : ℕ) (v : VehicleId) (l : ℕ) (rs : List Rider) (P : Person) → IsSoundSetup S → i < length S.persons → among_riders i rs ≤ 1 → (IsOff P.place → among_riders i rs ≡ 0) → IsSoundPerson S i P.element P.place →
    IsPassage S i P (person_after_all S t i (flat_map (leaves v l) rs) P)
leave_passage S t i v l rs P f lt few none h =
    out_passage S i (among_riders i rs) (λ Q. start_act S t i Q Q.place) P _ few none (λ o. (start_sound S t i P P.place f lt o h, start_off S t i P P.place refl)) h (leaves_told S t i v l rs P)

pub arrive_passage : (S : Setup) (t i : ℕ) (r : Row) (P : Person) → IsSoundSetup S → i < length S.persons → (rides i r.vehicle ≤ 1) × (IsOff P.place → rides i r.vehicle ≡ 0) → IsSoundPerson S i P.element P.place → IsPassage S i P (person_after_all S t i (arrives r) P)
unfolding person_after
arrive_passage S t i r P f lt few h =
    let v = r.vehicle in
    let e : person_after_all S t i (arrives r) P ≡ person_after_all S t i (flat_map (leaves v.id r.link) v.riders) P =
    ap (person_after_all S t i (flat_map (leaves v.id r.link) v.riders)) (quiet S t i (of_driver word.VehicleLeavesTraffic v.id r.link) (driver v.id) P refl) in
    rw e (leave_passage S t i v.id r.link v.riders P f lt few.0 few.1 h)

pub abort_passage : (S : Setup) (t i : ℕ) (r : Row) (P : Person) → (rides i r.vehicle ≤ 1) × (IsOff P.place → rides i r.vehicle ≡ 0) → IsSoundPerson S i P.element P.place → IsPassage S i P (person_after_all S t i (aborts r) P)
abort_passage S t i r P few h =
    out_passage S i (rides i r.vehicle) (λ Q. record Q { place = Aborted r.link }) P _ few.0 few.1 (λ o. (lost_sound S i P.element r.link P.place o h, tt)) h (strands_told S t i r.vehicle.id r.link r.vehicle.riders P)

-- A STOP
enters_keep : (S : Setup) (t i : ℕ) (v : VehicleId) (T : Person → Type 0) (rs : List Rider) (P : Person) → Each (λ (x : Rider). x.person ≡ i → (N : Person) → T N → T (record N { place = Riding v })) rs → T P → T (person_after_all S t i (flat_map (enters v) rs) P)
unfolding person_after
enters_keep S t i v T [] P f h = h
enters_keep S t i v T (r ∷ rs) P f h =
    elim (cases_Bool (eqb r.person i)) [
      | inl e ↦ simp e (enters_keep S t i v T rs (record P { place = Riding v }) f.1 (f.0 (eqb-true r.person i e) P h))
      | inr e ↦ simp e (enters_keep S t i v T rs P f.1 h)
    ]

-- whoever boards was in no vehicle, and on a leg in one
abbrev pub Boards : Setup → Person → ℕ → Type 0
Boards S P i = IsOff P.place × IsLeg S i P.element × IsInVehicle (leg_at S i P.element)

pub serve_passage : (S : Setup) (t i : ℕ) (D : Dwelling) (l : ℕ) (ws : List Waiter) (r : Row) (P : Person) → IsSoundSetup S → i < length S.persons → (rides i r.vehicle ≤ 1) × (IsOff P.place → rides i r.vehicle ≡ 0) →
    Each (λ (x : Rider). x.person ≡ i → Boards S P i) (map rider (boarding r.vehicle ws)) → IsSoundPerson S i P.element P.place → IsPassage S i P (person_after_all S t i (serves r (served_row D t l ws r.vehicle)) P)
unfolding served_vehicle
serve_passage S t i D l ws r P f lt few b h =
    let v = r.vehicle in
    let stop = (next_call v).stop in
    let outs = alighting stop v.riders in
    let ins = map rider (boarding v ws) in
    let Q = person_after_all S t i (flat_map (leaves v.id r.link) outs) P in
    let N = person_after_all S t i (flat_map (enters v.id) ins) Q in
    let part : among_riders i outs + among_riders i (staying stop v.riders) ≡ rides i v = riders_are i stop v.riders in
    rw (boarded-are v ws, after-append S t i (flat_map (leaves v.id r.link) outs) (flat_map (enters v.id) ins) P)
    (elim (cases_lt 0 (among_riders i outs)) [
      | inl more ↦
          let e : N ≡ Q =
          enters_keep S t i v.id (λ (X : Person). X ≡ Q) ins Q (each_weaker (λ (x : Rider). x.person ≡ i → Boards S P i) _ (λ x k q X g. absurd (let z = few.1 (k q).0 in omega arith)) ins b) refl in
          rw e (leave_passage S t i v.id r.link outs P f lt (omega arith) (λ o. (let z = few.1 o in omega arith)) h)
      | inr none ↦
          let q : Q ≡ P = (leaves_told S t i v.id r.link outs P).0 (omega arith) in
          let z : (N.element ≡ P.element) × IsSoundPerson S i N.element N.place =
          enters_keep S t i v.id (λ (X : Person). (X.element ≡ P.element) × IsSoundPerson S i X.element X.place) ins Q
          (each_weaker (λ (x : Rider). x.person ≡ i → Boards S P i) _ (λ x k w X g. (g.0, rw g.0 ((k w).1, (k w).2))) ins b) (rw q (refl, h)) in
          record { sound = z.1; calm = inr z.0 }
    ])
