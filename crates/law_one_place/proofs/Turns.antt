-- The turns of persons, departures, nodes and links keep everybody in one place, and so do the phases, seconds and days.
use Rattle.traffic.proofs.Common.{◌≡◌, ℕ, List, ◌∙◌, ap, refl, sym, [], ◌∷◌, arith, true, ◌++◌, Bool, inl, inr, false, eqb, cases_Bool, eqb-true, length-map}
use Rattle.traffic.proofs.Common.{get_or-map, Phase, PlanRows, Act, Leg, world_at, turns_of, world_start, through, phases, second, at_home, waiting, buffered}
use Rattle.traffic.proofs.Common.{run, done, person_after_all, person_after, entered, sets_out, transit_vehicle, departs, lands, car, World, person_of, nobody}
use Rattle.traffic.proofs.Common.{Setup, act_after, leg_at, act_at, link_of_stop, departure, served_row, served_vehicle, told_to, told_transfer, told_removal}
use Rattle.traffic.proofs.Common.{arrives, starts, of_person, OnePlace}
use Rattle.traffic.proofs.{LeftBehind.serving_stage, LeftBehind.after-append, LinkWalk.LinkCases, LinkWalk.link_walk, Moments.kept_along, NodeWalk.NodeCases}
use Rattle.traffic.proofs.{NodeWalk.node_walk, Sublists.person-done, Waiting.run-length, Walks.flight_walk, Walks.leave_walk, Walks.departure_walk}
use Rattle.traffic.{proofs.Walks.phases_keep, proofs.Walks.seconds_keep, specs.declared.moves.Move.Move}
use Rattle.traffic.specs.declared.moves.Move.TheVariants.{Transfer, Remove, Enter, SetFrontSince, Credit, LeaveHole, Report}
use Rattle.traffic.specs.declared.{moves.Occurrence.Occurrence, stage.Stage.TheVariants.Buffer, stage.Stage.TheVariants.Bay, world.Person.Person, world.Row.Row}
use Rattle.events.specs.declared.event.Phase.TheVariants as phase
use Rattle.events.specs.declared.event.VehicleId.TheVariants as vehicle
use Rattle.events.specs.declared.event.More.TheVariants as more
use Rattle.events.specs.declared.event.Word.TheVariants as word
use Rattle.rows.specs.declared.plan.Leg.TheVariants as leg
use Rattle.law_one_place.proofs.Places.{stands, Stays, InOne, move_keeps, rides, Change, after_move, rides_few, IsOff, Walks, Enters}
use Rattle.law_one_place.proofs.Boarding.{aborts_out, starts_none, arrives_out, served, waiters_in_line, start_off}

-- PERSONS AND DEPARTURES
-- where it is the turn of person j, and he is in no vehicle
abbrev LeaveHole_one : ℕ → ℕ → World → Type 0
LeaveHole_one j i W = eqb j i ≡ true → IsOff (person_of i W).place

-- what is told of person j lets him walk, and is nothing to others
told_keeps : (S : Setup) (t j i : ℕ) (says : List Occurrence) (W : World) → (eqb j i ≡ true → IsOff (after_move S t i (Report says) W).place) → (eqb j i ≡ false → after_move S t i (Report says) W ≡ person_of i W) → LeaveHole_one j i W → InOne i W → InOne i (done S t (Report says) W)
told_keeps S t j i says W walks stays f h =
    move_keeps S t i (Report says) W tt (elim (cases_Bool (eqb j i)) [ inl e ↦ Walks refl (f e) (walks e) | inr e ↦ Stays refl (ap (λ P. P.place) (stays e)) ]) h

pub place_of : (j i : ℕ) (W : World) → eqb j i ≡ true → (person_of i W).place ≡ (person_of j W).place
place_of j i W e = ap (λ (k : ℕ). (person_of k W).place) (sym (eqb-true j i e))

flight_keeps : (S : Setup) (t j i : ℕ) (W : World) → InOne i W → InOne i (run S t (turns_of S t phase.A j W) W)
unfolding turns_of person_after
flight_keeps S t j i W h =
    let P = person_of i W in
    let next = act_after S j (person_of j W).element in
    flight_walk (λ ms. InOne i (run S t ms W)) S t j (person_of j W) h
    (λ mode seconds start p w e. told_keeps S t j i (lands j mode seconds next) W (λ q. simp q (start_off S t i P P.place refl)) (λ q. simp q) (λ q. rw (place_of j i W q ∙ p) tt) h)

sets_out_keeps : (S : Setup) (t j i : ℕ) (w : Leg) (next : Act) (W : World) → LeaveHole_one j i W → InOne i W → InOne i (run S t (sets_out S j w next) W)
unfolding person_after
sets_out_keeps S t j i (leg.Car route) next W f h =
    let r = car j route next.kind in
    let c : Change (vehicle.Car j) 0 (rides i r.vehicle) (person_of i W).place (after_move S t i (Enter r) W).place =
    elim (cases_Bool (eqb j i)) [ inl e ↦ simp e (Enters refl refl (f e) refl) | inr e ↦ simp e (Stays refl refl) ] in
    move_keeps S t i (Enter r) W tt c h
sets_out_keeps S t j i (leg.Teleport mode seconds) next W f h = h
sets_out_keeps S t j i (leg.Transit line access egress) next W f h =
    told_keeps S t j i (of_person word.WaitingForPt j (link_of_stop S access) (more.Stop access) ∷ []) W (λ q. simp q tt) (λ q. simp q) f h

leave_keeps : (S : Setup) (t j i : ℕ) (W : World) → InOne i W → InOne i (run S t (turns_of S t phase.B1 j W) W)
unfolding turns_of person_after
leave_keeps S t j i W h =
    let P = person_of j W in
    let m = Report (departs j (act_at S j P.element) (leg_at S j P.element)) in
    leave_walk (λ ms. InOne i (run S t ms W)) S t j (person_of j W) h
    (λ p. sets_out_keeps S t j i (leg_at S j P.element) (act_after S j P.element) (done S t m W) (λ q. rw (person-done S t i m W h.there) (simp q tt))
    (told_keeps S t j i (departs j (act_at S j P.element) (leg_at S j P.element)) W (λ q. simp q tt) (λ q. simp q) (λ q. rw (place_of j i W q ∙ p) tt) h))

-- NODES AND LINKS
-- that a vehicle starts changes nobody
pub started : (S : Setup) (t i : ℕ) (r : Row) (xs : List Occurrence) (P : Person) → person_after_all S t i (starts r ++ xs) P ≡ person_after_all S t i xs P
started S t i r xs P = after-append S t i (starts r) xs P ∙ ap (person_after_all S t i xs) (starts_none S t i r P)

pub told_front : (S : Setup) (t i : ℕ) (s : Bool) (r now : Row) (P : Person) → person_after_all S t i (told_transfer (serving_stage s) r now) P ≡ person_after_all S t i (told_to now.stage r now) P
told_front S t i false r now P = refl
told_front S t i true r now P = started S t i r (told_to now.stage r now) P

pub told_end : (S : Setup) (t i : ℕ) (s : Bool) (r : Row) (P : Person) → person_after_all S t i (told_removal (serving_stage s) r) P ≡ person_after_all S t i (arrives r) P
told_end S t i false r P = refl
told_end S t i true r P = started S t i r (arrives r) P

-- a move keeps a person in one place
abbrev pub Keeps_one : Setup → ℕ → ℕ → World → Move → Type 0
Keeps_one S t i W m = InOne i W → InOne i (done S t m W)

pub nodes_keep : (S : Setup) (t n i : ℕ) → NodeCases S t n (Keeps_one S t i)
nodes_keep S t n i =
    record {
      enter = λ a e r xs W f q c h. move_keeps S t i (Transfer a Buffer 0 r (entered t e r.vehicle)) W (rw f.rows refl, refl) (Stays refl refl) h;
      abort = λ a r xs W f c h. move_keeps S t i (Remove a Buffer 0 r) W (rw f.rows refl) (aborts_out S t i r (person_of i W)) h;
      mark = λ a W c h. move_keeps S t i (SetFrontSince a t) W tt (Stays refl refl) h;
    }

pub links_keep : (S : Setup) (t l i : ℕ) → LinkCases S t l (Keeps_one S t i)
unfolding served_vehicle
links_keep S t l i =
    record {
      due = λ k r W e c h. move_keeps S t i (Transfer l Bay k r (waiting l r)) W (stands l Bay k r W e, refl) (Stays refl refl) h;
      serve = λ s ws r xs W f c e h. (
          let now = served_row S.settings.dwell t l ws r.vehicle in
          let few = rides_few i l (serving_stage s) 0 r W (rw f refl) h in
          move_keeps S t i (Transfer l (serving_stage s) 0 r now) W (rw f refl, refl) (rw (told_front S t i s r now (person_of i W)) (served S t i S.settings.dwell l ws r (person_of i W) few.0 few.1 (rw e (waiters_in_line S l i W)))) h
          );
      arrive = λ s r xs W f c o h. move_keeps S t i (Remove l (serving_stage s) 0 r) W (rw f refl) (rw (told_end S t i s r (person_of i W)) (arrives_out S t i r (person_of i W))) h;
      pass = λ s b r xs W f c o h. (let now = buffered t l b r in move_keeps S t i (Transfer l (serving_stage s) 0 r now) W (rw f refl, refl) (rw (told_front S t i s r now (person_of i W)) (Stays refl refl)) h);
      pay = λ c W h. move_keeps S t i (Credit l c) W tt (Stays refl refl) h;
      free = λ W h. move_keeps S t i (LeaveHole l t) W tt (Stays refl refl) h;
    }

-- TURNS, PHASES, SECONDS
pub turn_keeps : (S : Setup) (t n i : ℕ) (p : Phase) (W : World) → InOne i W → InOne i (run S t (turns_of S t p n W) W)
unfolding turns_of
turn_keeps S t n i phase.A W h = flight_keeps S t n i W h
turn_keeps S t n i phase.B1 W h = leave_keeps S t n i W h
turn_keeps S t n i phase.B2 W h = departure_walk (λ ms. InOne i (run S t ms W)) S t n h (λ e. move_keeps S t i (Enter (transit_vehicle n (departure S n))) W tt (Stays refl refl) h)
turn_keeps S t n i phase.C W h = kept_along (InOne i) S t _ W (node_walk S t n (Keeps_one S t i) (nodes_keep S t n i) W) h
turn_keeps S t n i phase.D W h = kept_along (InOne i) S t _ W (link_walk S t n (Keeps_one S t i) (links_keep S t n i) W) h
turn_keeps S t n i phase.E W h = h

pub through_keeps : (S : Setup) (t i : ℕ) (ps : List Phase) (W : World) → InOne i W → InOne i (through S t ps W)
through_keeps S t i ps W h = phases_keep (InOne i) S t (λ p n V lt. turn_keeps S t n i p V) ps W h

pub second_kept : (S : Setup) (t : ℕ) (W : World) → OnePlace S W → OnePlace S (second S t W)
second_kept S t W h =
    phases_keep (OnePlace S) S t
    (λ p n V lt o. let row = o.one_row in record { one_row = run-length S t (turns_of S t p n V) V ∙ o.one_row; one_place = λ i few. (turn_keeps S t n i p V (record { there = omega arith; listed = o.one_place i few })).listed })
    phases W h

pub start_kept : (S : Setup) → OnePlace S (world_start S)
unfolding world_start
start_kept S =
    let none : PlanRows = record { acts = []; legs = [] } in
    record { one_row = length-map S.persons at_home; one_place = λ i lt. rw (get_or-map at_home S.persons i none nobody lt) refl }

pub always_kept : (S : Setup) (t : ℕ) → OnePlace S (world_at S t)
always_kept S t = seconds_keep (OnePlace S) S (second_kept S) (world_start S) t (start_kept S)
