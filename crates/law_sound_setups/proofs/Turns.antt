-- The turns of nodes, persons and departures, and with those of links the phases of a second, keep all sound.
use Rattle.traffic.proofs.Common.{◌≡◌, ℕ, List, length, ap, refl, sym, [], ◌∷◌, arith, ◌<◌, true, ◌+◌, inl, inr, subst, false, eqb, ◌/◌, cases_Bool, eqb-true}
use Rattle.traffic.proofs.Common.{eq-eqb, eqb-false, All-get_or, None, not, Phase, Act, Leg, Transit, Car, Teleport, turns_of, through, count_of, landing_turns}
use Rattle.traffic.proofs.Common.{leaving_turns, departure_turns, run, done, person_after_all, start_act, person_after, entered, has_room, sets_out}
use Rattle.traffic.proofs.Common.{transit_vehicle, departs, lands, car, World, person_of, Setup, act_after, leg_at, act_at, person_plan, link_of_stop}
use Rattle.traffic.proofs.Common.{departure, of_person, IsLeg, IsInVehicle, IsTeleported, IsFrom, IsSoundPerson, HasLeg, IsAlong}
use Rattle.traffic.proofs.{Moments.kept_along, NodeWalk.NodeCases, NodeWalk.node_walk}
use Rattle.traffic.proofs.Walks.{flight_walk, leave_walk, departure_walk, phases_keep}
use Rattle.traffic.specs.declared.moves.Move.TheVariants.{Transfer, Remove, Enter, SetFrontSince, Report}
use Rattle.traffic.specs.declared.{moves.Occurrence.Occurrence, riders.Rider.Rider, stage.Stage.TheVariants.Buffer, world.Person.Person, world.Place.Place}
use Rattle.traffic.specs.declared.world.Place.TheVariants.{Teleporting, Waiting, Riding}
use Rattle.events.specs.declared.event.Phase.TheVariants as phase
use Rattle.events.specs.declared.event.VehicleId.TheVariants as vehicle
use Rattle.events.specs.declared.event.Word.TheVariants as word
use Rattle.events.specs.declared.event.More.TheVariants as more
use Rattle.law_one_place.proofs.Boarding.{aborts_out}
use Rattle.law_one_place.proofs.Places.{Stays, rides_few, Walks, Enters, rides, IsOff, after_move}
use Rattle.law_sound_setups.proofs.Fine.{Good, IsPlain, Carries, Fine, found, fine_move, fine_weaker, IsStep}
use Rattle.law_sound_setups.proofs.{Links.link_keeps, Steps.entered_plain, Steps.abort_passage, Steps.plan_sound, Steps.arrive_sound, Steps.leave_leg}
use Rattle.law_sound_setups.{proofs.Steps.way_same, proofs.Steps.next_same, specs.Setups.IsSoundRun, specs.Setups.IsSoundSetup}
use Rattle.rows.specs.Plan.{HasRoute}

-- NODES
nodes_good : (S : Setup) (t n : ℕ) → NodeCases S t n (λ W m. Good S W → Good S (done S t m W))
nodes_good S t n =
    record {
      enter = λ a e r xs W f q c h.
          fine_move (IsSoundPerson S) (IsSoundPerson S) S t (Transfer a Buffer 0 r (entered t e r.vehicle)) W (rw f.rows refl, refl) (entered_plain S a (not (has_room e)) r.vehicle (found (IsPlain S) a Buffer 0 r W.rows h.plain (rw f.rows refl)))
          (λ i lt g. record { change = Stays refl refl; sound = g.sound; calm = inr refl; brings = found (λ z l v. Carries S i (person_of i W).element v) a Buffer 0 r W.rows g.carried (rw f.rows refl) }) h;
      abort = λ a r xs W f c h.
          fine_move (IsSoundPerson S) (IsSoundPerson S) S t (Remove a Buffer 0 r) W (rw f.rows refl) tt
          (λ i lt g. (
          let P = person_of i W in
          let k = abort_passage S t i r P (rides_few i a Buffer 0 r W (rw f.rows refl) g.one) g.sound in
          record { change = aborts_out S t i r P; sound = k.sound; calm = k.calm; brings = tt }
          )) h;
      mark = λ a W c h. fine_move (IsSoundPerson S) (IsSoundPerson S) S t (SetFrontSince a t) W tt tt (λ i lt g. record { change = Stays refl refl; sound = g.sound; calm = inr refl; brings = tt }) h;
    }

-- PERSONS
-- What is told of person j alone, by which he goes from one place outside to another. R holds of each person's place before, and T after.
told_good : (R T : ℕ → ℕ → Place → Type 0) (S : Setup) (t j : ℕ) (says : List Occurrence) (now : Person) (W : World) → person_after_all S t j says (person_of j W) ≡ now → ((i : ℕ) (P : Person) → eqb j i ≡ false → person_after_all S t i says P ≡ P) →
    IsOff (person_of j W).place → IsOff now.place → T j now.element now.place → ((i e : ℕ) (pl : Place) → eqb j i ≡ false → R i e pl → T i e pl) → Fine R S W → Fine T S (done S t (Report says) W)
told_good R T S t j says now W told quiet off out sound others h =
    let own : IsStep T S j (Report says) (person_of j W) (after_move S t j (Report says) W) = rw told (record { change = Walks refl off out; sound = sound; calm = inl out; brings = tt }) in
    fine_move R T S t (Report says) W tt tt
    (λ i lt g. elim (cases_Bool (eqb j i)) [
      | inl e ↦ subst (λ (k : ℕ). IsStep T S k (Report says) (person_of k W) (after_move S t k (Report says) W)) (eqb-true j i e) own
      | inr e ↦ rw (quiet i (person_of i W) e) (record { change = Stays refl refl; sound = others i _ _ e g.sound; calm = inr refl; brings = tt })
    ]) h

flight_good : (S : Setup) (t j : ℕ) (W : World) → IsSoundSetup S → j < length S.persons → Good S W → Good S (run S t (landing_turns S t j W) W)
unfolding person_after
flight_good S t j W f lt h =
    let P = person_of j W in
    let q = eq-eqb j j refl in
    flight_walk (λ ms. Good S (run S t ms W)) S t j (person_of j W) h
    (λ mode seconds start p w e. (
    let leg : IsLeg S j P.element = (subst (λ (pl : Place). IsSoundPerson S j P.element pl) p (h.good j lt).sound).0 in
    told_good (IsSoundPerson S) (IsSoundPerson S) S t j (lands j mode seconds (act_after S j P.element)) (start_act S t j P (Teleporting start)) W (simp q (ap (λ (pl : Place). start_act S t j P pl) p)) (λ i O e. simp e) (rw p tt) tt
    (arrive_sound S t j P.element f lt leg) (λ i e pl b s. s) h
    ))

-- in the midst of a person's turn he is under way, on the leg that is this element of his plan; all others are as they were
abbrev Setting : Setup → ℕ → ℕ → ℕ → ℕ → ℕ → Place → Type 0
Setting S t j k i e pl = (eqb j i ≡ true → (e ≡ k) × (pl ≡ Teleporting t)) × (eqb j i ≡ false → IsSoundPerson S i e pl)

drive_good : (S : Setup) (t j k : ℕ) (route : List ℕ) (next : Act) (W : World) → IsSoundSetup S → j < length S.persons → IsLeg S j k → leg_at S j k ≡ Car route → act_after S j k ≡ next → Fine (Setting S t j k) S W → Good S (done S t (Enter (car j route next.kind)) W)
unfolding person_after
drive_good S t j k route next W f lt leg q p h =
    let r = car j route next.kind in
    let x : Rider = record { person = j; egress = None; kind = next.kind } in
    let P = person_of j W in
    let o = eq-eqb j j refl in
    let s = (h.good j lt).sound.0 o in
    let some : 0 < length route = subst HasRoute q (All-get_or HasRoute (person_plan S j).legs (k / 2) (Car []) leg.1 (plan_sound S j f lt).legs) in
    let a : after_move S t j (Enter r) W ≡ record P { place = Riding (vehicle.Car j) } = simp o in
    let one : rides j r.vehicle ≡ 1 = simp o in
    let fits : HasLeg x (leg_at S j k) (act_after S j k) × IsAlong route (leg_at S j k) = subst (λ (w : Leg). HasLeg x w (act_after S j k) × IsAlong route w) (sym q) ((refl, ap (λ (n : Act). n.kind) (sym p)), refl) in
    let own : IsStep (IsSoundPerson S) S j (Enter r) P (after_move S t j (Enter r) W) =
    rw a (record {
      change = Enters refl one (rw s.1 tt) refl;
      sound = subst (λ (e : ℕ). IsLeg S j e × IsInVehicle (leg_at S j e)) (sym s.0) (leg, subst IsInVehicle (sym q) tt);
      calm = inr refl;
      brings = ((λ e. subst (λ (n : ℕ). HasLeg x (leg_at S j n) (act_after S j n) × IsAlong route (leg_at S j n)) (sym s.0) fits), tt);
    }) in
    fine_move (Setting S t j k) (IsSoundPerson S) S t (Enter r) W tt (record {
      own = record { there = lt; line = refl; calls = refl; served = refl; departed = refl; seats = refl };
      stage = tt;
      place = some;
      link = refl;
      calls = tt;
      alone = (refl, (refl, tt));
      riders = (lt, tt);
    })
    (λ i few g. elim (cases_Bool (eqb j i)) [
      | inl e ↦ subst (λ (n : ℕ). IsStep (IsSoundPerson S) S n (Enter r) (person_of n W) (after_move S t n (Enter r) W)) (eqb-true j i e) own
      | inr e ↦
          let b : after_move S t i (Enter r) W ≡ person_of i W = simp e in
          let none : rides i r.vehicle ≡ 0 = simp e in
          rw b (record { change = Stays none refl; sound = g.sound.1 e; calm = inr refl; brings = ((λ c. absurd (eqb-false j i e c)), tt) })
    ]) h

sets_out_good : (S : Setup) (t j k : ℕ) (w : Leg) (next : Act) (W : World) → IsSoundSetup S → j < length S.persons → IsLeg S j k → leg_at S j k ≡ w → act_after S j k ≡ next → Fine (Setting S t j k) S W → Good S (run S t (sets_out S j w next) W)
unfolding person_after
sets_out_good S t j k (Car route) next W f lt leg q p h = drive_good S t j k route next W f lt leg q p h
sets_out_good S t j k (Teleport mode seconds) next W f lt leg q p h =
    fine_weaker (Setting S t j k) (IsSoundPerson S) S W.rows W.persons
    (λ i e pl s. elim (cases_Bool (eqb j i)) [
      | inl b ↦ rw ((s.0 b).0, (s.0 b).1) (subst (λ (n : ℕ). IsLeg S n k × IsTeleported (leg_at S n k)) (eqb-true j i b) (leg, subst IsTeleported (sym q) tt))
      | inr b ↦ s.1 b
    ]) h
sets_out_good S t j k (Transit line access egress) next W f lt leg q p h =
    let P = person_of j W in
    let o = eq-eqb j j refl in
    let s = (h.good j lt).sound.0 o in
    told_good (Setting S t j k) (IsSoundPerson S) S t j (of_person word.WaitingForPt j (link_of_stop S access) (more.Stop access) ∷ []) (record P { place = Waiting access t }) W (simp o) (λ i O e. simp e) (rw s.1 tt) tt
    (subst (λ (e : ℕ). IsLeg S j e × IsFrom access (leg_at S j e)) (sym s.0) (leg, subst (IsFrom access) (sym q) refl)) (λ i e pl b g. g.1 b) h

leave_good : (S : Setup) (t j : ℕ) (W : World) → IsSoundSetup S → j < length S.persons → Good S W → Good S (run S t (leaving_turns S t j W) W)
unfolding person_after
leave_good S t j W f lt h =
    let P = person_of j W in
    let e = P.element in
    let o = eq-eqb j j refl in
    let says = departs j (act_at S j e) (leg_at S j e) in
    leave_walk (λ ms. Good S (run S t ms W)) S t j (person_of j W) h
    (λ p. (
    let s = subst (λ (pl : Place). IsSoundPerson S j e pl) p (h.good j lt).sound in
    let mid : Fine (Setting S t j (e + 1)) S (done S t (Report says) W) =
    told_good (IsSoundPerson S) (Setting S t j (e + 1)) S t j says (record { element = e + 1; place = Teleporting t }) W (simp o) (λ i O b. simp b) (rw p tt) tt
    ((λ b. (refl, refl)), (λ b. absurd (cc))) (λ i n pl b g. ((λ c. absurd (cc)), (λ c. g))) h in
    sets_out_good S t j (e + 1) (leg_at S j e) (act_after S j e) (done S t (Report says) W) f lt (leave_leg S j e t f lt s) (way_same S j e s.0.0) (next_same S j e s.0.0) mid
    ))

-- DEPARTURES
departure_good : (S : Setup) (t d : ℕ) (W : World) → IsSoundSetup S → d < length S.departures → Good S W → Good S (run S t (departure_turns S t d W) W)
departure_good S t d W f lt h =
    let D : IsSoundRun (departure S d) = All-get_or IsSoundRun S.departures d _ lt f.departures in
    departure_walk (λ ms. Good S (run S t ms W)) S t d h
    (λ c. fine_move (IsSoundPerson S) (IsSoundPerson S) S t (Enter (transit_vehicle d (departure S d))) W tt (record {
      own = record { there = lt; route = refl; line = refl; calls = refl; served = omega arith; departed = refl; seats = refl };
      stage = tt;
      place = D.some;
      link = refl;
      calls = D.calls;
      alone = tt;
      riders = tt;
    })
    (λ i k g. record { change = Stays refl refl; sound = g.sound; calm = inr refl; brings = tt }) h)

-- TURNS, PHASES, SECONDS
pub turn_good : (S : Setup) (t n : ℕ) (p : Phase) (W : World) → IsSoundSetup S → n < count_of S p → Good S W → Good S (run S t (turns_of S t p n W) W)
unfolding turns_of
turn_good S t n phase.A W f lt h = flight_good S t n W f lt h
turn_good S t n phase.B1 W f lt h = leave_good S t n W f lt h
turn_good S t n phase.B2 W f lt h = departure_good S t n W f lt h
turn_good S t n phase.C W f lt h = kept_along (Good S) S t _ W (node_walk S t n _ (nodes_good S t n) W) h
turn_good S t n phase.D W f lt h = (link_keeps S t n W f h).1
turn_good S t n phase.E W f lt h = h

pub through_good : (S : Setup) (t : ℕ) (ps : List Phase) (W : World) → IsSoundSetup S → Good S W → Good S (through S t ps W)
through_good S t ps W f h = phases_keep (Good S) S t (λ p n V lt g. turn_good S t n p V f lt g) ps W h
