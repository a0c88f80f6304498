-- The turn of a link keeps all sound.
use Rattle.traffic.proofs.Common.{◌≡◌, ℕ, List, length, refl, sym, ◌∷◌, arith, ◌<◌, Bool, subst, eqb, map, filter, Leg, Transit, link_turns, waiting, buffered}
use Rattle.traffic.proofs.Common.{below, run, done, waiter, waits_on, waiters, waits, World, person_of, at, on, Setup, act_after, leg_at, link_of_stop}
use Rattle.traffic.proofs.Common.{served_row, rider, served_vehicle, boarding, VehicleState, IsLeg, IsInVehicle, IsSoundPerson}
use Rattle.traffic.proofs.Each.{each_if, each_weaker, each_map, each_flat, each_number, each_boarding}
use Rattle.traffic.proofs.{LeftBehind.serving_stage, LinkWalk.LinkCases, LinkWalk.link_walk, Moments.Along, Moments.held_along}
use Rattle.traffic.specs.declared.moves.Move.{Move, TheVariants.Transfer, TheVariants.Remove, TheVariants.Credit, TheVariants.LeaveHole}
use Rattle.traffic.specs.declared.{riders.Rider.Rider, stage.Stage.TheVariants.Wait, stage.Stage.TheVariants.Bay}
use Rattle.traffic.specs.declared.world.{Person.Person, Place.Place, Place.TheVariants.Waiting, Row.Row, Waiter.Waiter}
use Rattle.std.specs.List.{AllByRecursion as Each}
use Rattle.law_one_place.proofs.Places.{stands, Change, Stays, id_of, took, brought, IsTaken, rides, after_move, rides_few}
use Rattle.law_one_place.proofs.{Turns.told_front, Turns.told_end, Boarding.arrives_out, Boarding.served, Boarding.waiters_in_line}
use Rattle.law_sound_setups.proofs.Fine.{Good, IsPlain, Carries, IsGood, found, Brings, fine_move}
use Rattle.law_sound_setups.proofs.Steps.{stage_plain, waiting_plain, buffered_plain, served_plain, IsWayOf, IsWaiting, Wait_all, served_carries, IsPassage}
use Rattle.law_sound_setups.{proofs.Steps.stay_passage, proofs.Steps.arrive_passage, proofs.Steps.Boards, proofs.Steps.serve_passage, specs.Setups.IsSoundSetup}

-- WHO WAITS
one_waits : (S : Setup) (i : ℕ) (P : Person) (w : Leg) (stop since : ℕ) → P.place ≡ Waiting stop since → i < length S.persons → leg_at S i P.element ≡ w → IsLeg S i P.element → Each (λ (x : Waiter). (x.person ≡ i) × IsWaiting S P x) (waits i w (act_after S i P.element) stop since)
one_waits S i P (Transit line access egress) stop since p lt q h = ((refl, record { there = lt; off = rw p tt; leg = h; by = rw q (refl, refl); kind = refl }), tt)
one_waits S i P _ stop since p lt q h = tt

waits_are : (S : Setup) (l i : ℕ) (P : Person) (pl : Place) → P.place ≡ pl → i < length S.persons → IsSoundPerson S i P.element pl → Each (λ (x : Waiter). (x.person ≡ i) × IsWaiting S P x) (waits_on S l i (leg_at S i P.element) (act_after S i P.element) pl)
waits_are S l i P (Waiting stop since) p lt h = each_if (λ (x : Waiter). (x.person ≡ i) × IsWaiting S P x) (eqb (link_of_stop S stop) l) _ _ (one_waits S i P (leg_at S i P.element) stop since p lt refl h.0) tt
waits_are S l i P _ p lt h = tt

waiters_are : (S : Setup) (l : ℕ) (W : World) → Good S W → Wait_all S W.persons (waiters S l W)
unfolding waiters
waiters_are S l W h =
    each_flat (λ i. i < length S.persons) (λ (x : Waiter). IsWaiting S (person_of x.person W) x) (λ i. waiter S l i (person_of i W))
    (λ i lt. (let P = person_of i W in
    each_weaker (λ (x : Waiter). (x.person ≡ i) × IsWaiting S P x) _ (λ x g. subst (λ (k : ℕ). IsWaiting S (person_of k W) x) (sym g.0) g.1) (waiter S l i P) (waits_are S l i P P.place refl lt (h.good i lt).sound)))
    (below (length W.persons)) (each_number (length S.persons) 0 (length W.persons) (let e = h.each in omega arith))

is_ride : (w : Waiter) (u : Leg) → IsWayOf w u → IsInVehicle u
is_ride w (Transit line access egress) h = tt
is_ride w _ h = absurd h

-- whoever boards waits in no vehicle
all_board : (S : Setup) (i : ℕ) (ws : List Waiter) (v : VehicleState) (W : World) → Wait_all S W.persons ws → Each (λ (x : Rider). x.person ≡ i → Boards S (person_of i W) i) (map rider (boarding v ws))
all_board S i ws v W h =
    each_map (λ (w : Waiter). w.person ≡ i → Boards S (person_of i W) i) _ rider (λ w g. g) (boarding v ws)
    (each_boarding (λ (w : Waiter). IsWaiting S (person_of w.person W) w) _ v (λ w m g q. subst (λ (j : ℕ). Boards S (person_of j W) j) q (g.off, g.leg, is_ride w _ g.by)) ws h)

-- THE FRONT OF A LIST
front_plain : (S : Setup) (l : ℕ) (s : Bool) (r : Row) (xs : List Row) (W : World) → at l (serving_stage s) W ≡ r ∷ xs → Good S W → IsPlain S Wait l r.vehicle
front_plain S l s r xs W e h = stage_plain S l s r.vehicle (found (IsPlain S) l (serving_stage s) 0 r W.rows h.plain (rw e refl))

front_carries : (S : Setup) (i e l : ℕ) (s : Bool) (r : Row) (xs rows : List Row) → filter (on l (serving_stage s)) rows ≡ r ∷ xs → Each (λ (x : Row). Carries S i e x.vehicle) rows → Carries S i e r.vehicle
front_carries S i e l s r xs rows q h = found (λ z a v. Carries S i e v) l (serving_stage s) 0 r rows h (rw q refl)

-- ONE MOVE
-- by what it takes and brings, and by what it does to each person
moved : (S : Setup) (t : ℕ) (m : Move) (W : World) → IsTaken m W → Brings (IsPlain S) m →
    ((i : ℕ) → i < length S.persons → IsGood (IsSoundPerson S) S i W.rows W.persons → Change (id_of m) (took (rides i) m) (brought (rides i) m) (person_of i W).place (after_move S t i m W).place × IsPassage S i (person_of i W) (after_move S t i m W) × Brings (λ s l v. Carries S i (person_of i W).element v) m) →
    Good S W → Good S (done S t m W)
moved S t m W taken b f h =
    fine_move (IsSoundPerson S) (IsSoundPerson S) S t m W taken b (λ i lt g. let k = f i lt g in record { change = k.0; sound = k.1.sound; calm = k.1.calm; brings = k.2 }) h

-- and one that nobody sees
unseen : (S : Setup) (t : ℕ) (m : Move) (W : World) → IsTaken m W → Brings (IsPlain S) m → ((i : ℕ) → after_move S t i m W ≡ person_of i W) → ((i : ℕ) → brought (rides i) m ≡ took (rides i) m) →
    ((i : ℕ) → i < length S.persons → IsGood (IsSoundPerson S) S i W.rows W.persons → Brings (λ s l v. Carries S i (person_of i W).element v) m) → Good S W → Good S (done S t m W)
unseen S t m W taken b same ride f h = moved S t m W taken b (λ i lt g. (rw (same i) (Stays (ride i) refl), stay_passage S i (person_of i W) _ (same i) g.sound, f i lt g)) h

links_good : (S : Setup) (t l : ℕ) → IsSoundSetup S → LinkCases S t l (λ W m. Good S W → Good S (done S t m W))
unfolding served_vehicle
links_good S t l f =
    record {
      due = λ k r W e c h. (
          unseen S t (Transfer l Bay k r (waiting l r)) W (stands l Bay k r W e, refl) (waiting_plain S l r.vehicle (found (IsPlain S) l Bay k r W.rows h.plain e)) (λ i. refl) (λ i. refl)
          (λ i lt g. found (λ z a v. Carries S i (person_of i W).element v) l Bay k r W.rows g.carried e) h
          );
      serve = λ s ws r xs W e c q h. (
          let v = r.vehicle in
          let now = served_row S.settings.dwell t l ws v in
          let plain = front_plain S l s r xs W e h in
          let all : Wait_all S W.persons ws = rw q (waiters_are S l W h) in
          moved S t (Transfer l (serving_stage s) 0 r now) W (rw e refl, refl) (served_plain S l v ws c (each_weaker _ _ (λ w g. g.there) ws all) plain)
          (λ i lt g. (
          let P = person_of i W in
          let few = rides_few i l (serving_stage s) 0 r W (rw e refl) g.one in (
            rw (told_front S t i s r now P) (served S t i S.settings.dwell l ws r P few.0 few.1 (rw q (waiters_in_line S l i W))),
            rw (told_front S t i s r now P) (serve_passage S t i S.settings.dwell l ws r P f lt few (all_board S i ws v W all) g.sound),
            served_carries S W.persons l i v ws c all plain (front_carries S i P.element l s r xs W.rows e g.carried),
          )
          )) h
          );
      arrive = λ s r xs W e c o h.
          moved S t (Remove l (serving_stage s) 0 r) W (rw e refl) tt
          (λ i lt g. (
          let P = person_of i W in (
            rw (told_end S t i s r P) (arrives_out S t i r P),
            rw (told_end S t i s r P) (arrive_passage S t i r P f lt (rides_few i l (serving_stage s) 0 r W (rw e refl) g.one) g.sound),
            tt,
          )
          )) h;
      pass = λ s b r xs W e c o h. (
          let now = buffered t l b r in
          unseen S t (Transfer l (serving_stage s) 0 r now) W (rw e refl, refl) (buffered_plain S l r.vehicle c o (front_plain S l s r xs W e h)) (λ i. told_front S t i s r now (person_of i W)) (λ i. refl)
          (λ i lt g. front_carries S i (person_of i W).element l s r xs W.rows e g.carried) h
          );
      pay = λ c W h. unseen S t (Credit l c) W tt tt (λ i. refl) (λ i. refl) (λ i lt g. tt) h;
      free = λ W h. unseen S t (LeaveHole l t) W tt tt (λ i. refl) (λ i. refl) (λ i lt g. tt) h;
    }

-- all is sound in the world of each move of a link's turn, and after it
pub link_keeps : (S : Setup) (t l : ℕ) (W : World) → IsSoundSetup S → Good S W → Along (λ V m. Good S V) S t (link_turns S t l W) W × Good S (run S t (link_turns S t l W) W)
link_keeps S t l W f h = held_along (Good S) S t (link_turns S t l W) W (link_walk S t l _ (links_good S t l f) W) h
