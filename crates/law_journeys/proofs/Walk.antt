-- The walk over a second: each of its moves, with what is known of it in the world in which it is made.
use Rattle.traffic.proofs.Common.{◌≡◌, ℕ, List, length, refl, [], ◌∷◌, ◌<◌, ◌≤◌, true, false, ◌+◌, ◌-◌, Bool, slice_get, Some, Mode}
use Rattle.traffic.proofs.Common.{if◌then◌else◌, nat_lt, nat_le, leb-true, ltb-false, Phase, Leg, VEHICLE_COST}
use Rattle.traffic.proofs.Common.{turns_of, count_of, phases, done, waiting, buffered, is_last, may_pass, link_moves, leave_bay, from_queue, from_wait, wait_after}
use Rattle.traffic.proofs.Common.{link_state, rules, waiters, at, departs, lands, car, transit_vehicle}
use Rattle.traffic.proofs.Common.{sets_out, of_person, served_row, calls_on, left_behind, World, Setup, person_of, act_after, leg_at, act_at, departure}
use Rattle.traffic.proofs.Common.{link_of_stop, LinkState}
use Rattle.traffic.proofs.{LeftBehind.serving_stage, LinkWalk.LinkCases, LinkWalk.link_walk, Moments.Along, Moments.along_given, Moments.each_along}
use Rattle.traffic.proofs.{NodeWalk.NodeCases, NodeWalk.node_walk, Each.each_append, Walks.flight_walk, Walks.leave_walk, Walks.departure_walk}
use Rattle.traffic.specs.declared.moves.Move.{Move, TheVariants.Transfer, TheVariants.Remove, TheVariants.Enter}
use Rattle.traffic.specs.declared.moves.Move.TheVariants.{Credit, LeaveHole, Report}
use Rattle.traffic.specs.declared.stage.Stage.TheVariants.{Queue, Bay}
use Rattle.traffic.specs.declared.world.Place.TheVariants.{At}
use Rattle.traffic.specs.declared.world.Place.TheVariants.{Teleporting}
use Rattle.traffic.specs.declared.world.Row.{Row}
use Rattle.traffic.specs.declared.numbers.Rules.{Rules}
use Rattle.traffic.specs.declared.world.Waiter.{Waiter}
use Rattle.std.specs.List.{AllByRecursion as Each}
use Rattle.events.specs.declared.event.Phase.TheVariants as phase
use Rattle.events.specs.declared.event.Word.TheVariants as word
use Rattle.events.specs.declared.event.More.TheVariants as more
use Rattle.rows.specs.declared.plan.Leg.TheVariants as leg
use Rattle.law_capacity.{proofs.Turns.phases_along, specs.Moves.second_moves}

-- WHO LEAVES A QUEUE IS DUE
-- a move takes a row out of a queue only where its second has come
abbrev Due : ℕ → Move → Type 0
Due t (Transfer l Queue k was now) = was.second ≤ t
Due t (Remove l Queue k was) = was.second ≤ t
Due t _ = Unit {0}

each_cases : (P : Move → Type 0) (b : Bool) (xs ys : List Move) → (b ≡ true → Each P xs) → (b ≡ false → Each P ys) → Each P (if b then xs else ys)
each_cases P true xs ys h g = h refl
each_cases P false xs ys h g = g refl

bay_due : (t l k : ℕ) (xs : List Row) → Each (Due t) (leave_bay t l k xs)
unfolding leave_bay
bay_due t l k [] = tt
bay_due t l k (r ∷ rs) = each_cases (Due t) (nat_le r.second t) _ _ (λ e. (tt, bay_due t l k rs)) (λ e. bay_due t l (k + 1) rs)

wait_due : (K : Rules) (t l : ℕ) (ws : List Waiter) (b c : ℕ) (xs : List Row) → Each (Due t) (from_wait K t l ws b c xs)
unfolding from_wait
wait_due K t l ws b c [] = tt
wait_due K t l ws b c (r ∷ rs) =
    each_cases (Due t) (calls_on l r.vehicle) _ _ (λ e. (tt, wait_due K t l (left_behind r.vehicle ws) b c rs))
    (λ e. each_cases (Due t) (is_last r.vehicle) _ _ (λ o. (tt, wait_due K t l ws b c rs))
    (λ o. each_cases (Due t) (may_pass K b c) _ _ (λ p. (tt, (tt, wait_due K t l ws (b + 1) (c - VEHICLE_COST) rs))) (λ p. tt)))

queue_due : (K : Rules) (t l : ℕ) (ws : List Waiter) (b c : ℕ) (xs ys : List Row) → Each (Due t) (from_queue K t l ws b c xs ys)
unfolding from_queue
queue_due K t l ws b c [] ys = wait_due K t l ws b c ys
queue_due K t l ws b c (r ∷ rs) ys =
    each_cases (Due t) (nat_lt t r.second) _ _ (λ u. wait_due K t l ws b c ys)
    (λ u. (
    let d : r.second ≤ t = ltb-false t r.second u in
    each_cases (Due t) (calls_on l r.vehicle) _ _ (λ e. (d, (tt, queue_due K t l (left_behind r.vehicle ws) b c rs ys)))
    (λ e. each_cases (Due t) (is_last r.vehicle) _ _ (λ o. (d, (tt, queue_due K t l ws b c rs ys)))
    (λ o. each_cases (Due t) (may_pass K b c) _ _ (λ p. (d, (tt, (tt, queue_due K t l ws (b + 1) (c - VEHICLE_COST) rs ys)))) (λ p. wait_due K t l ws b c ys)))
    ))

link_due : (K : Rules) (t l : ℕ) (ws : List Waiter) (L : LinkState) → Each (Due t) (link_moves K t l ws L)
unfolding link_moves
link_due K t l ws L = each_append (Due t) (leave_bay t l 0 L.bay) _ (bay_due t l 0 L.bay) (tt, queue_due K t l ws _ _ L.queue (wait_after t l L))

-- EVERY MOVE
-- of the queue, in which a vehicle drives until its second, and of the wait list, in which it may go on at once
abbrev pub IsDue : ℕ → Bool → Row → Type 0
IsDue t true r = Unit {0}
IsDue t false r = r.second ≤ t

-- the departure that a person's turn reports
abbrev pub departing : Setup → ℕ → World → Move
departing S i W = Report (departs i (act_at S i (person_of i W).element) (leg_at S i (person_of i W).element))

-- What is said of each move of a second, in its world: of a link's turn, of a node's, of a person's and of a departure's.
pub record Cases (S : Setup) (t : ℕ) (F : World → Move → Type 0) : Type 0 where
  pub due : (l k : ℕ) (r : Row) (W : World) → slice_get (at l Bay W) k ≡ Some r → r.second ≤ t → F W (Transfer l Bay k r (waiting l r))
  pub serve : (l : ℕ) (s : Bool) (ws : List Waiter) (r : Row) (xs : List Row) (W : World) → at l (serving_stage s) W ≡ r ∷ xs → IsDue t s r
      → calls_on l r.vehicle ≡ true → ws ≡ waiters S l W → F W (Transfer l (serving_stage s) 0 r (served_row S.settings.dwell t l ws r.vehicle))
  pub arrive : (l : ℕ) (s : Bool) (r : Row) (xs : List Row) (W : World) → at l (serving_stage s) W ≡ r ∷ xs → IsDue t s r
      → calls_on l r.vehicle ≡ false → is_last r.vehicle ≡ true → F W (Remove l (serving_stage s) 0 r)
  pub pass : (l : ℕ) (s : Bool) (b : ℕ) (r : Row) (xs : List Row) (W : World) → at l (serving_stage s) W ≡ r ∷ xs → IsDue t s r
      → calls_on l r.vehicle ≡ false → is_last r.vehicle ≡ false → F W (Transfer l (serving_stage s) 0 r (buffered t l b r))
  pub pay : (l credit : ℕ) (W : World) → F W (Credit l credit)
  pub free : (l : ℕ) (W : World) → F W (LeaveHole l t)
  pub nodes : (n : ℕ) → NodeCases S t n F
  pub land : (i : ℕ) (mode : Mode) (seconds start : ℕ) (W : World) → i < length S.persons → (person_of i W).place ≡ Teleporting start
      → leg_at S i (person_of i W).element ≡ leg.Teleport mode seconds → F W (Report (lands i mode seconds (act_after S i (person_of i W).element)))
  pub leave : (i : ℕ) (W : World) → i < length S.persons → (person_of i W).place ≡ At (Some t) → F W (departing S i W)
  pub drive : (i : ℕ) (route : List ℕ) (W : World) → i < length S.persons → (person_of i W).place ≡ At (Some t)
      → leg_at S i (person_of i W).element ≡ leg.Car route → F (done S t (departing S i W) W) (Enter (car i route (act_after S i (person_of i W).element).kind))
  pub wait : (i line access egress : ℕ) (W : World) → i < length S.persons → (person_of i W).place ≡ At (Some t)
      → leg_at S i (person_of i W).element ≡ leg.Transit line access egress
      → F (done S t (departing S i W) W) (Report (of_person word.WaitingForPt i (link_of_stop S access) (more.Stop access) ∷ []))
  pub start : (d : ℕ) (W : World) → d < length S.departures → (departure S d).second ≡ t → F W (Enter (transit_vehicle d (departure S d)))

module _ (S : Setup) (t : ℕ) (F : World → Move → Type 0) (cases : Cases S t F) where
  links : (l : ℕ) → LinkCases S t l (λ W m. Due t m → F W m)
  links l =
      record {
        due = λ k r W e c u. cases.due l k r W e (leb-true r.second t c);
        serve = λ s ws r xs W e c q. (
            elim s as (λ s. at l (serving_stage s) W ≡ r ∷ xs → Due t (Transfer l (serving_stage s) 0 r (served_row S.settings.dwell t l ws r.vehicle)) → F W (Transfer l (serving_stage s) 0 r (served_row S.settings.dwell t l ws r.vehicle))) [
              | true ↦ λ e u. cases.serve l true ws r xs W e tt c q
              | false ↦ λ e u. cases.serve l false ws r xs W e u c q
            ] e
            );
        arrive = λ s r xs W e c o. (
            elim s as (λ s. at l (serving_stage s) W ≡ r ∷ xs → Due t (Remove l (serving_stage s) 0 r) → F W (Remove l (serving_stage s) 0 r)) [
              | true ↦ λ e u. cases.arrive l true r xs W e tt c o
              | false ↦ λ e u. cases.arrive l false r xs W e u c o
            ] e
            );
        pass = λ s b r xs W e c o. (
            elim s as (λ s. at l (serving_stage s) W ≡ r ∷ xs → Due t (Transfer l (serving_stage s) 0 r (buffered t l b r)) → F W (Transfer l (serving_stage s) 0 r (buffered t l b r))) [
              | true ↦ λ e u. cases.pass l true b r xs W e tt c o
              | false ↦ λ e u. cases.pass l false b r xs W e u c o
            ] e
            );
        pay = λ c W u. cases.pay l c W;
        free = λ W u. cases.free l W;
      }

  sets : (i : ℕ) (w : Leg) (W : World) → i < length S.persons → (person_of i W).place ≡ At (Some t) → leg_at S i (person_of i W).element ≡ w →
      Along F S t (sets_out S i w (act_after S i (person_of i W).element)) (done S t (departing S i W) W)
  sets i (leg.Car route) W lt p e = (cases.drive i route W lt p e, tt)
  sets i (leg.Teleport mode seconds) W lt p e = tt
  sets i (leg.Transit line access egress) W lt p e = (cases.wait i line access egress W lt p e, tt)

  pub turn : (p : Phase) (n : ℕ) (W : World) → n < count_of S p → Along F S t (turns_of S t p n W) W
  unfolding turns_of
  turn phase.A n W lt = flight_walk (λ ms. Along F S t ms W) S t n (person_of n W) tt (λ mode seconds start e f g. (cases.land n mode seconds start W lt e f, tt))
  turn phase.B1 n W lt = leave_walk (λ ms. Along F S t ms W) S t n (person_of n W) tt (λ e. (cases.leave n W lt e, sets n (leg_at S n (person_of n W).element) W lt e refl))
  turn phase.B2 n W lt = departure_walk (λ ms. Along F S t ms W) S t n tt (λ e. (cases.start n W lt e, tt))
  turn phase.C n W lt = node_walk S t n F (cases.nodes n) W
  turn phase.D n W lt = along_given (λ V m. Due t m) F S t _ W (link_walk S t n _ (links n) W) (each_along (Due t) S t _ W (link_due (rules S n) t n (waiters S n W) (link_state n W)))
  turn phase.E n W lt = tt

  -- each move of a second is such in the world in which it is made
  pub second_walk : (W : World) → Along F S t (second_moves S t W) W
  second_walk W = phases_along F S t turn phases W
