-- In the world of each move no vehicle is in two places.
use Rattle.traffic.proofs.Common.{◌≡◌, ℕ, List, length, ap, refl, sym, subst, [], ◌∷◌, ◌++◌, ◌+◌, arith, ◌<◌, ◌≤◌, inl, inr, suc, zero, eqb, cases_Bool, cases_lt, if◌then◌else◌, nat_lt, ◌==◌, nat_tests}
use Rattle.traffic.proofs.Common.{sum_by, sum_by-cons, sum_by-append, Phase, VehicleId, Leg, Act, world_start, world_at, world_from, turns_of, turns_in, turns, moves_of, numbers, phases, second, run, done}
use Rattle.traffic.proofs.Common.{departure_turns, departure_moves, transit_vehicle, served_vehicle, car, sets_out, World, Setup, person_of, departure, act_after, leg_at, lands, of_person, link_of_stop, after, ne_eqb, eqb-true, eqb-false, ◌≢◌}
use Rattle.traffic.proofs.{LinkWalk.LinkCases, LinkWalk.link_walk, NodeWalk.NodeCases, NodeWalk.node_walk, Moments.Along, Moments.along_both, Moments.along_each}
use Rattle.traffic.proofs.{Moments.along_weaker, Walks.phase_walk, Walks.flight_walk, Walks.leave_walk}
use Rattle.rows.specs.declared.plan.Leg.TheVariants as leg
use Rattle.events.specs.declared.event.Word.TheVariants as word
use Rattle.events.specs.declared.event.More.TheVariants as more
use Rattle.traffic.specs.declared.moves.Move.{Move, TheVariants.Transfer, TheVariants.Remove, TheVariants.Enter, TheVariants.SetFrontSince}
use Rattle.traffic.specs.declared.moves.Move.TheVariants.{Report}
use Rattle.traffic.specs.declared.stage.Stage.TheVariants.{Bay}
use Rattle.std.specs.List.{AllByRecursion as Each}
use Rattle.events.specs.declared.event.Phase.TheVariants as phase
use Rattle.events.specs.declared.event.VehicleId.TheVariants as vehicle
use Rattle.law_capacity.{proofs.Turns.through_moves, specs.Moves.moves_in, specs.Moves.second_moves}
use Rattle.law_one_place.proofs.Places.{stands, weighed, counted, IsTaken, listed_once, InOne}
use Rattle.law_one_place.proofs.Vehicles.{is_its, rows_it_has, rows_are}
use Rattle.law_journeys.proofs.{Counts.cars_few, Counts.in_one_place, Fit.Fit, Fit.fit_moves, Places.one_moves, Walk.Cases, Walk.departing, Walk.second_walk}

-- no more than one row before a move and after it
abbrev pub IsSingle : VehicleId → Setup → ℕ → World → Move → Type 0
IsSingle v S t W m = (rows_it_has v W.rows ≤ 1) × (rows_it_has v (done S t m W).rows ≤ 1)

-- WHAT A MOVE ADDS
-- 1 for a move that brings a new vehicle, if it is this one
abbrev pub new_one : VehicleId → Move → ℕ
new_one v (Enter now) = is_its v now.vehicle
new_one v _ = 0

abbrev pub new_ones : VehicleId → List Move → ℕ
new_ones v ms = sum_by (new_one v) ms

pub taken_cases : (S : Setup) (t : ℕ) → Cases S t (λ W m. IsTaken m W)
unfolding served_vehicle
taken_cases S t =
    record {
      due = λ l k r W e u. (stands l Bay k r W e, refl);
      serve = λ l s ws r xs W e u c q. (rw e refl, refl);
      arrive = λ l s r xs W e u c o. rw e refl;
      pass = λ l s b r xs W e u c o. (rw e refl, refl);
      pay = λ l c W. tt;
      free = λ l W. tt;
      nodes = λ n. record { enter = λ a e r xs W f q c. (rw f.rows refl, refl); abort = λ a r xs W f c. rw f.rows refl; mark = λ a W c. tt };
      land = λ i mode seconds start W lt p e. tt;
      leave = λ i W lt p. tt;
      drive = λ i route W lt p e. tt;
      wait = λ i line access egress W lt p e. tt;
      start = λ d W lt e. tt;
    }

pub adds : (v : VehicleId) (S : Setup) (t : ℕ) (m : Move) (W : World) → IsTaken m W → rows_it_has v (done S t m W).rows ≤ rows_it_has v W.rows + new_one v m
adds v S t (Transfer l s k was now) W h = omega (arith, ap (λ (x : VehicleId). counted x v 1) h.1, weighed (is_its v) (Transfer l s k was now) W h)
adds v S t (Enter now) W h = let w = weighed (is_its v) (Enter now) W h in omega arith
adds v S t (Remove l s k was) W h = let w = weighed (is_its v) (Remove l s k was) W h in omega arith
adds v S t (SetFrontSince l u) W h = let w = weighed (is_its v) (SetFrontSince l u) W h in omega arith
adds v S t _ W h = omega arith

-- so many rows it has at most before each move and after all of them
few_along : (v : VehicleId) (S : Setup) (t b : ℕ) (ms : List Move) (W : World) → Along (λ V m. IsTaken m V) S t ms W → rows_it_has v W.rows + new_ones v ms ≤ b → Along (λ V m. (rows_it_has v V.rows ≤ b) × (rows_it_has v (done S t m V).rows ≤ b)) S t ms W × (rows_it_has v (run S t ms W).rows ≤ b)
few_along v S t b [] W h le = (tt, omega arith)
few_along v S t b (m ∷ ms) W h le =
    let c = sum_by-cons (new_one v) m ms in
    let a = adds v S t m W h.0 in
    let y = few_along v S t b ms (done S t m W) h.1 (omega arith) in
    (((omega arith, omega arith), y.0), y.1)

-- WHO IS NEW IN A SECOND
none_new : (v : VehicleId) (ms : List Move) → Each (λ m. new_one v m ≡ 0) ms → new_ones v ms ≡ 0
none_new v [] h = refl
none_new v (m ∷ ms) h = let c = sum_by-cons (new_one v) m ms in let k = h.0 in let y = none_new v ms h.1 in omega arith

module _ (d : ℕ) where
  no_new_links : (S : Setup) (t l : ℕ) → LinkCases S t l (λ W m. new_one (vehicle.Transit d) m ≡ 0)
  no_new_links S t l = record { due = λ k r W e c. refl; serve = λ s ws r xs W e c q. refl; arrive = λ s r xs W e c o. refl; pass = λ s b r xs W e c o. refl; pay = λ c W. refl; free = λ W. refl }

  no_new_nodes : (S : Setup) (t n : ℕ) → NodeCases S t n (λ W m. new_one (vehicle.Transit d) m ≡ 0)
  no_new_nodes S t n = record { enter = λ a e r xs W f q c. refl; abort = λ a r xs W f c. refl; mark = λ a W c. refl }

  new_cons : (m : Move) (ms : List Move) → new_ones (vehicle.Transit d) (m ∷ ms) ≡ new_one (vehicle.Transit d) m + new_ones (vehicle.Transit d) ms
  new_cons m ms = sum_by-cons (new_one (vehicle.Transit d)) m ms

  out_new : (S : Setup) (i : ℕ) (w : Leg) (next : Act) → new_ones (vehicle.Transit d) (sets_out S i w next) ≡ 0
  out_new S i (leg.Car route) next = let c = new_cons (Enter (car i route next.kind)) [] in omega arith
  out_new S i (leg.Teleport mode seconds) next = refl
  out_new S i (leg.Transit line access egress) next = let c = new_cons (Report (of_person word.WaitingForPt i (link_of_stop S access) (more.Stop access) ∷ [])) [] in omega arith

  turn_new : (S : Setup) (t n : ℕ) (p : Phase) (W : World) → p ≢ phase.B2 → new_ones (vehicle.Transit d) (turns_of S t p n W) ≡ 0
  unfolding turns_of
  turn_new S t n phase.A W ne = flight_walk (λ ms. new_ones (vehicle.Transit d) ms ≡ 0) S t n (person_of n W) refl (λ mode seconds start e f g. (let c = new_cons (Report (lands n mode seconds (act_after S n (person_of n W).element))) [] in omega arith))
  turn_new S t n phase.B1 W ne =
      let P = person_of n W in
      leave_walk (λ ms. new_ones (vehicle.Transit d) ms ≡ 0) S t n P refl
      (λ e. (let c = new_cons (departing S n W) (sets_out S n (leg_at S n P.element) (act_after S n P.element)) in let o = out_new S n (leg_at S n P.element) (act_after S n P.element) in omega arith))
  turn_new S t n phase.B2 W ne = absurd (ne refl)
  turn_new S t n phase.C W ne = none_new (vehicle.Transit d) _ (along_each (λ m. new_one (vehicle.Transit d) m ≡ 0) S t _ W (node_walk S t n _ (no_new_nodes S t n) W))
  turn_new S t n phase.D W ne = none_new (vehicle.Transit d) _ (along_each (λ m. new_one (vehicle.Transit d) m ≡ 0) S t _ W (link_walk S t n _ (no_new_links S t n) W))
  turn_new S t n phase.E W ne = refl

  phase_new : (S : Setup) (t : ℕ) (p : Phase) (W : World) → p ≢ phase.B2 → new_ones (vehicle.Transit d) (moves_of (turns_in S t p W)) ≡ 0
  phase_new S t p W ne =
      phase_walk (λ V ms. new_ones (vehicle.Transit d) ms ≡ 0) S t p
      (record { none = λ V. refl; append = λ xs ys V f g. (let c = sum_by-append (new_one (vehicle.Transit d)) xs ys in omega arith) }) (λ n V lt. turn_new S t n p V ne) W

  -- 1 for the departure whose second this is
  abbrev pub now : Setup → ℕ → ℕ
  now S t = if (departure S d).second == t then 1 else 0

  -- its turn brings it, and no other one does
  own_new : (S : Setup) (t k : ℕ) (W : World) → (k ≢ d → new_ones (vehicle.Transit d) (departure_turns S t k W) ≡ 0) × (k ≡ d → new_ones (vehicle.Transit d) (departure_turns S t k W) ≤ now S t)
  unfolding departure_moves
  own_new S t k W =
      let c = new_cons (Enter (transit_vehicle k (departure S k))) [] in
      elim (cases_Bool (eqb (departure S k).second t)) [
        | inl e ↦ rw e ((λ ne. (let z = ne_eqb k d ne in let o : new_one (vehicle.Transit d) (Enter (transit_vehicle k (departure S k))) ≡ 0 = rw z refl in omega arith)), λ q. (let one : now S t ≡ 1 = rw (← q, e) refl in grind (arith, nat_tests)))
        | inr e ↦ rw e ((λ ne. refl), λ q. omega arith)
      ]

  later_new : (S : Setup) (t k n : ℕ) (W : World) → d < k → new_ones (vehicle.Transit d) (moves_of (turns S t (departure_turns S t) (numbers k n) W)) ≡ 0
  unfolding turns
  later_new S t k zero W lt = refl
  later_new S t k (suc n) W lt =
      let ms = departure_turns S t k W in
      let rest = moves_of (turns S t (departure_turns S t) (numbers (k + 1) n) (run S t ms W)) in
      let c = sum_by-append (new_one (vehicle.Transit d)) ms rest in
      let a = (own_new S t k W).0 (λ q. omega arith) in
      let b = later_new S t (k + 1) n (run S t ms W) (omega arith) in
      omega arith

  departs_new : (S : Setup) (t k n : ℕ) (W : World) → new_ones (vehicle.Transit d) (moves_of (turns S t (departure_turns S t) (numbers k n) W)) ≤ now S t
  unfolding turns
  departs_new S t k zero W = omega arith
  departs_new S t k (suc n) W =
      let ms = departure_turns S t k W in
      let V = run S t ms W in
      let rest = moves_of (turns S t (departure_turns S t) (numbers (k + 1) n) V) in
      let c = sum_by-append (new_one (vehicle.Transit d)) ms rest in
      elim (cases_Bool (eqb k d)) [
        | inl e ↦ let q = eqb-true k d e in let a = (own_new S t k W).1 q in let b = later_new S t (k + 1) n V (omega arith) in omega arith
        | inr e ↦ let a = (own_new S t k W).0 (eqb-false k d e) in let b = departs_new S t (k + 1) n V in omega arith
      ]

  b2_new : (S : Setup) (t : ℕ) (W : World) → new_ones (vehicle.Transit d) (moves_of (turns_in S t phase.B2 W)) ≤ now S t
  unfolding turns_in turns_of
  b2_new S t W = departs_new S t 0 (length S.departures) W

  pub second_new : (S : Setup) (t : ℕ) (W : World) → new_ones (vehicle.Transit d) (second_moves S t W) ≤ now S t
  unfolding moves_in
  second_new S t W =
      let f = new_one (vehicle.Transit d) in
      let A = moves_of (turns_in S t phase.A W) in
      let W1 = after S t (turns_in S t phase.A W) W in
      let B1 = moves_of (turns_in S t phase.B1 W1) in
      let W2 = after S t (turns_in S t phase.B1 W1) W1 in
      let B2 = moves_of (turns_in S t phase.B2 W2) in
      let W3 = after S t (turns_in S t phase.B2 W2) W2 in
      let C = moves_of (turns_in S t phase.C W3) in
      let W4 = after S t (turns_in S t phase.C W3) W3 in
      let D = moves_of (turns_in S t phase.D W4) in
      let a = phase_new S t phase.A W (λ q. cc) in
      let b = phase_new S t phase.B1 W1 (λ q. cc) in
      let c = phase_new S t phase.C W3 (λ q. cc) in
      let e = phase_new S t phase.D W4 (λ q. cc) in
      let g = b2_new S t W2 in
      let all : new_ones (vehicle.Transit d) (second_moves S t W) ≡ sum_by f (A ++ (B1 ++ (B2 ++ (C ++ (D ++ []))))) = refl in
      let s1 = sum_by-append f A (B1 ++ (B2 ++ (C ++ (D ++ [])))) in
      let s2 = sum_by-append f B1 (B2 ++ (C ++ (D ++ []))) in
      let s3 = sum_by-append f B2 (C ++ (D ++ [])) in
      let s4 = sum_by-append f C (D ++ []) in
      let s5 = sum_by-append f D [] in
      omega arith

  -- 1 from the second after its departure on
  abbrev pub due : Setup → ℕ → ℕ
  due S t = if nat_lt (departure S d).second t then 1 else 0

  all_taken : (S : Setup) (t : ℕ) (W : World) → Along (λ V m. IsTaken m V) S t (second_moves S t W) W
  all_taken S t W = second_walk S t (λ V m. IsTaken m V) (taken_cases S t) W

  pub rows_due : (S : Setup) (t : ℕ) → rows_it_has (vehicle.Transit d) (world_at S t).rows ≤ due S t
  unfolding world_from world_start
  rows_due S zero = omega arith
  rows_due S (suc t) =
      let W = world_at S t in
      let more : due S t + now S t ≤ due S (suc t) = grind (arith, nat_tests) in
      let new = second_new S t W in
      let old = rows_due S t in
      let y = few_along (vehicle.Transit d) S t (due S t + now S t) (second_moves S t W) W (all_taken S t W) (omega arith) in
      let z : rows_it_has (vehicle.Transit d) (second S t W).rows ≤ due S t + now S t = subst (λ (V : World). rows_it_has (vehicle.Transit d) V.rows ≤ due S t + now S t) (sym (through_moves S t phases W)) y.1 in
      omega arith

  transit_moves : (S : Setup) (t : ℕ) → Along (IsSingle (vehicle.Transit d) S t) S t (second_moves S t (world_at S t)) (world_at S t)
  transit_moves S t =
      let W = world_at S t in
      let one : due S t + now S t ≤ 1 = grind (arith, nat_tests) in
      let new = second_new S t W in
      let old = rows_due S t in
      (few_along (vehicle.Transit d) S t 1 (second_moves S t W) W (all_taken S t W) (omega arith)).0

-- what holds in the world of each move, and after the last one, holds after each
along_next : (I : World → Type 0) (S : Setup) (t : ℕ) (ms : List Move) (W : World) → Along (λ V m. I V) S t ms W → I (run S t ms W) → Along (λ V m. I V × I (done S t m V)) S t ms W
along_next I S t [] W h i = tt
along_next I S t (m ∷ []) W h i = ((h.0, i), tt)
along_next I S t (m ∷ n ∷ ms) W h i = ((h.0, h.1.0), along_next I S t (n ∷ ms) (done S t m W) h.1 i)

car_moves : (i : ℕ) (S : Setup) (t : ℕ) → Along (λ V m. rows_it_has (vehicle.Car i) V.rows ≤ 1) S t (second_moves S t (world_at S t)) (world_at S t)
car_moves i S t =
    let W = world_at S t in
    elim (cases_lt i (length S.persons)) [
      | inl lt ↦
          along_weaker (λ V m. Fit S V × InOne i V) (λ V m. rows_it_has (vehicle.Car i) V.rows ≤ 1)
          (λ V m h. (let c = cars_few S i V.rows h.0 in let b = listed_once i V.rows (person_of i V).place h.1.listed in omega arith)) S t (second_moves S t W) W
          (along_both (λ V m. Fit S V) (λ V m. InOne i V) S t (second_moves S t W) W (fit_moves S t) (one_moves S i lt t))
      | inr past ↦
          along_weaker (λ V m. Fit S V) (λ V m. rows_it_has (vehicle.Car i) V.rows ≤ 1) (λ V m h. (let c = (cars_few S i V.rows h).1 past in omega arith)) S t (second_moves S t W) W (fit_moves S t)
    ]

after_second : (v : VehicleId) (S : Setup) (t : ℕ) → rows_it_has v (run S t (second_moves S t (world_at S t)) (world_at S t)).rows ≤ 1
unfolding world_from
after_second v S t =
    let one = in_one_place S (suc t) v in
    let a = rows_are v (world_at S (suc t)).rows in
    let k : rows_it_has v (second S t (world_at S t)).rows ≤ 1 = omega arith in
    subst (λ (V : World). rows_it_has v V.rows ≤ 1) (through_moves S t phases (world_at S t)) k

-- a vehicle has at most one row in the world of each move, and after it
pub single_moves : (v : VehicleId) (S : Setup) (t : ℕ) → Along (IsSingle v S t) S t (second_moves S t (world_at S t)) (world_at S t)
single_moves (vehicle.Car i) S t = along_next (λ V. rows_it_has (vehicle.Car i) V.rows ≤ 1) S t (second_moves S t (world_at S t)) (world_at S t) (car_moves i S t) (after_second (vehicle.Car i) S t)
single_moves (vehicle.Transit d) S t = transit_moves d S t
