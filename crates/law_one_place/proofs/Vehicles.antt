-- No transit vehicle stands in two rows.
use Rattle.traffic.proofs.Common.{◌≡◌, ℕ, List, length, ap, refl, [], ◌∷◌, arith, ◌+◌, inl, inr, ◌≤◌, suc, eqb, zero, ◌≢◌, cases_Bool, nat_tests, sum_by-cons}
use Rattle.traffic.proofs.Common.{if◌then◌else◌, nat_lt, ◌==◌, Phase, VehicleId, Act, Leg, world_at, turns_of, turns_in, world_start, through, world_from}
use Rattle.traffic.proofs.Common.{after, departure_turns, second, waiting, buffered, run, done, entered, sets_out, departure_moves, transit_vehicle, car, World}
use Rattle.traffic.proofs.Common.{person_of, Setup, act_after, leg_at, departure, served_row, served_vehicle, VehicleState, rows_of}
use Rattle.traffic.proofs.{LeftBehind.serving_stage, LinkWalk.LinkCases, LinkWalk.link_walk, Moments.kept_along, NodeWalk.NodeCases, NodeWalk.node_walk}
use Rattle.traffic.{proofs.Walks.flight_walk, proofs.Walks.leave_walk, proofs.Walks.phase_keeps, proofs.Walks.numbers_walk, specs.declared.moves.Move.Move}
use Rattle.traffic.specs.declared.moves.Move.TheVariants.{Transfer, Remove, Enter, SetFrontSince, Credit, LeaveHole}
use Rattle.traffic.specs.declared.{stage.Stage.TheVariants.Buffer, stage.Stage.TheVariants.Bay, world.Row.Row}
use Rattle.events.specs.declared.event.Phase.TheVariants as phase
use Rattle.events.specs.declared.event.VehicleId.TheVariants as vehicle
use Rattle.rows.specs.declared.plan.Leg.TheVariants as leg
use Rattle.law_one_place.proofs.Places.{stands, weight, weighed, counted, IsTaken}

-- 1 for a row of this vehicle; so many rows has it
abbrev pub is_its : VehicleId → VehicleState → ℕ
is_its u v = counted v.id u 1

abbrev pub rows_it_has : VehicleId → List Row → ℕ
rows_it_has u rows = weight (is_its u) rows

pub rows_are : (u : VehicleId) (rows : List Row) → length (rows_of u rows) ≡ rows_it_has u rows
rows_are u [] = refl
rows_are u (r ∷ rs) = grind (arith, rows_are u rs, sum_by-cons (λ (x : Row). is_its u x.vehicle) r rs)

-- MOVES
-- a move that brings no new vehicle
abbrev IsOld : Move → Type 0
IsOld (Enter now) = ⊥
IsOld _ = Unit {0}

-- so many rows has a transit vehicle at most
abbrev Few : ℕ → ℕ → World → Type 0
Few d b W = rows_it_has (vehicle.Transit d) W.rows ≤ b

-- a move of a node or of a link leaves no vehicle more rows than it had
few_kept : (S : Setup) (t d b : ℕ) (m : Move) (W : World) → IsTaken m W → IsOld m → Few d b W → Few d b (done S t m W)
few_kept S t d b (Transfer l s k was now) W h o few =
    let g = is_its (vehicle.Transit d) in
    omega (arith, ap (λ (x : VehicleId). counted x (vehicle.Transit d) 1) h.1, weighed g (Transfer l s k was now) W h)
few_kept S t d b (Enter now) W h o few = absurd o
few_kept S t d b m W h o few = let w = weighed (is_its (vehicle.Transit d)) m W h in omega arith

abbrev Keeps_few : Setup → ℕ → ℕ → ℕ → World → Move → Type 0
Keeps_few S t d b W m = Few d b W → Few d b (done S t m W)

nodes_few : (S : Setup) (t n d b : ℕ) → NodeCases S t n (Keeps_few S t d b)
nodes_few S t n d b =
    record {
      enter = λ a e r xs W f q c. few_kept S t d b (Transfer a Buffer 0 r (entered t e r.vehicle)) W (rw f.rows refl, refl) tt;
      abort = λ a r xs W f c. few_kept S t d b (Remove a Buffer 0 r) W (rw f.rows refl) tt;
      mark = λ a W c. few_kept S t d b (SetFrontSince a t) W tt tt;
    }

links_few : (S : Setup) (t l d b : ℕ) → LinkCases S t l (Keeps_few S t d b)
unfolding served_vehicle
links_few S t l d b =
    record {
      due = λ k r W e c. few_kept S t d b (Transfer l Bay k r (waiting l r)) W (stands l Bay k r W e, refl) tt;
      serve = λ s ws r xs W f c e. few_kept S t d b (Transfer l (serving_stage s) 0 r (served_row S.settings.dwell t l ws r.vehicle)) W (rw f refl, refl) tt;
      arrive = λ s r xs W f c o. few_kept S t d b (Remove l (serving_stage s) 0 r) W (rw f refl) tt;
      pass = λ s p r xs W f c o. few_kept S t d b (Transfer l (serving_stage s) 0 r (buffered t l p r)) W (rw f refl, refl) tt;
      pay = λ c W. few_kept S t d b (Credit l c) W tt tt;
      free = λ W. few_kept S t d b (LeaveHole l t) W tt tt;
    }

-- TURNS AND PHASES
out_few : (S : Setup) (t d b i : ℕ) (w : Leg) (next : Act) (W : World) → Few d b W → Few d b (run S t (sets_out S i w next) W)
out_few S t d b i (leg.Car route) next W few = let w = weighed (is_its (vehicle.Transit d)) (Enter (car i route next.kind)) W tt in omega arith
out_few S t d b i _ next W few = few

turn_few : (S : Setup) (t d b n : ℕ) (p : Phase) (W : World) → p ≢ phase.B2 → Few d b W → Few d b (run S t (turns_of S t p n W) W)
unfolding turns_of
turn_few S t d b n phase.A W ne few = flight_walk (λ ms. Few d b (run S t ms W)) S t n (person_of n W) few (λ mode seconds start e f g. few)
turn_few S t d b n phase.B1 W ne few = let P = person_of n W in leave_walk (λ ms. Few d b (run S t ms W)) S t n (person_of n W) few (λ e. out_few S t d b n (leg_at S n P.element) (act_after S n P.element) _ few)
turn_few S t d b n phase.B2 W ne few = absurd (ne refl)
turn_few S t d b n phase.C W ne few = kept_along (Few d b) S t _ W (node_walk S t n (Keeps_few S t d b) (nodes_few S t n d b) W) few
turn_few S t d b n phase.D W ne few = kept_along (Few d b) S t _ W (link_walk S t n (Keeps_few S t d b) (links_few S t n d b) W) few
turn_few S t d b n phase.E W ne few = few

phase_few : (S : Setup) (t d b : ℕ) (p : Phase) (W : World) → p ≢ phase.B2 → Few d b W → Few d b (after S t (turns_in S t p W) W)
phase_few S t d b p W ne = phase_keeps (Few d b) S t p (λ n V lt. turn_few S t d b n p V ne) W

-- 1 for the departure whose second this is
abbrev now : Setup → ℕ → ℕ → ℕ
now S t d = if (departure S d).second == t then 1 else 0

-- once its turn has come it has so many rows more
abbrev so_far : Setup → ℕ → ℕ → ℕ → ℕ
so_far S t d n = if nat_lt d n then now S t d else 0

start_few : (S : Setup) (t d b n : ℕ) (W : World) → Few d (b + so_far S t d n) W → Few d (b + so_far S t d (n + 1)) (run S t (departure_turns S t n W) W)
unfolding departure_moves
start_few S t d b n W few =
    let w = weighed (is_its (vehicle.Transit d)) (Enter (transit_vehicle n (departure S n))) W tt in
    let same : n ≡ d → now S t n ≡ now S t d = λ q. ap (λ (x : ℕ). now S t x) q in
    elim (cases_Bool (eqb (departure S n).second t)) [
      | inl e ↦ rw e (let one : now S t n ≡ 1 = rw e refl in grind (arith, nat_tests, same, one))
      | inr e ↦ rw e (let none : now S t n ≡ 0 = rw e refl in grind (arith, nat_tests, same, none))
    ]

starts_few : (S : Setup) (t d b : ℕ) (W : World) → Few d b W → Few d (b + now S t d) (after S t (turns_in S t phase.B2 W) W)
unfolding turns_in turns_of
starts_few S t d b W few =
    let y = numbers_walk (λ n V. Few d (b + so_far S t d n) V) S t (departure_turns S t) (start_few S t d b) 0 (length S.departures) W (grind (arith, nat_tests)) in
    let le : so_far S t d (0 + length S.departures) ≤ now S t d = grind (arith, nat_tests) in
    omega arith

second_few : (S : Setup) (t d b : ℕ) (W : World) → Few d b W → Few d (b + now S t d) (second S t W)
unfolding through
second_few S t d b W few =
    phase_few S t d _ phase.D _ (λ e. cc) (phase_few S t d _ phase.C _ (λ e. cc) (starts_few S t d b _ (phase_few S t d b phase.B1 _ (λ e. cc) (phase_few S t d b phase.A W (λ e. cc) few))))

-- DAYS
-- 1 from the second after its departure on
abbrev due : Setup → ℕ → ℕ → ℕ
due S d t = if nat_lt (departure S d).second t then 1 else 0

from_few : (S : Setup) (d t : ℕ) → Few d (due S d t) (world_from S (world_start S) t)
unfolding world_from world_start
from_few S d zero = omega arith
from_few S d (suc t) =
    let more : due S d t + now S t d ≤ due S d (suc t) = grind (arith, nat_tests) in
    omega (arith, second_few S t d (due S d t) (world_from S (world_start S) t) (from_few S d t))

-- a transit vehicle has at most one row
pub transit_once : (S : Setup) (t d : ℕ) → length (rows_of (vehicle.Transit d) (world_at S t).rows) ≤ 1
transit_once S t d =
    let one : due S d t ≤ 1 = grind (arith, nat_tests) in omega (arith, rows_are (vehicle.Transit d) (world_at S t).rows, from_few S d t)
