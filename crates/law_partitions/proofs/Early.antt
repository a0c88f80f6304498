-- The phases A, B1 and B2: they move no vehicle, and put new ones into wait lists.
use Rattle.traffic.proofs.Common.{◌≡◌, ℕ, List, ◌∙◌, length, ap, refl, [], ◌∷◌, arith, false, suc, eqb, flat_map, Act, Leg, world_at, turns_of, turns_in}
use Rattle.traffic.proofs.Common.{moves_of, through, world_from, after, landing_turns, leaving_turns, departure_turns, Untouched, below, run, done, touches}
use Rattle.traffic.proofs.Common.{credit_after_all, hole_after_all, credit_after, hole_after, landing_moves, leaving_moves, sets_out, departure_moves, World}
use Rattle.traffic.proofs.Common.{person_of, at, on, rank, holes_at, credit_of, Setup, act_after, leg_at}
use Rattle.traffic.proofs.{Each.each_flat_all, Sublists.at-run_untouched, Sublists.holes-run, Walks.flight_walk, Walks.leave_walk, Walks.departure_walk}
use Rattle.traffic.specs.declared.moves.Move.{Move, TheVariants.Enter, TheVariants.Report}
use Rattle.traffic.specs.declared.{moves.Occurrence.Occurrence, stage.Stage.Stage, stage.Stage.TheVariants.Wait, world.Person.Person, world.Row.Row}
use Rattle.std.specs.List.{AllByRecursion as Each}
use Rattle.events.specs.declared.event.Phase.TheVariants as phase
use Rattle.rows.specs.declared.plan.Leg.TheVariants as leg
use Rattle.parts.specs.Parts.{Held, came, went}
use Rattle.law_partitions.proofs.Second.{C_world, came_in, went_in, next}
use Rattle.law_partitions.{proofs.Turns.phase_moves, specs.Alone.held_done, specs.Alone.held_run}

abbrev pub IsEarly : Move → Type 0
IsEarly (Enter now) = now.stage ≡ Wait
IsEarly (Report says) = Unit {0}
IsEarly _ = ⊥

abbrev pub AreEarly : List Move → Type 0
AreEarly ms = Each IsEarly ms

-- what holds of new vehicles in wait lists and of what is told holds of each such move
by_early : (T : Move → Type 0) → ((now : Row) → now.stage ≡ Wait → T (Enter now)) → ((says : List Occurrence) → T (Report says)) → (m : Move) → IsEarly m → T m
by_early T new tell (Enter now) h = new now h
by_early T new tell (Report says) h = tell says
by_early T new tell _ h = absurd h

pub landings-early : (S : Setup) (t i : ℕ) (P : Person) → AreEarly (landing_moves S t i P)
landings-early S t i P = flight_walk (λ ms. AreEarly ms) S t i P tt (λ mode seconds start p w e. (tt, tt))

sets_out-early : (S : Setup) (i : ℕ) (w : Leg) (next : Act) → AreEarly (sets_out S i w next)
sets_out-early S i (leg.Car route) next = (refl, tt)
sets_out-early S i (leg.Teleport mode seconds) next = tt
sets_out-early S i (leg.Transit line access egress) next = (tt, tt)

pub leavings-early : (S : Setup) (t i : ℕ) (P : Person) → AreEarly (leaving_moves S t i P)
leavings-early S t i P = leave_walk (λ ms. AreEarly ms) S t i P tt (λ p. (tt, sets_out-early S i (leg_at S i P.element) (act_after S i P.element)))

pub departures-early : (S : Setup) (t d : ℕ) → AreEarly (departure_moves S t d)
departures-early S t d = departure_walk (λ ms. AreEarly ms) S t d tt (λ e. (refl, tt))

-- what they leave as it was
early_off : (l : ℕ) (s : Stage) (now : Row) → eqb 2 (rank s) ≡ false → now.stage ≡ Wait → on l s now ≡ false
early_off l s now e h = rw (h, e) refl

pub early-untouched : (l : ℕ) (s : Stage) (ms : List Move) → eqb 2 (rank s) ≡ false → AreEarly ms → Untouched l s ms
early-untouched l s [] e h = tt
early-untouched l s (m ∷ ms) e h = (by_early (λ m. touches l s m ≡ false) (λ now g. early_off l s now e g) (λ says. refl) m h.0, early-untouched l s ms e h.1)

pub early-credit : (S : Setup) (t l : ℕ) (ms : List Move) (W : World) → AreEarly ms → credit_of l (run S t ms W) ≡ credit_of l W
early-credit S t l [] W h = refl
early-credit S t l (m ∷ ms) W h = early-credit S t l ms (done S t m W) h.1 ∙ by_early (λ m. credit_of l (done S t m W) ≡ credit_of l W) (λ now g. refl) (λ says. refl) m h.0

pub early-holes : (l : ℕ) (ms : List Move) (hs : List ℕ) → AreEarly ms → hole_after_all l ms hs ≡ hs
early-holes l [] hs h = refl
early-holes l (m ∷ ms) hs h = ap (hole_after_all l ms) (by_early (λ m. hole_after l m hs ≡ hs) (λ now g. refl) (λ says. refl) m h.0) ∙ early-holes l ms hs h.1

pub early-pays : (l : ℕ) (ms : List Move) (c : ℕ) → AreEarly ms → credit_after_all l ms c ≡ c
early-pays l [] c h = refl
early-pays l (m ∷ ms) c h = ap (credit_after_all l ms) (by_early (λ m. credit_after l m c ≡ c) (λ now g. refl) (λ says. refl) m h.0) ∙ early-pays l ms c h.1

pub early-rows : (S : Setup) (t l : ℕ) (ms : List Move) (H : Held) → AreEarly ms → (held_run S t ms H).rows l ≡ H.rows l
early-rows S t l [] H h = refl
early-rows S t l (m ∷ ms) H h = early-rows S t l ms (held_done S t m H) h.1 ∙ by_early (λ m. (held_done S t m H).rows l ≡ H.rows l) (λ now g. omega arith) (λ says. omega arith) m h.0

-- THE DAY'S WORLDS
abbrev pub A_world : Setup → ℕ → World → World
A_world S t W = after S t (turns_in S t phase.A W) W

abbrev pub B1_world : Setup → ℕ → World → World
B1_world S t W = after S t (turns_in S t phase.B1 W) W

abbrev pub B2_world : Setup → ℕ → World → World
B2_world S t W = after S t (turns_in S t phase.B2 W) W

-- before phase C of second t
abbrev pub mid : Setup → ℕ → World
mid S t = B2_world S t (B1_world S t (A_world S t (world_at S t)))

pub A_moves-are : (S : Setup) (t : ℕ) (W : World) → moves_of (turns_in S t phase.A W) ≡ flat_map (λ i. landing_turns S t i W) (below (length S.persons))
unfolding turns_of
A_moves-are S t W = phase_moves S t phase.A W

pub B1_moves-are : (S : Setup) (t : ℕ) (W : World) → moves_of (turns_in S t phase.B1 W) ≡ flat_map (λ i. leaving_turns S t i W) (below (length S.persons))
unfolding turns_of
B1_moves-are S t W = phase_moves S t phase.B1 W

pub B2_moves-are : (S : Setup) (t : ℕ) (W : World) → moves_of (turns_in S t phase.B2 W) ≡ flat_map (λ d. departure_turns S t d W) (below (length S.departures))
unfolding turns_of
B2_moves-are S t W = phase_moves S t phase.B2 W

pub A-early : (S : Setup) (t : ℕ) (W : World) → AreEarly (moves_of (turns_in S t phase.A W))
A-early S t W = rw (A_moves-are S t W) (each_flat_all IsEarly (λ i. landing_turns S t i W) (λ i. landings-early S t i (person_of i W)) (below (length S.persons)))

pub B1-early : (S : Setup) (t : ℕ) (W : World) → AreEarly (moves_of (turns_in S t phase.B1 W))
B1-early S t W = rw (B1_moves-are S t W) (each_flat_all IsEarly (λ i. leaving_turns S t i W) (λ i. leavings-early S t i (person_of i W)) (below (length S.persons)))

pub B2-early : (S : Setup) (t : ℕ) (W : World) → AreEarly (moves_of (turns_in S t phase.B2 W))
B2-early S t W = rw (B2_moves-are S t W) (each_flat_all IsEarly (λ d. departure_turns S t d W) (λ d. departures-early S t d) (below (length S.departures)))

pub mid-list : (S : Setup) (t l : ℕ) (s : Stage) → eqb 2 (rank s) ≡ false → at l s (mid S t) ≡ at l s (world_at S t)
mid-list S t l s e =
    let W = world_at S t in
    let V = A_world S t W in
    let U = B1_world S t V in
    at-run_untouched S t l s (moves_of (turns_in S t phase.B2 U)) U (early-untouched l s (moves_of (turns_in S t phase.B2 U)) e (B2-early S t U))
    ∙ at-run_untouched S t l s (moves_of (turns_in S t phase.B1 V)) V (early-untouched l s (moves_of (turns_in S t phase.B1 V)) e (B1-early S t V))
    ∙ at-run_untouched S t l s (moves_of (turns_in S t phase.A W)) W (early-untouched l s (moves_of (turns_in S t phase.A W)) e (A-early S t W))

pub mid-credit : (S : Setup) (t l : ℕ) → credit_of l (mid S t) ≡ credit_of l (world_at S t)
mid-credit S t l =
    let W = world_at S t in
    let V = A_world S t W in
    let U = B1_world S t V in
    early-credit S t l (moves_of (turns_in S t phase.B2 U)) U (B2-early S t U)
    ∙ early-credit S t l (moves_of (turns_in S t phase.B1 V)) V (B1-early S t V)
    ∙ early-credit S t l (moves_of (turns_in S t phase.A W)) W (A-early S t W)

pub mid-holes : (S : Setup) (t l : ℕ) → holes_at l (mid S t) ≡ holes_at l (world_at S t)
mid-holes S t l =
    let W = world_at S t in
    let V = A_world S t W in
    let U = B1_world S t V in
    holes-run S t l (moves_of (turns_in S t phase.B2 U)) U ∙ early-holes l (moves_of (turns_in S t phase.B2 U)) (holes_at l U) (B2-early S t U)
    ∙ holes-run S t l (moves_of (turns_in S t phase.B1 V)) V ∙ early-holes l (moves_of (turns_in S t phase.B1 V)) (holes_at l V) (B1-early S t V)
    ∙ holes-run S t l (moves_of (turns_in S t phase.A W)) W ∙ early-holes l (moves_of (turns_in S t phase.A W)) (holes_at l W) (A-early S t W)

-- the next second's world, and what came and went
pub world-next : (S : Setup) (t : ℕ) → world_at S (suc t) ≡ next S t (mid S t)
unfolding world_from through
world-next S t = refl

pub came_is : (S : Setup) (l t : ℕ) → came S l t ≡ came_in S t (mid S t) l
unfolding through
came_is S l t = refl

pub went_is : (S : Setup) (l t : ℕ) → went S l t ≡ went_in S t (C_world S t (mid S t)) l
unfolding through
went_is S l t = refl
