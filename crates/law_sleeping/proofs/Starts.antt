-- What persons and departures do is said to nobody but the wait lists.
use Rattle.std.proofs.Common.{◌≡◌, ◌≢◌, ℕ, ◌+◌, false, List, [], ◌∷◌, refl, ap, sym, ◌∙◌, subst, eqb, append-nil}
use Rattle.std.specs.{List.flat_map, List.AllByRecursion as Each, Prelude.Some}
use Rattle.events.specs.declared.event.Phase.{Phase}
use Rattle.events.specs.declared.event.Phase.TheVariants as phase
use Rattle.traffic.proofs.{Each.each_flat_all, Each.each_if, Nodes.buffers-holes, Phases.phase_at_once, Sublists.at-run, Sublists.holes-run, Turns.moves_of-map}
use Rattle.traffic.specs.Day.{turns_of, count_of, turns_in, moves_of, after}
use Rattle.traffic.specs.{Frames.AreFromBuffers, Lists.below, Moves.at_after, Moves.at_after_all, Persons.landing, Persons.landing_moves, Persons.sets_out}
use Rattle.traffic.specs.{Persons.leaving, Persons.leaving_moves, Persons.departure_moves, Rows.World, Rows.on, Rows.at, Rows.holes_at, Rows.person_of}
use Rattle.traffic.specs.Setup.{Setup, act_at, leg_at, act_after, departure}
use Rattle.traffic.specs.declared.{moves.Move.Move, moves.Move.TheVariants.Enter, moves.Move.TheVariants.Report, stage.Stage.Stage}
use Rattle.traffic.specs.declared.stage.Stage.TheVariants.{Queue, Buffer, Wait, Bay}
use Rattle.traffic.specs.declared.world.{Place.Place, Place.TheVariants.At, Place.TheVariants.Teleporting, Row.Row}
use Rattle.rows.specs.declared.plan.{Act.Act, Leg.Leg}
use Rattle.rows.specs.declared.plan.Leg.TheVariants as leg

-- a move of a person or a departure: a row comes to the end of a wait list, or something is told
abbrev pub IsStart : Move → Type 0
IsStart (Enter now) = now.stage ≡ Wait
IsStart (Report says) = Unit {0}
IsStart _ = ⊥

landing_start : (t i : ℕ) (w : Leg) (next : Act) (pl : Place) → Each IsStart (landing t i w next pl)
landing_start t i (leg.Teleport mode seconds) next (Teleporting start) = each_if IsStart (eqb (start + seconds) t) _ _ (tt, tt) tt
landing_start t i _ next _ = tt

out_start : (S : Setup) (i : ℕ) (w : Leg) (next : Act) → Each IsStart (sets_out S i w next)
out_start S i (leg.Car route) next = (refl, tt)
out_start S i (leg.Teleport mode seconds) next = tt
out_start S i (leg.Transit line access egress) next = (tt, tt)

leaving_start : (S : Setup) (t i : ℕ) (here : Act) (w : Leg) (next : Act) (pl : Place) → Each IsStart (leaving S t i here w next pl)
leaving_start S t i here w next (At (Some end)) = each_if IsStart (eqb end t) _ _ (tt, out_start S i w next) tt
leaving_start S t i here w next _ = tt

-- the phases of persons and departures
abbrev pub IsEarly : Phase → Type 0
IsEarly phase.A = Unit {0}
IsEarly phase.B1 = Unit {0}
IsEarly phase.B2 = Unit {0}
IsEarly _ = ⊥

turns_start : (S : Setup) (t i : ℕ) (p : Phase) (W : World) → IsEarly p → Each IsStart (turns_of S t p i W)
unfolding turns_of landing_moves leaving_moves departure_moves
turns_start S t i phase.A W h = let P = person_of i W in landing_start t i (leg_at S i P.element) (act_after S i P.element) P.place
turns_start S t i phase.B1 W h = let P = person_of i W in leaving_start S t i (act_at S i P.element) (leg_at S i P.element)
    (act_after S i P.element) P.place
turns_start S t i phase.B2 W h = each_if IsStart (eqb (departure S i).second t) _ _ (refl, tt) tt
turns_start S t i _ W h = absurd h

-- the moves of a phase, from the world at its start
pub phase_moves : (S : Setup) (t : ℕ) (p : Phase) (W : World) → moves_of (turns_in S t p W)
    ≡ flat_map (λ n. turns_of S t p n W) (below (count_of S p))
phase_moves S t p W = ap moves_of (phase_at_once S t p W) ∙ moves_of-map (turns_of S t p) W (below (count_of S p))

pub each_phase : (P : Move → Type 0) (S : Setup) (t : ℕ) (p : Phase) (W : World) → ((n : ℕ) → Each P (turns_of S t p n W))
    → Each P (moves_of (turns_in S t p W))
each_phase P S t p W h = subst (Each P) (sym (phase_moves S t p W)) (each_flat_all P (λ n. turns_of S t p n W) h (below (count_of S p)))

pub early_start : (S : Setup) (t : ℕ) (p : Phase) (W : World) → IsEarly p → Each IsStart (moves_of (turns_in S t p W))
early_start S t p W h = each_phase IsStart S t p W (λ n. turns_start S t n p W h)

-- they leave all lists but the wait lists, and no hole
not_there : (l : ℕ) (s : Stage) (now : Row) → s ≢ Wait → now.stage ≡ Wait → on l s now ≡ false
not_there l Queue now ne e = rw e refl
not_there l Buffer now ne e = rw e refl
not_there l Wait now ne e = absurd (ne refl)
not_there l Bay now ne e = rw e refl

start_after : (l : ℕ) (s : Stage) (m : Move) (xs : List Row) → s ≢ Wait → IsStart m → at_after l s m xs ≡ xs
start_after l s (Enter now) xs ne h = let o = not_there l s now ne h in rw o (append-nil xs)
start_after l s (Report says) xs ne h = refl
start_after l s _ xs ne h = absurd h

starts_after : (l : ℕ) (s : Stage) (ms : List Move) (xs : List Row) → s ≢ Wait → Each IsStart ms → at_after_all l s ms xs ≡ xs
starts_after l s [] xs ne h = refl
starts_after l s (m ∷ ms) xs ne h = ap (at_after_all l s ms) (start_after l s m xs ne h.0) ∙ starts_after l s ms xs ne h.1

pub early_kept : (S : Setup) (t l : ℕ) (s : Stage) (p : Phase) (W : World) → IsEarly p → s ≢ Wait → at l s (after S t (turns_in S t p W) W)
    ≡ at l s W
early_kept S t l s p W h ne = at-run S t l s (moves_of (turns_in S t p W)) W
    ∙ starts_after l s (moves_of (turns_in S t p W)) (at l s W) ne (early_start S t p W h)

start_buffers : (ms : List Move) → Each IsStart ms → AreFromBuffers ms
start_buffers [] h = tt
start_buffers (Enter now ∷ ms) h = (tt, start_buffers ms h.1)
start_buffers (Report says ∷ ms) h = (tt, start_buffers ms h.1)
start_buffers (_ ∷ ms) h = absurd h.0

pub early_buffers : (S : Setup) (t : ℕ) (p : Phase) (W : World) → IsEarly p → AreFromBuffers (moves_of (turns_in S t p W))
early_buffers S t p W h = start_buffers (moves_of (turns_in S t p W)) (early_start S t p W h)

pub early_holes : (S : Setup) (t l : ℕ) (p : Phase) (W : World) → IsEarly p → holes_at l (after S t (turns_in S t p W) W) ≡ holes_at l W
early_holes S t l p W h = holes-run S t l (moves_of (turns_in S t p W)) W
    ∙ buffers-holes l (moves_of (turns_in S t p W)) (holes_at l W) (early_buffers S t p W h)
