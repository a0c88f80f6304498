-- All events of a day are such as its signals let happen.
use Rattle.traffic.proofs.Common.{◌≡◌, ℕ, List, ◌∙◌, ap, subst, [], ◌∷◌, ◌+◌, true, zero, suc, length, flat_map, Option, All, All-from_recursion, phase_code}
use Rattle.traffic.proofs.Common.{Event, Phase, turns_in, turns_of, turns, world_start, world_at, keyed, world_from, after, events_from, day, phases}
use Rattle.traffic.proofs.Common.{end_events, events_in, told_in, below, told, run, stranded, stuck_at, mode_of_leg, act_at, leg_at, person_of, World, Setup}
use Rattle.traffic.proofs.{Common.count_of, Common.Act, Common.Mode, Each.each_append, Each.each_flat}
use Rattle.traffic.specs.declared.{moves.Move.Move, moves.Occurrence.Occurrence, world.Place.Place}
use Rattle.traffic.specs.declared.world.Place.TheVariants.{At, Teleporting, Waiting, Riding, Aborted}
use Rattle.std.{proofs.Common.arith, proofs.lemmas.List.Elements.All-contains, specs.List.AllByRecursion as Each}
use Rattle.events.specs.declared.event.Phase.TheVariants as phase
use Rattle.events.specs.declared.event.Word.{Word}
use Rattle.law_signals.specs.Signals.{IsGreen, IsLet, KeepsSignals, Leaves, NeverTogether}
use Rattle.law_signals.proofs.Greens.{IsLetTold, TellsLet, turn_let}

abbrev Keep : Setup → List Event → Type 0
Keep S es = Each (KeepsSignals S) es

keyed_keep : (S : Setup) (t code n k : ℕ) (xs : List Occurrence) → Each (IsLetTold S t code) xs → Keep S (keyed t code n k xs)
unfolding keyed
keyed_keep S t code n k [] h = tt
keyed_keep S t code n k (x ∷ xs) h = (h.0, keyed_keep S t code n (k + 1) xs h.1)

moves_keep : (S : Setup) (t code n : ℕ) (ms : List Move) → Each (TellsLet S t code) ms → Keep S (keyed t code n 0 (flat_map told ms))
moves_keep S t code n ms h = keyed_keep S t code n 0 (flat_map told ms) (each_flat (TellsLet S t code) (IsLetTold S t code) told (λ m k. k) ms h)

turns_keep : (S : Setup) (t : ℕ) (p : Phase) (ns : List ℕ) (W : World) → Keep S (events_in t p (turns S t (turns_of S t p) ns W))
unfolding turns
turns_keep S t p [] W = tt
turns_keep S t p (n ∷ ns) W =
    each_append (KeepsSignals S) (keyed t (phase_code p) n 0 (flat_map told (turns_of S t p n W))) _ (moves_keep S t (phase_code p) n (turns_of S t p n W) (turn_let S t p n W))
    (turns_keep S t p ns (run S t (turns_of S t p n W) W))

phase_keep : (S : Setup) (t : ℕ) (p : Phase) (W : World) → Keep S (events_in t p (turns_in S t p W))
unfolding turns_in
phase_keep S t p W = turns_keep S t p (below (count_of S p)) W

told_keep : (S : Setup) (t : ℕ) (ps : List Phase) (W : World) → Keep S (told_in S t ps W)
unfolding told_in
told_keep S t [] W = tt
told_keep S t (p ∷ ps) W = each_append (KeepsSignals S) (events_in t p (turns_in S t p W)) _ (phase_keep S t p W) (told_keep S t ps (after S t (turns_in S t p W) W))

from_keep : (S : Setup) (W : World) (t : ℕ) → Keep S (events_from S W t)
unfolding events_from
from_keep S W zero = tt
from_keep S W (suc t) = each_append (KeepsSignals S) (events_from S W t) _ (from_keep S W t) (told_keep S t phases (world_from S W t))

-- who is stuck when the day ends is so whatever the signals
stuck_keep : (S : Setup) (t : ℕ) (W : World) (i : ℕ) (here : Act) (mode : Mode) (place : Place) → Each (IsLetTold S t 5) (stuck_at S W i here mode place)
stuck_keep S t W i here mode (At end) = tt
stuck_keep S t W i here mode (Teleporting start) = ((λ q. absurd (omega arith)), tt)
stuck_keep S t W i here mode (Waiting stop since) = ((λ q. absurd (omega arith)), tt)
stuck_keep S t W i here mode (Riding v) = ((λ q. absurd (omega arith)), tt)
stuck_keep S t W i here mode (Aborted l) = tt

stranded_keep : (S : Setup) (t : ℕ) (W : World) (i : ℕ) → Each (IsLetTold S t 5) (stranded S W i)
unfolding stranded
stranded_keep S t W i = let P = person_of i W in stuck_keep S t W i (act_at S i P.element) (mode_of_leg (leg_at S i P.element)) P.place

end_keep : (S : Setup) (t : ℕ) (W : World) (ns : List ℕ) → Keep S (flat_map (λ i. keyed t (phase_code phase.E) i 0 (stranded S W i)) ns)
end_keep S t W [] = tt
end_keep S t W (i ∷ ns) = each_append (KeepsSignals S) (keyed t (phase_code phase.E) i 0 (stranded S W i)) _ (keyed_keep S t 5 i 0 (stranded S W i) (stranded_keep S t W i)) (end_keep S t W ns)

pub day_keeps : (S : Setup) → All (KeepsSignals S) (day S)
unfolding day end_events
day_keeps S =
    let end = S.settings.end_second in
    let W = world_at S end in
    All-from_recursion (KeepsSignals S) (day S) (each_append (KeepsSignals S) (events_from S (world_start S) end) _ (from_keep S (world_start S) end) (end_keep S end W (below (length S.persons))))

-- a vehicle leaves a link while it is green
green_then : (S : Setup) (l : ℕ) (e : Event) → KeepsSignals S e → Leaves l e → S.green l e.key.second ≡ true
green_then S l e keeps leaves =
    let at_word = subst (λ (w : Word). IsLet S e.key.second e.key.phase e.link w) leaves.left keeps in
    subst (λ (o : Option ℕ). IsGreen S e.key.second o) leaves.from at_word

pub never_together : (S : Setup) (a b : ℕ) → ((t : ℕ) → S.green a t ≡ true → S.green b t ≡ true → ⊥) → NeverTogether S a b
never_together S a b apart x y in_day also from_a from_b same =
    let keeps = day_keeps S in
    apart x.key.second (green_then S a x (All-contains (KeepsSignals S) (day S) x keeps in_day) from_a)
    (ap (λ (t : ℕ). S.green b t) same ∙ green_then S b y (All-contains (KeepsSignals S) (day S) y keeps also) from_b)
