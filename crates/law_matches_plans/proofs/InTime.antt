-- No event of a day is later than the day's end.
use Rattle.traffic.proofs.Common.{ℕ, List, length, [], ◌∷◌, arith, ◌+◌, ◌≤◌, suc, zero, All-from_recursion, flat_map, All, phase_code, Event, Phase, world_at}
use Rattle.traffic.proofs.Common.{turns_in, world_start, keyed, world_from, after, events_from, day, phases, end_events, events_in, told_in, Turn, events_of}
use Rattle.traffic.proofs.Common.{below, told, stranded, World, Setup}
use Rattle.traffic.{proofs.Each.each_append as append, proofs.Each.each_weaker, specs.declared.moves.Occurrence.Occurrence}
use Rattle.std.specs.List.{AllByRecursion as Each}
use Rattle.events.specs.declared.event.Phase.TheVariants as phase

abbrev Until : ℕ → List Event → Type 0
Until n es = Each (λ (e : Event). e.key.second ≤ n) es

keyed_until : (t code n k : ℕ) (xs : List Occurrence) → Until t (keyed t code n k xs)
unfolding keyed
keyed_until t code n k [] = tt
keyed_until t code n k (x ∷ xs) = (omega arith, keyed_until t code n (k + 1) xs)

turns_until : (t : ℕ) (p : Phase) (us : List Turn) → Until t (events_in t p us)
turns_until t p [] = tt
turns_until t p (u ∷ us) = append _ (events_of t p u) (events_in t p us) (keyed_until t (phase_code p) u.number 0 (flat_map told u.moves)) (turns_until t p us)

told_until : (S : Setup) (t : ℕ) (ps : List Phase) (W : World) → Until t (told_in S t ps W)
unfolding told_in
told_until S t [] W = tt
told_until S t (p ∷ ps) W =
    let us = turns_in S t p W in
    append _ (events_in t p us) (told_in S t ps (after S t us W)) (turns_until t p us) (told_until S t ps (after S t us W))

from_until : (S : Setup) (W : World) (t : ℕ) → Until t (events_from S W t)
unfolding events_from
from_until S W zero = tt
from_until S W (suc t) =
    let V = world_from S W t in
    let more = each_weaker (λ (e : Event). e.key.second ≤ t) (λ (e : Event). e.key.second ≤ suc t) (λ e k. omega arith) in
    append _ (events_from S W t) (told_in S t phases V) (more _ (from_until S W t)) (more _ (told_until S t phases V))

stranded_until : (S : Setup) (t : ℕ) (W : World) (ns : List ℕ) → Until t (flat_map (λ i. keyed t (phase_code phase.E) i 0 (stranded S W i)) ns)
stranded_until S t W [] = tt
stranded_until S t W (i ∷ ns) = append _ (keyed t (phase_code phase.E) i 0 (stranded S W i)) _ (keyed_until t (phase_code phase.E) i 0 (stranded S W i)) (stranded_until S t W ns)

pub day_until : (S : Setup) → All (λ (e : Event). e.key.second ≤ S.settings.end_second) (day S)
unfolding day end_events
day_until S =
    let V = world_at S S.settings.end_second in
    All-from_recursion (λ (e : Event). e.key.second ≤ S.settings.end_second) (day S)
    (append _ (events_from S (world_start S) S.settings.end_second) _ (from_until S (world_start S) S.settings.end_second) (stranded_until S S.settings.end_second V (below (length S.persons))))
