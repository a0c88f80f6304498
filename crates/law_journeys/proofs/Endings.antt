-- What is told when the day ends.
use Rattle.traffic.proofs.Common.{◌≡◌, ℕ, List, refl, [], ◌∷◌, ◌++◌, ◌+◌, map-append, flat_map, Act, Mode, phase_code, keyed, day, end_events, events_from}
use Rattle.traffic.proofs.Common.{world_start, world_at, below, length, stranded, stuck_at, mode_of_leg, act_at, leg_at, person_of, World, Setup, None}
use Rattle.traffic.proofs.Each.{each_append}
use Rattle.traffic.specs.declared.{moves.Occurrence.Occurrence, world.Place.Place}
use Rattle.traffic.specs.declared.world.Place.TheVariants.{At, Teleporting, Waiting, Riding, Aborted}
use Rattle.std.specs.List.{AllByRecursion as Each}
use Rattle.events.specs.declared.event.Phase.TheVariants as phase
use Rattle.events.specs.declared.event.Word.TheVariants as word
use Rattle.law_journeys.{proofs.History.at_time, specs.News.News, specs.News.news, specs.News.news_of}

-- a person is stuck, at the end of the day or with a vehicle
pub record IsStuck (e : News) : Type 0 where
  pub word : e.what.word ≡ word.StuckAndAbort
  pub nobody : e.what.vehicle ≡ None

abbrev StuckAt : ℕ → Occurrence → Type 0
StuckAt t x = IsStuck (at_time t x)

stuck_stuck : (S : Setup) (t : ℕ) (W : World) (i : ℕ) (here : Act) (mode : Mode) (place : Place) → Each (StuckAt t) (stuck_at S W i here mode place)
stuck_stuck S t W i here mode (At end) = tt
stuck_stuck S t W i here mode (Teleporting start) = (record { word = refl; nobody = refl }, tt)
stuck_stuck S t W i here mode (Waiting stop since) = (record { word = refl; nobody = refl }, tt)
stuck_stuck S t W i here mode (Riding v) = (record { word = refl; nobody = refl }, tt)
stuck_stuck S t W i here mode (Aborted l) = tt

stranded_stuck : (S : Setup) (t : ℕ) (W : World) (i : ℕ) → Each (StuckAt t) (stranded S W i)
unfolding stranded
stranded_stuck S t W i = let P = person_of i W in stuck_stuck S t W i (act_at S i P.element) (mode_of_leg (leg_at S i P.element)) P.place

keyed_stuck : (t code n k : ℕ) (xs : List Occurrence) → Each (StuckAt t) xs → Each IsStuck (news (keyed t code n k xs))
unfolding keyed
keyed_stuck t code n k [] h = tt
keyed_stuck t code n k (x ∷ xs) h = (h.0, keyed_stuck t code n (k + 1) xs h.1)

ends_stuck : (S : Setup) (t : ℕ) (W : World) (ns : List ℕ) → Each IsStuck (news (flat_map (λ i. keyed t (phase_code phase.E) i 0 (stranded S W i)) ns))
ends_stuck S t W [] = tt
ends_stuck S t W (i ∷ ns) =
    let one = keyed t (phase_code phase.E) i 0 (stranded S W i) in
    let more = flat_map (λ (j : ℕ). keyed t (phase_code phase.E) j 0 (stranded S W j)) ns in
    rw (map-append news_of one more) (each_append IsStuck (news one) (news more) (keyed_stuck t (phase_code phase.E) i 0 (stranded S W i) (stranded_stuck S t W i)) (ends_stuck S t W ns))

pub end_stuck : (S : Setup) (t : ℕ) (W : World) → Each IsStuck (news (end_events S t W))
unfolding end_events
end_stuck S t W = ends_stuck S t W (below (length S.persons))

-- the news of a day are those of its seconds and of its end
pub day_news : (S : Setup) → news (day S) ≡ news (events_from S (world_start S) S.settings.end_second) ++ news (end_events S S.settings.end_second (world_at S S.settings.end_second))
unfolding day
day_news S = map-append news_of (events_from S (world_start S) S.settings.end_second) (end_events S S.settings.end_second (world_at S S.settings.end_second))
