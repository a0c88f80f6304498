-- The day: each phase as the turns of its persons, departures, nodes or links, one after the other, and the events that they tell.
use Rattle.std.specs.Prelude.{ℕ, zero, suc, ◌+◌, List, [], ◌∷◌, ◌++◌, length, map, replicate, Option, None}
use Rattle.std.specs.List.{flat_map}
use Rattle.events.specs.{Keys.phase_code, declared.event.Event.Event, declared.event.Phase.Phase}
use Rattle.events.specs.declared.event.Phase.TheVariants as phase
use Rattle.fixed_flow.specs.declared.TheConstants.{VEHICLE_COST}
use Rattle.traffic.specs.{Links.link_state, Links.rules, Links.link_moves, Lists.below, Moves.Move, Moves.told, Moves.run, Nodes.node_view, Nodes.node_moves}
use Rattle.traffic.specs.Persons.{landing_moves, leaving_moves, departure_moves, waiters, stranded}
use Rattle.traffic.specs.{Rows.At, Rows.Person, Rows.World, Rows.person_of, Setup.Setup, Telling.Occurrence}
use Rattle.rows.specs.{PlanRows.PlanRows, declared.plan.Act.Act}

-- what one person, departure, node or link did in its turn, with its number
pub record Turn : Type 0 where
  pub number : ℕ
  pub moves : List Move

-- the moves of each in its turn, by its number and the world that it finds
abbrev pub TurnMoves : Type 0
TurnMoves = ℕ → World → List Move

abbrev pub landing_turns : Setup → ℕ → TurnMoves
landing_turns S t i W = landing_moves S t i (person_of i W)

abbrev pub leaving_turns : Setup → ℕ → TurnMoves
leaving_turns S t i W = leaving_moves S t i (person_of i W)

abbrev pub departure_turns : Setup → ℕ → TurnMoves
departure_turns S t d W = departure_moves S t d

abbrev pub node_turns : Setup → ℕ → TurnMoves
node_turns S t n W = node_moves S.settings.stuck t (S.word n) (node_view S t n W)

abbrev pub link_turns : Setup → ℕ → TurnMoves
link_turns S t l W = link_moves (rules S l) t l (waiters S l W) (link_state l W)

-- the moves of the turns of a phase of second t, and how many have a turn in it; phase E has none
unfoldable pub turns_of : Setup → ℕ → Phase → TurnMoves
turns_of S t phase.A = landing_turns S t
turns_of S t phase.B1 = leaving_turns S t
turns_of S t phase.B2 = departure_turns S t
turns_of S t phase.C = node_turns S t
turns_of S t phase.D = link_turns S t
turns_of S t phase.E = λ n W. []

abbrev pub count_of : Setup → Phase → ℕ
count_of S phase.A = length S.persons
count_of S phase.B1 = length S.persons
count_of S phase.B2 = length S.departures
count_of S phase.C = S.nodes
count_of S phase.D = length S.links
count_of S phase.E = 0

-- the turns of those whose numbers are listed, each in the world that the ones before it left
unfoldable pub turns : Setup → ℕ → TurnMoves → List ℕ → World → List Turn
turns S t moves [] W = []
turns S t moves (n ∷ ns) W = record { number = n; moves = moves n W } ∷ turns S t moves ns (run S t (moves n W) W)

abbrev pub moves_of : List Turn → List Move
moves_of us = flat_map (λ (u : Turn). u.moves) us

-- the world after turns of second t
abbrev pub after : Setup → ℕ → List Turn → World → World
after S t us W = run S t (moves_of us) W

-- the turns of a phase, by number
unfoldable pub turns_in : Setup → ℕ → Phase → World → List Turn
turns_in S t p W = turns S t (turns_of S t p) (below (count_of S p)) W

-- an event with its key
abbrev pub event_at : ℕ → ℕ → ℕ → ℕ → Occurrence → Event
event_at t code n index x =
    record { key = record { second = t; phase = code; number = n; index = index }; word = x.word; person = x.person; vehicle = x.vehicle; link = x.link; more = x.more }

-- what is told in one turn, with indices that count from this one on
unfoldable pub keyed : ℕ → ℕ → ℕ → ℕ → List Occurrence → List Event
keyed t code n index [] = []
keyed t code n index (x ∷ xs) = event_at t code n index x ∷ keyed t code n (index + 1) xs

abbrev pub events_of : ℕ → Phase → Turn → List Event
events_of t p u = keyed t (phase_code p) u.number 0 (flat_map told u.moves)

abbrev pub events_in : ℕ → Phase → List Turn → List Event
events_in t p us = flat_map (events_of t p) us

-- phases, one after the other: the world after them, and the events that they tell
unfoldable pub through : Setup → ℕ → List Phase → World → World
through S t [] W = W
through S t (p ∷ ps) W = through S t ps (after S t (turns_in S t p W) W)

unfoldable pub told_in : Setup → ℕ → List Phase → World → List Event
told_in S t [] W = []
told_in S t (p ∷ ps) W = events_in t p (turns_in S t p W) ++ told_in S t ps (after S t (turns_in S t p W) W)

-- the phases of a second
abbrev pub phases : List Phase
phases = phase.A ∷ phase.B1 ∷ phase.B2 ∷ phase.C ∷ phase.D ∷ []

-- the world after second t, and its events
abbrev pub second : Setup → ℕ → World → World
second S t W = through S t phases W

abbrev pub second_events : Setup → ℕ → World → List Event
second_events S t W = told_in S t phases W

-- the planned end of a plan's first activity
abbrev pub first_end : List Act → Option ℕ
first_end [] = None
first_end (s ∷ ss) = s.end

abbrev pub at_home : PlanRows → Person
at_home plan = record { element = 0; place = At (first_end plan.acts) }

-- the start of the day: each person at the first activity until its planned end, no vehicle, and credit for one vehicle on each link
unfoldable pub world_start : Setup → World
world_start S =
    record { rows = []; persons = map at_home S.persons; credits = replicate (length S.links) VEHICLE_COST; holes = [] }

-- the world after t seconds from W on, and the events of these seconds
unfoldable pub world_from : Setup → World → ℕ → World
world_from S W zero = W
world_from S W (suc t) = second S t (world_from S W t)

unfoldable pub events_from : Setup → World → ℕ → List Event
events_from S W zero = []
events_from S W (suc t) = events_from S W t ++ second_events S t (world_from S W t)

-- phase E in second t: who is under way is stuck, by number
unfoldable pub end_events : Setup → ℕ → World → List Event
end_events S t W = flat_map (λ i. keyed t (phase_code phase.E) i 0 (stranded S W i)) (below (length S.persons))

-- the world after t seconds of the day
abbrev pub world_at : Setup → ℕ → World
world_at S t = world_from S (world_start S) t

-- the events of the day: those of all its seconds, and of phase E at its end
unfoldable pub day : Setup → List Event
day S = events_from S (world_start S) S.settings.end_second ++ end_events S S.settings.end_second (world_at S S.settings.end_second)
