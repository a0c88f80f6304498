-- The day of an iteration, what it is worth to each person, and what is remembered of it.
use Rattle.std.specs.Prelude.{ℕ, ◌+◌, List, map, slice_get, Option, None, Some, ℤ}
use Rattle.std.specs.List.{enumerate_from}
use Rattle.events.specs.declared.event.Event.{Event}
use Rattle.rows.specs.{PlanRows.PlanRows, declared.network.LinkRow.LinkRow}
use Rattle.day_scores.specs.Scores.{first_kind, scores_of}
use Rattle.traffic.specs.{Day.day, Setup.Setup}
use Rattle.town.specs.Setups.{setup_of}
use Rattle.walks.specs.Arrivals.{Arrivals}
use Rattle.travel_times.specs.{Observed.observed_time, Times.arrival_by}
use Rattle.plan_memory.specs.Memories.{MemoryRows, chosen_plan, with_score}
use Rattle.replanning.specs.Persons.{Basis, all_replanned}
use Rattle.law_replanning.specs.Towns.{graph_in}
use Rattle.iterations.specs.Runs.{RunRows}

-- the plans that the persons follow: each the one that he has chosen
abbrev pub followed_plans : List MemoryRows → List PlanRows
followed_plans memories = map chosen_plan memories

-- the setup of the day of an iteration on which the persons follow these
abbrev pub day_in : RunRows → ℕ → List MemoryRows → Setup
day_in R iteration memories = setup_of R.town (followed_plans memories) iteration

-- the events of that day
unfoldable pub events_of : RunRows → ℕ → List MemoryRows → List Event
events_of R iteration memories = day (day_in R iteration memories)

-- what each person's own events of that day are worth to him
unfoldable pub scores_in : RunRows → ℕ → List MemoryRows → List ℤ
scores_in R iteration memories = scores_of R.scoring (map first_kind (followed_plans memories)) (events_of R iteration memories)

-- a memory with a score for its chosen plan, where there is one
abbrev pub with_own_score : MemoryRows → Option ℤ → MemoryRows
with_own_score m None = m
with_own_score m (Some score) = with_score m score

-- each memory with the score of its person, by the persons' numbers
unfoldable pub scored : List MemoryRows → List ℤ → List MemoryRows
scored memories scores = map (λ (own : ℕ × MemoryRows). with_own_score own.1 (slice_get scores own.0)) (enumerate_from 0 memories)

-- what is remembered after an iteration: each chosen plan has its score
unfoldable pub memories_after : RunRows → ℕ → List MemoryRows → List MemoryRows
memories_after R iteration memories = scored memories (scores_in R iteration memories)

-- the second in which the end of a link is reached, by that of entry, as the events of a day show it
abbrev pub seen_arrivals : List LinkRow → List Event → Arrivals
seen_arrivals links events link second = arrival_by (observed_time links events link) second

-- what persons replan by before an iteration: the travel times that the events of the day before show
abbrev pub basis_after : RunRows → ℕ → List Event → Basis
basis_after R iteration events = record {
  graph = graph_in R.town;
  arrive = seen_arrivals R.town.links events;
  learning = R.learning;
  seed = R.town.seed;
  end_second = R.town.settings.end_second;
  iteration = iteration;
}

-- what is remembered when the next iteration begins: persons have replanned
unfoldable pub next_memories : RunRows → ℕ → List MemoryRows → List MemoryRows
next_memories R iteration memories =
    all_replanned (basis_after R (iteration + 1) (events_of R iteration memories)) (memories_after R iteration memories)
