-- What replanning makes of a person's memory, and of all memories.
use Rattle.std.specs.{List.list_all, List.enumerate_from, Prelude.ℕ, Prelude.◌≤◌, Prelude.Bool, Prelude.List, Prelude.map}
use Rattle.limits.specs.declared.TheConstants.{LAST_SECOND}
use Rattle.draws.specs.Words.{Source, person_source, word}
use Rattle.learning.specs.{Ranges.AreInRange, Strategies.strategy_of, declared.settings.Learning.Learning, declared.strategies.Strategy.Strategy}
use Rattle.learning.specs.declared.strategies.Strategy.TheVariants as strategy
use Rattle.walks.specs.Arrivals.{Arrivals}
use Rattle.router.specs.{Graphs.Graph, Legs.are_on}
use Rattle.rows.specs.PlanRows.{PlanRows}
use Rattle.plan_memory.specs.declared.choices.Choice.TheVariants as choice
use Rattle.plan_memory.specs.Memories.{MemoryRows, chosen_plan, with_plan, with_choice, reduced}
use Rattle.replanning.specs.{Acts.mutated_plan, Legs.rerouted_plan}

-- what persons replan by before an iteration: the network, when the end of each link is reached by the travel times of the day before, the settings, where all random words begin,
-- the second at which a day ends, and the iteration's number
pub record Basis : Type 0 where
  pub graph : Graph
  pub arrive : Arrivals
  pub learning : Learning
  pub seed : ℕ
  pub end_second : ℕ
  pub iteration : ℕ

-- the settings are in their ranges, and a day ends within two days
pub record IsBasis (basis : Basis) : Type 0 where
  pub learning : AreInRange basis.learning
  pub end_second : basis.end_second ≤ LAST_SECOND

-- a memory by a strategy, with the words of its person; a new plan is a copy of the chosen one
unfoldable pub by_strategy : Basis → Source → Strategy → MemoryRows → MemoryRows
by_strategy basis words strategy.KeepLastSelected m = m
by_strategy basis words strategy.BestScore m = with_choice choice.Best basis.learning.logit_unit (word words 1) m
by_strategy basis words strategy.SelectRandom m = with_choice choice.Random basis.learning.logit_unit (word words 1) m
by_strategy basis words strategy.SelectLogit m = with_choice choice.Logit basis.learning.logit_unit (word words 1) m
by_strategy basis words strategy.ReRoute m = with_plan m (rerouted_plan basis.graph basis.arrive (chosen_plan m))
by_strategy basis words strategy.TimeMutation m =
    with_plan m (mutated_plan basis.learning.mutation_range basis.end_second words (chosen_plan m))

-- the words of a person in the iteration
abbrev pub words_of : Basis → ℕ → Source
words_of basis person = person_source basis.seed basis.iteration person

-- a person's memory after replanning: first no more plans than he keeps, and then by the strategy that his word picks
unfoldable pub replanned : Basis → ℕ → MemoryRows → MemoryRows
replanned basis person m =
    by_strategy basis (words_of basis person) (strategy_of basis.learning basis.iteration (word (words_of basis person) 0))
    (reduced basis.learning.memory_size m)

-- all memories after replanning, person by person
abbrev pub all_replanned : Basis → List MemoryRows → List MemoryRows
all_replanned basis memories = map (λ (own : ℕ × MemoryRows). replanned basis own.0 own.1) (enumerate_from 0 memories)

-- the activities of a person's plans are on links of which there are so many
abbrev pub is_on : ℕ → MemoryRows → Bool
is_on links m = list_all (λ (plan : PlanRows). are_on links plan.acts) m.plans

-- the same of all persons
abbrev pub all_are_on : ℕ → List MemoryRows → Bool
all_are_on links memories = list_all (is_on links) memories
