-- What files without a fault give.
use Rattle.std.specs.Prelude.{◌≡◌, ◌≤◌, length, All}
use Rattle.learning.specs.{Ranges.AreInRange, declared.TheConstants.LAST_ITERATION}
use Rattle.limits.specs.declared.TheConstants.{MAX_PLANS}
use Rattle.plan_memory.specs.Memories.{MemoryRows, first_memory}
use Rattle.plan_text.specs.Lines.{IsBook}
use Rattle.town.specs.Rows.{TownRows, IsTown}
use Rattle.law_replanning.specs.Memories.{IsMemoryIn}
use Rattle.scenario.specs.FilesToScenario.{ScenarioRows}

-- what a person remembers at first: at most five plans, none of which has a score, and the first one is chosen
pub record IsFirst (m : MemoryRows) : Type 0 where
  pub few : length m.plans ≤ MAX_PLANS
  pub untried : m ≡ first_memory m.plans

-- every row of the town names rows that are there, within the limits; each node has a name; each person remembers plans of each of which a
-- day of the town can be made; and the settings of replanning are in their ranges
pub record IsScenario (S : ScenarioRows) : Type 0 where
  pub town : IsTown S.town
  pub each_node : length S.node_names ≡ length S.town.nodes
  pub each : length S.memories ≡ length S.town.book.persons
  pub memories : All (IsMemoryIn S.town) S.memories
  pub first : All IsFirst S.memories
  pub learning : AreInRange S.learning
  pub few_iterations : S.last_iteration ≤ LAST_ITERATION

-- the book of the town has names alone, of which none comes twice, one for each link and one for each stop
pub record IsNamed (T : TownRows) : Type 0 where
  pub book : IsBook T.book
  pub each_link : length T.book.links ≡ length T.links
  pub each_stop : length T.book.stops ≡ length T.stops
