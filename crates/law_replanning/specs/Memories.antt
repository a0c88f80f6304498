-- What persons remember of plans in a town.
use Rattle.std.specs.{List.list_all, Prelude.◌≡◌, Prelude.◌<◌, Prelude.◌≤◌, Prelude.Bool, Prelude.List, Prelude.length, Prelude.All}
use Rattle.plan_memory.specs.{Memories.MemoryRows, declared.TheConstants.MAX_HELD}
use Rattle.law_in_range.specs.Setups.{IsPlanIn}
use Rattle.town.specs.{Fits.fits, Rows.TownRows}

-- a memory in a town: 1 to 6 plans, each with a score or none, of which one is chosen; of each of them a day of the town can be made
pub record IsMemoryIn (T : TownRows) (m : MemoryRows) : Type 0 where
  pub few : length m.plans ≤ MAX_HELD
  pub each : length m.scores ≡ length m.plans
  pub chosen : m.chosen < length m.plans
  pub plans : All (IsPlanIn T) m.plans

-- each plan of a memory fits the town
abbrev pub hold_fitting : TownRows → MemoryRows → Bool
hold_fitting T m = list_all (fits T) m.plans

-- the same of all memories
abbrev pub all_hold_fitting : TownRows → List MemoryRows → Bool
all_hold_fitting T memories = list_all (hold_fitting T) memories
