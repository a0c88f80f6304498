-- What contracts see of a memory, and what it keeps.
use Rattle.std.specs.Prelude.{◌≡◌, ◌<◌, ◌≤◌, length, map}
use Rattle.rows.specs.PlanRows.{plan_rows}
use Rattle.plan_memory.specs.{Memories.MemoryRows, declared.TheConstants.MAX_HELD, declared.memory.Memory.TheInside.Inside}

abbrev pub memory_of : Inside → MemoryRows
memory_of m = record { plans = map plan_rows m.plans; scores = m.scores.items; chosen = m.chosen }

-- there are 1 to 6 plans, each with a score or none, and the chosen one is among them
pub record IsMemory (m : Inside) : Type 0 where
  pub few : length m.plans ≤ MAX_HELD
  pub each : length m.scores.items ≡ length m.plans
  pub chosen : m.chosen < length m.plans
