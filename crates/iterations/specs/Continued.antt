-- A run that goes on from what was kept after an iteration.
use Rattle.std.specs.Prelude.{◌≡◌, ℕ, ◌+◌, ◌-◌, nat_lt, List, Option, None, Some, if◌then◌else◌}
use Rattle.edge_files.specs.{Keeping.Kept, declared.effects.Effect.Effect}
use Rattle.keep.specs.Fitting.{AreRowsOf}
use Rattle.plan_memory.specs.Memories.{MemoryRows}
use Rattle.replanning.specs.Persons.{all_replanned}
use Rattle.iterations.specs.{Acts.end_effects, Acts.acts_behind, Acts.acts, Days.events_of, Days.basis_after, Runs.RunRows}

-- the memories with which the iteration after this one begins: the day of the kept plans is simulated once more for its travel times
abbrev pub begun_after : RunRows → ℕ → List MemoryRows → List MemoryRows
begun_after R iteration kept = all_replanned (basis_after R (iteration + 1) (events_of R iteration kept)) kept

-- from memories kept after an iteration: the iterations behind it to the last one, and the end; behind the last one the end alone
unfoldable pub continued : RunRows → ℕ → List MemoryRows → List Effect
continued R iteration kept =
    if nat_lt iteration R.last_iteration
    then acts_behind R (iteration + 1) (begun_after R iteration kept) (R.last_iteration - (iteration + 1))
    else end_effects R kept

-- it goes on from what a keeper holds: from the memories whose rows these are
abbrev pub GoesOn : RunRows → Kept → List Effect → Type 0
GoesOn R kept effects =
    (memories : List MemoryRows) × AreRowsOf R.town kept.rows memories × (effects ≡ continued R kept.iteration memories)

-- a whole run from its first memories, or one that goes on from what was kept after an iteration
abbrev pub acts_after : RunRows → Option ℕ → List MemoryRows → List Effect
acts_after R None first = acts R first
acts_after R (Some iteration) kept = continued R iteration kept
