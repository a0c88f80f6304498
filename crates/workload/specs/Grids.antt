-- A grid, by its size.
use Rattle.std.specs.Prelude.{ℕ, ◌≤◌}
use Rattle.learning.specs.declared.TheConstants.{LAST_ITERATION}
use Rattle.workload.specs.declared.TheConstants.{LEAST_SIZE, MOST_SIZE}

-- 3 to 100 rows of as many nodes, and up to 1,000 iterations after the first one
pub record IsGrid (size last_iteration : ℕ) : Type 0 where
  pub least : LEAST_SIZE ≤ size
  pub most : size ≤ MOST_SIZE
  pub last : last_iteration ≤ LAST_ITERATION
