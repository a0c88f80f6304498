use Rattle.std.proofs.Common.{◌≡◌, ℕ, ◌<◌}
use Rattle.step_core.specs.Nets.{border_at}
use Rattle.workers.proofs.pairs.lag_from.Given as goal

abbrev pub invariant-loop-k : goal.invariant-loop-k
invariant-loop-k l = (j : ℕ) → j < l.k → (border_at l.rows j).neighbour ≡ l.neighbour → ⊥
