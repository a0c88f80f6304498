use Rattle.std.proofs.Common.{ℕ, ◌+◌, ◌<◌}
use Rattle.step_core.specs.{Cores.done_at, Exchanges.neighbour_at, Exchanges.lag_at}
use Rattle.step_core.proofs.hearing.first_late.Given as goal

abbrev pub invariant-loop-border : goal.invariant-loop-border
invariant-loop-border l = (k : ℕ) → k < l.border-index → l.second < done_at l.done (neighbour_at l.borders k) + lag_at l.borders k
