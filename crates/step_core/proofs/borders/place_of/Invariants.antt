use Rattle.std.proofs.Common.{ℕ, ◌<◌, ◌≤◌, length}
use Rattle.step_core.specs.Exchanges.{neighbour_at}
use Rattle.step_core.proofs.borders.place_of.Given as goal

abbrev pub invariant-places : goal.invariant-places
invariant-places l = record {
  within : l.behind ≤ length l.borders;
  past : (k : ℕ) → l.behind ≤ k → k < length l.borders → l.partition < neighbour_at l.borders k;
}

abbrev pub decreases-places : goal.decreases-places
decreases-places l = l.behind
