use Rattle.std.{proofs.Common.ℕ, specs.Int.IsGcd}
use Rattle.signals.specs.Arcs.{IsBetween}
use Rattle.signals.proofs.arcs.common_divisor.Given as goal

abbrev pub invariant-loop-smaller : goal.invariant-loop-smaller
invariant-loop-smaller l = record {
  divisor : (g : ℕ) → IsGcd l.larger l.smaller g → IsGcd l.first l.second g;
  larger : IsBetween l.first l.second l.larger;
  smaller : IsBetween l.first l.second l.smaller;
}

abbrev pub decreases-loop-smaller : goal.decreases-loop-smaller
decreases-loop-smaller l = l.smaller
