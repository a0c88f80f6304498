use Rattle.std.{proofs.Common.ℕ, proofs.Common.◌<◌, proofs.Common.◌^◌, specs.Prelude.IfSome}
use Rattle.walks.specs.Rounds.{label_at}
use Rattle.route_check.proofs.are_small.Given as goal

abbrev pub invariant-loop-label : goal.invariant-loop-label
invariant-loop-label l = (k : ℕ) → k < l.label-index → IfSome (label_at l.labels k) (λ label. label < 2 ^ 60)
