use Rattle.std.proofs.Common.{◌≡◌, ℕ, ◌<◌, length, get_or}
use Rattle.step_core.specs.Exchanges.{neighbour_at, lag_at}
use Rattle.step_core.proofs.starting.lags_from.Given as goal

abbrev pub invariant-loop-place : goal.invariant-loop-place
invariant-loop-place l = record {
  count : length l.lags.items ≡ 64;
  each : (k : ℕ) → k < l.place → get_or l.lags.items (neighbour_at l.borders k) 0 ≡ lag_at l.borders k;
}
