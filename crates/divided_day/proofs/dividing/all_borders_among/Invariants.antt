use Rattle.std.proofs.Common.{◌≡◌, ℕ, ◌<◌, [], length, get_or}
use Rattle.divided_day.specs.Borders.{borders_among}
use Rattle.divided_day.proofs.dividing.all_borders_among.Given as goal

abbrev pub invariant-loop-partition : goal.invariant-loop-partition
invariant-loop-partition l = record {
  count : length l.lists.items ≡ l.partition;
  each : (p : ℕ) → p < l.partition → get_or l.lists.items p [] ≡ borders_among p l.pairs l.lags;
}
