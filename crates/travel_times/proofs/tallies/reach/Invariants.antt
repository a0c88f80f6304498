use Rattle.std.proofs.Common.{◌≡◌, ℕ, ◌+◌, ◌≤◌, max, length}
use Rattle.travel_times.specs.Tallies.{row_at}
use Rattle.travel_times.proofs.tallies.reach.Given as goal

abbrev pub invariant-loop : goal.invariant-loop
invariant-loop l = record {
  count : length l.rows.items ≡ l.counter;
  few : l.counter ≤ max (length l.initial.rows.items) (l.bin + 1);
  same : (other : ℕ) → row_at l.rows.items other ≡ row_at l.initial.rows.items other;
}
