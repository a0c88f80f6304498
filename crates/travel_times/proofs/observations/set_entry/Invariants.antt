use Rattle.std.{proofs.Common.◌≡◌, proofs.Common.ℕ, proofs.Common.length, proofs.Common.None, specs.Prelude.slice_index_or}
use Rattle.travel_times.proofs.observations.set_entry.Given as goal

abbrev pub invariant-loop : goal.invariant-loop
invariant-loop l = record {
  count : length l.entries.items ≡ l.counter;
  same : (other : ℕ) → slice_index_or l.entries.items other None ≡ slice_index_or l.initial.entries.items other None;
}
