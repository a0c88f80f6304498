use Rattle.std.proofs.Common.{◌≡◌, ℕ, ◌<◌, ◌≤◌}
use Rattle.travel_times.specs.Tallies.{tally_at}
use Rattle.travel_times.proofs.seen.seen_bins.Given as goal

abbrev pub invariant-loop-bin : goal.invariant-loop-bin
invariant-loop-bin l = record {
  within : l.seen ≤ l.bin;
  unseen : (other : ℕ) → l.seen ≤ other → other < l.bin → (tally_at l.rows l.link other).cars ≡ 0;
}
