use Rattle.std.proofs.Common.{◌≡◌, ℕ, ◌<◌, length}
use Rattle.travel_times.specs.{Observed.link_at, Tallies.IsSeen, Times.free_of, Times.profile_at}
use Rattle.travel_times.proofs.seen.seen_profiles.Given as goal

abbrev pub invariant-loop-place : goal.invariant-loop-place
invariant-loop-place l = record {
  count : length l.profiles.items ≡ l.place;
  seen : (link : ℕ) → link < l.place → IsSeen (free_of (link_at l.links link)) link l.rows (profile_at l.profiles.items link);
}
