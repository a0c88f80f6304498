use Rattle.std.proofs.Common.{◌≡◌, ◌<◌, ◌≤◌, ℕ, true, length, Some}
use Rattle.std.specs.Prelude.{slice_index, IsSomeAnd}
use Rattle.travel_times.specs.Times.{arrivals}
use Rattle.walks.specs.Chosen.{leads}
use Rattle.router.proofs.Stars.{links_of}
use Rattle.router.proofs.ways.link_before.Given as goal

abbrev pub invariant-loop-spoke : goal.invariant-loop-spoke
invariant-loop-spoke l = record {
  below : (k : ℕ) → k < l.spoke-index
      → leads l.adjacency.ends (arrivals l.times) l.labels l.node (slice_index (links_of l.spoke-items) k) ≡ true
      → IsSomeAnd l.least (λ m. m ≤ slice_index (links_of l.spoke-items) k);
  led : (m : ℕ) → l.least ≡ Some m → (m < length l.adjacency.ends) × (leads l.adjacency.ends (arrivals l.times) l.labels l.node m ≡ true);
}
