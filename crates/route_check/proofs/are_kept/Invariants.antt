use Rattle.std.proofs.Common.{ℕ, ◌<◌}
use Rattle.travel_times.specs.Times.{arrivals}
use Rattle.rows.specs.Joined.{ends_of}
use Rattle.walks.specs.Certificates.{IsKept}
use Rattle.route_check.proofs.are_kept.Given as goal

abbrev pub invariant-loop-number : goal.invariant-loop-number
invariant-loop-number l = (k : ℕ) → k < l.number → IsKept (ends_of l.links) (arrivals l.times) l.labels k
