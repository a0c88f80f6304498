use Rattle.std.proofs.Common.{◌≡◌, map, take}
use Rattle.travel_times.specs.Steadily.{steady_of}
use Rattle.travel_times.proofs.link_times.steady_seconds.Given as goal

abbrev pub invariant-loop-link : goal.invariant-loop-link
invariant-loop-link l = l.seconds.items ≡ map steady_of (take l.link-index l.links)
