use Rattle.std.proofs.Common.{◌≡◌, take}
use Rattle.travel_times.specs.Times.{free_times}
use Rattle.travel_times.proofs.link_times.free_links.Given as goal

abbrev pub invariant-loop-link : goal.invariant-loop-link
invariant-loop-link l = l.profiles.items ≡ free_times (take l.link-index l.link-items)
