use Rattle.std.proofs.Common.{◌≡◌, ◌++◌, drop}
use Rattle.travel_times.specs.Binned.{tallies_of, bins_from}
use Rattle.travel_times.proofs.seen.binned.Given as goal

-- what the rows that are left give behind what is there is what all rows give
abbrev pub invariant-loop-row : goal.invariant-loop-row
invariant-loop-row l = l.bins.items ++ bins_from l.free l.hold (tallies_of l.link (drop l.row-index l.rows))
    ≡ bins_from l.free 0 (tallies_of l.link l.rows)
