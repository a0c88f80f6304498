use Rattle.std.proofs.Common.{◌≡◌, [], replicate}
use Rattle.divided_day.proofs.listing.empty_lists.Given as goal

abbrev pub invariant-loop-partition : goal.invariant-loop-partition
invariant-loop-partition l = l.lists.items ≡ replicate l._partition []
