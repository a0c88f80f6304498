use Rattle.std.proofs.Common.{◌≡◌, length, map}
use Rattle.records.specs.Lists.{are_names}
use Rattle.records.proofs.lists.are_names.Given as goal

abbrev pub invariant-loop-rest : goal.invariant-loop-rest
invariant-loop-rest l = are_names (map (λ item. item.now) l.rest) ≡ are_names (map (λ item. item.now) l.items)

abbrev pub decreases-loop-rest : goal.decreases-loop-rest
decreases-loop-rest l = length l.rest
