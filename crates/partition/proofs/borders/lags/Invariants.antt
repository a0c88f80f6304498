use Rattle.std.proofs.Common.{◌≡◌, take, map}
use Rattle.town.specs.Views.{setup}
use Rattle.partition.specs.{Neighbours.lags_of, Owned.owner_in}
use Rattle.partition.proofs.borders.lags.Given as goal

abbrev pub invariant-loop-pair : goal.invariant-loop-pair
invariant-loop-pair l = l.lags.items ≡ map (lags_of (setup l.day) (owner_in l.owner.of_node)) (take l.pair-index l.pairs)
