use Rattle.std.proofs.Common.{◌≡◌, length}
use Rattle.parted_day.specs.Strays.{lag_among}
use Rattle.parted_day.proofs.straying.lag_among.Given as goal

abbrev pub invariant-loop-rest : goal.invariant-loop-rest
invariant-loop-rest l = lag_among l.partition l.rest ≡ lag_among l.partition l.borders

abbrev pub decreases-loop-rest : goal.decreases-loop-rest
decreases-loop-rest l = length l.rest
