use Rattle.std.proofs.Common.{◌≡◌, length, ◌++◌, map}
use Rattle.part_seconds.specs.Sending.{number_of}
use Rattle.part_seconds.proofs.sending.add_riders.Given as goal

abbrev pub invariant-loop-rest : goal.invariant-loop-rest
invariant-loop-rest l = l.gone.items ++ map number_of l.rest ≡ l.initial.gone.items ++ map number_of l.riders

abbrev pub decreases-loop-rest : goal.decreases-loop-rest
decreases-loop-rest l = length l.rest
