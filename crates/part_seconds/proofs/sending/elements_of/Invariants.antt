use Rattle.std.proofs.Common.{◌≡◌, length, ◌++◌, map}
use Rattle.part_seconds.specs.Sending.{element_of}
use Rattle.part_seconds.proofs.sending.elements_of.Given as goal

abbrev pub invariant-loop-rest : goal.invariant-loop-rest
invariant-loop-rest l = l.rows.items ++ map (element_of l.persons) l.rest ≡ map (element_of l.persons) l.riders

abbrev pub decreases-loop-rest : goal.decreases-loop-rest
decreases-loop-rest l = length l.rest
