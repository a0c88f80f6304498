use Rattle.std.{proofs.Common.◌≡◌, proofs.Common.◌++◌, proofs.Common.length, specs.Prelude.map}
use Rattle.calendar.specs.Due.{AreIn}
use Rattle.part_nodes.specs.Turns.{buffered_in}
use Rattle.part_nodes.proofs.node_turns.buffers_of.Given as goal

abbrev pub invariant-loop-rest : goal.invariant-loop-rest
invariant-loop-rest l = record {
  so_far : l.counts.items ++ map (buffered_in l.links) l.rest ≡ map (buffered_in l.links) l.slots;
  there : AreIn (length l.links) l.rest;
}

abbrev pub decreases-loop-rest : goal.decreases-loop-rest
decreases-loop-rest l = length l.rest
