use Rattle.std.{proofs.Common.◌≡◌, proofs.Common.◌++◌, proofs.Common.length, specs.Prelude.filter}
use Rattle.calendar.specs.Due.{AreIn}
use Rattle.part_nodes.specs.Turns.{is_buffered}
use Rattle.part_nodes.proofs.node_turns.buffered_ones.Given as goal

abbrev pub invariant-loop-rest : goal.invariant-loop-rest
invariant-loop-rest l = record {
  so_far : l.some.items ++ filter (is_buffered l.links) l.rest ≡ filter (is_buffered l.links) l.slots;
  there : AreIn (length l.links) l.rest;
}

abbrev pub decreases-loop-rest : goal.decreases-loop-rest
decreases-loop-rest l = length l.rest
