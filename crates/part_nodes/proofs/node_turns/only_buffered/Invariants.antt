use Rattle.std.{proofs.Common.◌≡◌, proofs.Common.take, specs.Prelude.filter}
use Rattle.part_nodes.{proofs.Only.as_list, specs.Turns.is_buffered}
use Rattle.part_nodes.proofs.node_turns.only_buffered.Given as goal

abbrev pub invariant-loop-slot : goal.invariant-loop-slot
invariant-loop-slot l = filter (is_buffered l.links) (take l.slot-index l.slots) ≡ as_list l.only
