use Rattle.std.proofs.Common.{◌≡◌, length, take}
use Rattle.node_seconds.proofs.Lanes.{AreTaken}
use Rattle.node_seconds.proofs.taking.take_links.Given as goal

abbrev pub invariant-loop-slot : goal.invariant-loop-slot
invariant-loop-slot l = record {
  taken : AreTaken l.initial.links l.links (take l.slot-index l.slots) l.taken.items;
  count : length l.links ≡ length l.initial.links;
}
