use Rattle.part_nodes.specs.InLinks.{AreInto}
use Rattle.part_nodes.proofs.in_link_rows.InLinks.of_links.Given as goal

abbrev pub invariant-loop-number : goal.invariant-loop-number
invariant-loop-number l = AreInto l.nodes l.number l.links l.slots l.in_links
