use Rattle.std.{proofs.Common.◌≡◌, proofs.Common.[], specs.Prelude.map, specs.Prelude.replicate}
use Rattle.part_nodes.specs.InLinkViews.{numbers_in}
use Rattle.part_nodes.proofs.in_link_rows.InLinks.none.Given as goal

abbrev pub invariant-loop-node : goal.invariant-loop-node
invariant-loop-node l = map numbers_in l.rows.items ≡ replicate l._node []
