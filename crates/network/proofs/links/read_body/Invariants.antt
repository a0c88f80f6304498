use Rattle.std.proofs.Common.{◌≡◌, length}
use Rattle.records.proofs.InTurn.{IsReadTo}
use Rattle.network.specs.Links.{link_reason, link_of}
use Rattle.network.proofs.links.read_body.Given as goal

abbrev pub invariant-loop-place : goal.invariant-loop-place
invariant-loop-place l = record {
  so_far : IsReadTo 0 (link_of l.nodes) (link_reason l.nodes) l.rows l.place l.read.names l.read.links.items;
  nodes : length l.read.into.items ≡ length l.nodes;
}
