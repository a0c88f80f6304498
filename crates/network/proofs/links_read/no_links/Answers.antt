use Rattle.network.proofs.InLinks.{counted_start, few_start}
use Rattle.network.proofs.links_read.no_links.Goals as goal

pub invariant_of-result : goal.invariant_of-result
invariant_of-result c = record {
  counted = counted_start c.args.nodes _ _ c.in_ok-into.ensures c.new-2.ensures.items;
  few = few_start _ c.new-2.ensures.items;
}
