use Rattle.traffic.{proofs.Common.◌≡◌, proofs.Common.◌++◌, proofs.Common.drop, proofs.Common.pass_node, proofs.Common.out_links_after, specs.Nodes.HaveNext}
use Rattle.plain_turns.specs.OutLinks.{out_links_in, AreNear}
use Rattle.plain_turns.proofs.nodes.push_pass_node.Given as goal

abbrev pub invariant-loop-row : goal.invariant-loop-row
invariant-loop-row l = record {
  moves :
      l.out.items ++ pass_node l.at.stuck l.at.second l.a (out_links_in l.out_links.items) l.since (drop l.row-index l.rows)
      ≡ l.initial.out.items ++ pass_node l.at.stuck l.at.second l.a (out_links_in l.initial.out_links.items) l.initial.since l.rows;
  out_links :
      out_links_after (pass_node l.at.stuck l.at.second l.a (out_links_in l.out_links.items) l.since (drop l.row-index l.rows)) (out_links_in l.out_links.items)
      ≡ out_links_after (pass_node l.at.stuck l.at.second l.a (out_links_in l.initial.out_links.items) l.initial.since l.rows) (out_links_in l.initial.out_links.items);
  near : AreNear l.out_links.items;
  next : HaveNext (drop l.row-index l.rows);
}
