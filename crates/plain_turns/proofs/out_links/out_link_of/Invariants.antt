use Rattle.std.proofs.Common.{◌≡◌, drop}
use Rattle.plain_turns.specs.OutLinks.{out_links_in, AreNear}
use Rattle.plain_turns.proofs.out_links.out_link_of.Given as goal

abbrev pub invariant-loop-row : goal.invariant-loop-row
invariant-loop-row l = record {
  out_link : out_links_in (drop l.row-index l.out_links) l.link ≡ out_links_in l.out_links l.link;
  near : AreNear (drop l.row-index l.out_links);
}
