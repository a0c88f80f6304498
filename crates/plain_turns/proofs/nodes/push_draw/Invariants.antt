use Rattle.traffic.proofs.Common.{◌≡◌, length, ◌++◌, ◌+◌, word, draw}
use Rattle.plain_turns.specs.OutLinks.{out_links_in, AreNear, AreInLinks}
use Rattle.plain_turns.proofs.nodes.push_draw.Given as goal

abbrev pub invariant-loop-j : goal.invariant-loop-j
invariant-loop-j l = record {
  moves :
      l.out.items ++ draw l.at.stuck l.at.second (word l.draws) (length l.in_links.items) l.j l.in_links.items (out_links_in l.out_links.items)
      ≡ l.initial.out.items ++ draw l.at.stuck l.at.second (word l.draws) (length l.initial.in_links.items) 0 l.initial.in_links.items (out_links_in l.initial.out_links.items);
  near : AreNear l.out_links.items;
  in_links : AreInLinks l.in_links.items;
  count : l.j + length l.in_links.items ≡ length l.initial.in_links.items;
}
