use Rattle.traffic.proofs.Common.{◌≡◌, ◌++◌, drop, map, red, mark}
use Rattle.plain_turns.proofs.nodes.push_red.Given as goal

abbrev pub invariant-loop-in_link : goal.invariant-loop-in_link
invariant-loop-in_link l = l.out.items ++ map (mark l.second) (red (drop l.in_link-index l.in_links)) ≡ l.initial.out.items ++ map (mark l.second) (red l.in_links)
