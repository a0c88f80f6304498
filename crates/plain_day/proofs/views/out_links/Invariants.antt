use Rattle.plain_turns.specs.OutLinks.{AreNear}
use Rattle.town.specs.Views.{setup}
use Rattle.plain_day.specs.Views.{out_link_row, is_out}
use Rattle.person_moves.proofs.Counting.{AreSeen}
use Rattle.plain_day.proofs.views.out_links.Given as goal

abbrev pub invariant-loop-link : goal.invariant-loop-link
invariant-loop-link l = AreSeen (is_out (setup l.day) l.node) (out_link_row (setup l.day) l.second l.world) AreNear l.link l.link-end l.out_links.items
