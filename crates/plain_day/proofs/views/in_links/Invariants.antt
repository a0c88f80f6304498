use Rattle.traffic.proofs.Common.{in_link}
use Rattle.plain_turns.specs.OutLinks.{AreInLinks}
use Rattle.town.specs.Views.{setup}
use Rattle.plain_day.specs.Views.{is_in}
use Rattle.person_moves.proofs.Counting.{AreSeen}
use Rattle.plain_day.proofs.views.in_links.Given as goal

abbrev pub invariant-loop-link : goal.invariant-loop-link
invariant-loop-link l = AreSeen (is_in (setup l.day) l.node) (in_link (setup l.day) l.second l.world) AreInLinks l.link l.link-end l.in_links.items
