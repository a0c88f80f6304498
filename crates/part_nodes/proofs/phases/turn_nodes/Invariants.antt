use Rattle.std.proofs.Common.{take}
use Rattle.law_in_range.specs.Setups.{counts_in}
use Rattle.town.specs.Views.{setup}
use Rattle.traffic.specs.Rows.{World}
use Rattle.part_nodes.specs.Phase.{Extent, HasLinks, AreMine, StandsForAt, AreTurned}
use Rattle.part_nodes.proofs.phases.turn_nodes.Given as goal

abbrev pub invariant-loop-number : goal.invariant-loop-number
invariant-loop-number l =
    (E : Extent) (V : World) → HasLinks (setup l.phase.day.now) E l.phase.link_slots.now → AreMine E l.numbers
    → StandsForAt (counts_in l.phase.day.now) (setup l.phase.day.now) E l.phase.day.now.town.now.settings.end_second l.phase.second
    l.initial.network V
    → AreTurned (counts_in l.phase.day.now) (setup l.phase.day.now) E l.phase.day.now.town.now.settings.end_second l.phase.second V
    (take l.number-index l.numbers) l.initial.network l.network l.initial.told.events.items l.told.events.items
    l.initial.told.said.items l.told.said.items l.initial.out.items l.out.items
