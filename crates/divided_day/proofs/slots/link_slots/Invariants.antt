use Rattle.town.specs.Views.{setup}
use Rattle.partition.specs.Owned.{owner_in}
use Rattle.divided_day.proofs.Slotted.{IsCounted}
use Rattle.divided_day.proofs.slots.link_slots.Given as goal

abbrev pub invariant-loop-link : goal.invariant-loop-link
invariant-loop-link l = IsCounted (setup l.day) (owner_in l.owner.of_node) l.owner.parts l.link l.taken.items l.slots.items
