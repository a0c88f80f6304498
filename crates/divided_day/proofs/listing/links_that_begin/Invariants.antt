use Rattle.town.specs.Views.{setup}
use Rattle.parts.specs.Owners.{begins_in}
use Rattle.partition.specs.Owned.{owner_in}
use Rattle.divided_day.proofs.Lists.{AreListed}
use Rattle.divided_day.proofs.listing.links_that_begin.Given as goal

abbrev pub invariant-loop-link : goal.invariant-loop-link
invariant-loop-link l = AreListed (begins_in (setup l.day) (owner_in l.owner.of_node)) l.owner.parts l.link l.lists.items
