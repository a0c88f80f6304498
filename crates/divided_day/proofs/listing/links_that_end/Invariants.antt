use Rattle.town.specs.Views.{setup}
use Rattle.parts.specs.Owners.{owner_of}
use Rattle.partition.specs.Owned.{owner_in}
use Rattle.divided_day.proofs.Lists.{AreListed}
use Rattle.divided_day.proofs.listing.links_that_end.Given as goal

abbrev pub invariant-loop-link : goal.invariant-loop-link
invariant-loop-link l = AreListed (owner_of (setup l.day) (owner_in l.owner.of_node)) l.owner.parts l.link l.lists.items
