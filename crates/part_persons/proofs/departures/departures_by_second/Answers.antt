use Rattle.std.proofs.Common.{◌∙◌}
use Rattle.partition.specs.Owned.{owner_in}
use Rattle.part_persons.proofs.Departing.{departs_are}
use Rattle.part_persons.proofs.departures.departures_by_second.Goals as goal

pub returns : goal.returns
returns c = λ u lt. c.in_ok-calendar.ensures u lt ∙ departs_are c.args.day.now (owner_in c.args.owner.now.of_node) c.args.partition u
