use Rattle.travel_times.proofs.Known.{known_none}
use Rattle.travel_times.proofs.observations.Observations.new.Goals as goal

pub returns-clause-known : goal.returns-clause-known
returns-clause-known c = known_none c.args.links _ _ c.new.ensures.items c.new-2.ensures.items
