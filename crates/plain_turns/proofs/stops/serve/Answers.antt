use Rattle.std.proofs.Common.{rules}
use Rattle.traffic.specs.Stops.{left_behind}
use Rattle.plain_turns.proofs.stops.serve.Goals as goal

pub returns-clause-left : goal.returns-clause-left
unfolding left_behind
returns-clause-left c = search rules
