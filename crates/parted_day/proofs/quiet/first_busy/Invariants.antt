use Rattle.std.proofs.Common.{◌+◌}
use Rattle.parted_day.specs.Rest.{AreAtRest}
use Rattle.parted_day.proofs.quiet.first_busy.Given as goal

abbrev pub invariant-loop-ahead : goal.invariant-loop-ahead
invariant-loop-ahead l = AreAtRest l.second (l.second + l.ahead) l.area
