use Rattle.std.proofs.{Common.arith, Common.rules, lemmas.Grind.common_steps}
use Rattle.traffic.specs.Stops.{stays_until}
use Rattle.riders.proofs.waiting.Waiting.serve.Goals as goal

pub returns-clause-until : goal.returns-clause-until
unfolding stays_until
returns-clause-until c = first_of (search rules, grind (arith, common_steps))
