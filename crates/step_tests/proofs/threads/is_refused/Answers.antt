use Rattle.step_tests.proofs.Neighbours.{borders_are}
use Rattle.step_tests.proofs.threads.is_refused.Goals as goal

pub run_day-requires-clause-borders : goal.run_day-requires-clause-borders
run_day-requires-clause-borders g c κs within =
    λ p there. borders_are c.args.run.now.count c.args.run.now.longest c.args.run.now.end c.args.run.now.sound p there
