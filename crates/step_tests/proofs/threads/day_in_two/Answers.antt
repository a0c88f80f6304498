use Rattle.step_tests.proofs.Neighbours.{borders_are}
use Rattle.step_tests.proofs.threads.day_in_two.Goals as goal

pub start-requires-clause-borders : goal.start-requires-clause-borders
start-requires-clause-borders g c κs p there =
    borders_are c.args.run.now.count c.args.run.now.longest c.args.run.now.end c.args.run.now.sound p there
