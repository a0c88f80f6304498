use Rattle.step_tests.proofs.Neighbours.{borders_are}
use Rattle.step_tests.proofs.threads.one_of.Goals as goal

pub alone-requires-clause-borders : goal.alone-requires-clause-borders
alone-requires-clause-borders c κs =
    λ p there. borders_are c.args.run.now.count c.args.run.now.longest c.args.run.now.end c.args.run.now.sound p there
