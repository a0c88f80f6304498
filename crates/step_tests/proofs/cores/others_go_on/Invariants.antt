use Rattle.std.proofs.Common.{◌≡◌, length}
use Rattle.step_tests.specs.Counters.{IsCoreOfRow}
use Rattle.step_tests.proofs.cores.others_go_on.Given as goal

abbrev pub invariant-loop-turn : goal.invariant-loop-turn
invariant-loop-turn l = IsCoreOfRow l.run l.trial.core.done.items l.trial.core.stopped.items l.trial.core.borders.items
    l.trial.core.parts.items l.trial.core.wheels.items × (length l.trial.done.items ≡ l.run.count)
