use Rattle.step_core.specs.Cores.{IsCore}
use Rattle.step_cases.proofs.orders.steps_of.Given as goal

abbrev pub invariant-loop-turn : goal.invariant-loop-turn
invariant-loop-turn g l = IsCore g.T.Part.nothing (g.T.Part.net l.run) (g.T.Part.borders l.run) g.T.Part.see (g.T.Part.stands l.run)
    g.T.Part.spent (g.T.Part.right l.run) l.core.done.items l.core.stopped.items l.core.borders.items l.core.parts.items l.core.wheels.items
