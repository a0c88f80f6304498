use Rattle.step_core.specs.Cores.{IsCore, AllAt}
use Rattle.step_core.proofs.cores.Core.run.Given as goal

abbrev pub invariant-loop-second : goal.invariant-loop-second
invariant-loop-second g l = record {
  core : IsCore g.T.Part.nothing (g.T.Part.net l.run) (g.T.Part.borders l.run) g.T.Part.see (g.T.Part.stands l.run)
      g.T.Part.spent (g.T.Part.right l.run) l.self.done.items l.self.stopped.items l.self.borders.items l.self.parts.items l.self.wheels.items;
  at : AllAt (g.T.Part.net l.run).parts l.second l.self.done.items l.self.stopped.items;
}
