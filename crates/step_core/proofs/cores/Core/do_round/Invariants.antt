use Rattle.step_core.specs.Cores.{IsCore, AreRound, number_in_round}
use Rattle.step_core.proofs.cores.Core.do_round.Given as goal

abbrev pub invariant-loop-stepped : goal.invariant-loop-stepped
invariant-loop-stepped g l = record {
  core : IsCore g.T.Part.nothing (g.T.Part.net l.run) (g.T.Part.borders l.run) g.T.Part.see (g.T.Part.stands l.run)
      g.T.Part.spent (g.T.Part.right l.run) l.self.done.items l.self.stopped.items l.self.borders.items l.self.parts.items l.self.wheels.items;
  round : AreRound (number_in_round (g.T.Part.net l.run).parts l.second) (g.T.Part.net l.run).parts l.stepped l.second l.self.done.items l.self.stopped.items;
}
