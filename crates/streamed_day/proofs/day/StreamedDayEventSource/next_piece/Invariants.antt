use Rattle.step_core.specs.Cores.{IsCore, AreRound}
use Rattle.streamed_day.proofs.day.StreamedDayEventSource.next_piece.Given as goal

-- the partitions before this one have done the second
abbrev pub invariant-loop-number : goal.invariant-loop-number
invariant-loop-number g l = record {
  core : IsCore g.T.Part.nothing (g.T.Part.net l.self.run.now) (g.T.Part.borders l.self.run.now) g.T.Part.see
      (g.T.Part.stands l.self.run.now)
      g.T.Part.spent (g.T.Part.right l.self.run.now) l.core.done.items l.core.stopped.items l.core.borders.items l.core.parts.items
      l.core.wheels.items;
  round : AreRound (λ p. p) (g.T.Part.net l.self.run.now).parts l.number l.self.second l.core.done.items l.core.stopped.items;
}
