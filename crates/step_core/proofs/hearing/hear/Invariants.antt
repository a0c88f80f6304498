use Rattle.std.proofs.Common.{◌-◌}
use Rattle.step_core.specs.Exchanges.{AreHeard}
use Rattle.step_core.proofs.hearing.hear.Given as goal

abbrev pub invariant-senders : goal.invariant-senders
invariant-senders g l =
    AreHeard g.T.Part.nothing g.T.Part.see g.T.Part.stands l.second l.borders l.from l.initial.wheel l.wheel l.initial.part l.part

abbrev pub decreases-senders : goal.decreases-senders
decreases-senders g l = 64 - l.from
