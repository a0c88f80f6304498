use Rattle.std.proofs.Common.{◌-◌, ◌≤◌, length}
use Rattle.step_core.specs.Exchanges.{AreSent}
use Rattle.step_core.proofs.hearing.send.Given as goal

abbrev pub invariant-parcels : goal.invariant-parcels
invariant-parcels g l = record {
  within : l.from ≤ length l.borders;
  sent : AreSent g.T.Part.nothing g.T.Part.see g.T.Part.stands l.second l.number l.borders l.from
      l.initial.wheels l.wheels l.initial.part l.part;
}

abbrev pub decreases-parcels : goal.decreases-parcels
decreases-parcels g l = length l.borders - l.from
