use Rattle.std.proofs.Common.{◌≡◌, length}
use Rattle.step_core.specs.Starts.{AreEmptyWheels}
use Rattle.step_core.proofs.starting.empty_wheels.Given as goal

abbrev pub invariant-loop-place : goal.invariant-loop-place
invariant-loop-place g l = record {
  count : length l.wheels.items ≡ l.place;
  each : AreEmptyWheels g.T.Part.nothing l.borders l.place l.wheels.items;
}
