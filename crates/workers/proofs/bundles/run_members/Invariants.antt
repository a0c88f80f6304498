use Rattle.std.proofs.Common.{◌+◌, ◌-◌, ◌*◌, ◌≤◌}
use Rattle.workers.specs.{Members.Went, Members.Patient, Members.seconds_left, declared.bundles.TheConstants.PATIENCE}
use Rattle.workers.proofs.bundles.run_members.Given as goal

abbrev pub invariant-loop-idle : goal.invariant-loop-idle
invariant-loop-idle g l = Went l.until g.T.Part.borders g.T.Part.nothing g.T.Part.see g.T.Part.stands g.T.Part.spent g.T.Part.right
    l.run l.board
    l.initial.members l.members
    × Patient l.until l.idle l.initial.members l.members × (l.idle ≤ PATIENCE)

abbrev pub decreases-loop-idle : goal.decreases-loop-idle
decreases-loop-idle g l = seconds_left l.until l.members * (PATIENCE + 1) + (PATIENCE - l.idle)
