use Rattle.std.proofs.Common.{inl}
use Rattle.cell_tests.proofs.trials.new_member.Goals as goal

pub returns-clause-member : goal.returns-clause-member
returns-clause-member c = let e = c.in_ok-port.ensures in
    record { port = e.port.0; untouched = λ k lt. inl (e.awaited k lt); resting = λ _. e.awaited }

pub returns-clause-hub : goal.returns-clause-hub
returns-clause-hub c = let e = c.in_ok-port.ensures in (e.hub, e.lists.0)
