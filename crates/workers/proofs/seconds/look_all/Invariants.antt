use Rattle.std.proofs.Common.{◌≡◌, ◌<◌, ℕ}
use Rattle.cells.specs.Ports.{IsPort, SameSecond, IsUntouched, IsUnread, waits}
use Rattle.workers.proofs.seconds.look_all.Given as goal

abbrev pub invariant-loop-k : goal.invariant-loop-k
invariant-loop-k g l = IsPort g.T.Exchange.right l.board l.port × SameSecond l.initial.port l.port × IsUntouched l.port
    × ((j : ℕ) → j < l.k → IsUnread l.port j) × (waits l.port ≡ waits l.initial.port)
