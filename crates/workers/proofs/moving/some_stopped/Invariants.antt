use Rattle.std.proofs.Common.{◌≡◌, ℕ, ◌<◌, false, slice_index_or}
use Rattle.workers.specs.{Members.is_stopped, declared.members.Member.Member}
use Rattle.workers.proofs.moving.some_stopped.Given as goal

abbrev pub invariant-loop-k : goal.invariant-loop-k
invariant-loop-k g l = (i : ℕ) (d : Member g.row.T.Denot g.row.T-Run.Denot g.row.T-Parcel.Denot) → i < l.k
    → is_stopped (slice_index_or l.members i d) ≡ false
