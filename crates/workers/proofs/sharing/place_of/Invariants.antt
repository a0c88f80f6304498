use Rattle.std.proofs.Common.{◌≢◌, ℕ, ◌<◌, slice_index_or}
use Rattle.workers.specs.{Members.number_of, declared.members.Member.Member}
use Rattle.workers.proofs.sharing.place_of.Given as goal

abbrev pub invariant-loop-k : goal.invariant-loop-k
invariant-loop-k g l = (i : ℕ) (d : Member g.row.T.Denot g.row.T-Run.Denot g.row.T-Parcel.Denot) → i < l.k
    → number_of (slice_index_or l.members i d) ≢ l.number
