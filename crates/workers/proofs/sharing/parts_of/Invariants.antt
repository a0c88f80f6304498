use Rattle.std.proofs.Common.{ℕ, ◌<◌, ◌≤◌, Contains}
use Rattle.workers.specs.{Sharing.HasOne, Sharing.ArePartsOf, declared.members.Member.Member}
use Rattle.workers.proofs.sharing.parts_of.Given as goal

abbrev pub invariant-loop-number : goal.invariant-loop-number
invariant-loop-number g l = ArePartsOf l.initial.members.items l.number l.parts.items
    × ((p : ℕ) → l.number ≤ p → p < l.count → HasOne p l.members.items)
    × ((m : Member g.row.T.Denot g.row.T-Run.Denot g.row.T-Parcel.Denot) → Contains l.members.items m → Contains l.initial.members.items m)
