use Rattle.std.{proofs.Common.◌≡◌, specs.Prelude.replicate}
use Rattle.part_seconds.specs.Parcels.{nothing}
use Rattle.part_seconds.proofs.mailbox.empty_parcels.Given as goal

abbrev pub invariant-loop-place : goal.invariant-loop-place
invariant-loop-place l = l.parcels.items ≡ replicate l._place nothing
