use Rattle.std.{proofs.Common.◌≡◌, proofs.Common.ℕ, proofs.Common.◌++◌, specs.Prelude.replicate, specs.Prelude.◌==◌, specs.Prelude.if◌then◌else◌}
use Rattle.calendar.specs.Due.{due_at}
use Rattle.part_places.proofs.leaving.add_freed.Given as goal

abbrev pub invariant-loop-place : goal.invariant-loop-place
invariant-loop-place l = (u : ℕ) → due_at u l.freed ≡ (if u == l.second then due_at u l.initial.freed ++ replicate l._place l.link else due_at u l.initial.freed)
