use Rattle.std.proofs.Common.{◌≡◌, ℕ, ◌<◌, take}
use Rattle.calendar.specs.Due.{due_at}
use Rattle.partition.specs.Owned.{owner_in}
use Rattle.part_persons.specs.{Phases.numbers_where, Starts.is_due}
use Rattle.part_persons.proofs.departures.by_second.Given as goal

abbrev pub invariant-loop-number : goal.invariant-loop-number
invariant-loop-number l = (u : ℕ) → u < l.day.town.now.settings.end_second
    → due_at u l.calendar ≡ numbers_where (is_due l.day (owner_in l.owner.of_node) l.partition u) 0 (take l.number l.departures)
