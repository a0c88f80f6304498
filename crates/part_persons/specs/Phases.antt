-- The phases before the nodes and links have theirs.
use Rattle.std.specs.Prelude.{ℕ, ◌+◌, Bool, List, [], ◌∷◌, ◌++◌, if◌then◌else◌}
use Rattle.events.specs.declared.event.Phase.{Phase}
use Rattle.events.specs.declared.event.Phase.TheVariants as phase
use Rattle.rows.specs.declared.schedule.DepartureRow.{DepartureRow}
use Rattle.traffic.specs.Rows.{World}
use Rattle.part_persons.specs.declared.phases.EarlyPhase.{EarlyPhase, TheVariants.Land, TheVariants.Leave, TheVariants.Start}

abbrev pub phase_of : EarlyPhase → Phase
phase_of Land = phase.A
phase_of Leave = phase.B1
phase_of Start = phase.B2

-- the numbers of those rows of which this holds, where the first row has this number
abbrev pub numbers_where : (DepartureRow → Bool) → ℕ → List DepartureRow → List ℕ
numbers_where p n [] = []
numbers_where p n (r ∷ rs) = if p r then n ∷ numbers_where p (n + 1) rs else numbers_where p (n + 1) rs

-- a world with these persons, in which the vehicles that they or departures let in stand last
abbrev pub joined : World → World → World
joined W P = record { rows = W.rows ++ P.rows; persons = P.persons; credits = W.credits; holes = W.holes }
