-- What legs are held against, as the code has it.
use Rattle.std.specs.Prelude.{◌≡◌, ℕ, ◌<◌, length, Some}
use Rattle.scenario.specs.Legs.{Numbers, LegChecks, number_at, settled}
use Rattle.scenario.specs.declared.{numbering.Numbering.Numbering, schedules.Schedule.Schedule}

-- the numbers in the town
abbrev pub numbers_of : Numbering → Numbers
numbers_of numbering = record { lines = numbering.lines.items; stops = numbering.stops.items }

-- the numbers in the town, and the town's stops and routes; the code fills routes first, and then searches none
abbrev pub leg_checks_of : Numbering → Schedule → LegChecks
leg_checks_of numbering schedule = settled (numbers_of numbering) schedule.stops.rows schedule.routes.rows

-- every number of a line or a stop in the town is below that of the lines or stops there
pub record AreThere (count : ℕ) (W : LegChecks) : Type 0 where
  pub lines : (n k : ℕ) → number_at W.numbers.lines n ≡ Some k → k < count
  pub stops : (n k : ℕ) → number_at W.numbers.stops n ≡ Some k → k < length W.stops
