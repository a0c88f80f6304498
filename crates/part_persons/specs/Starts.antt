-- Where and when the departures of a day start, out of their rows.
use Rattle.std.specs.Prelude.{ℕ, Bool, ◌&&◌, get_or, ◌==◌}
use Rattle.rows.specs.declared.schedule.DepartureRow.{DepartureRow}
use Rattle.parts.specs.Owners.{Owner, owner_of}
use Rattle.town.specs.{Setups.route_at, Views.setup, declared.day_input.DayInput.DayInput}

-- whether the departure of a row starts on a link of partition p, and whether it does so in second t
abbrev pub is_start : DayInput → Owner → ℕ → DepartureRow → Bool
is_start day own p r = owner_of (setup day) own (get_or (route_at day.town.now.routes.rows r.route).links 0 0) == p

abbrev pub is_due : DayInput → Owner → ℕ → ℕ → DepartureRow → Bool
is_due day own p t r = (t == r.second) && is_start day own p r
