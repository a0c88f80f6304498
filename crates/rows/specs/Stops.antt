-- Stops, and the calls at them.
use Rattle.std.specs.{List.list_any, Prelude.ℕ, Prelude.Bool, Prelude.List, Prelude.get_or, Prelude.◌==◌}
use Rattle.events.specs.declared.lists.StopCall.{StopCall}
use Rattle.rows.specs.declared.schedule.StopRow.{StopRow}

-- the link on which a stop lies, which is 0 where there is no such stop
abbrev pub stop_link : List StopRow → ℕ → ℕ
stop_link stops stop = (get_or stops stop (record { link = 0 })).link

-- whether one of these calls is at the stop
abbrev pub calls_at : ℕ → List StopCall → Bool
calls_at stop calls = list_any (λ (c : StopCall). c.stop == stop) calls
