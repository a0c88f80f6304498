-- A day that comes piece by piece.
use Rattle.std.specs.Prelude.{ℕ, zero, suc, ◌+◌, ◌-◌, Bool, true, false, List, [], ◌++◌}
use Rattle.events.specs.declared.event.Event.{Event}
use Rattle.traffic.specs.{Day.second_events, Day.end_events, Day.world_at, Setup.Setup}

-- the events of so many seconds of a day from second t on
unfoldable pub seconds_from : Setup → ℕ → ℕ → List Event
seconds_from S t zero = []
seconds_from S t (suc n) = second_events S t (world_at S t) ++ seconds_from S (t + 1) n

-- What is still to come of a day of so many seconds where t of them are over: the events of the others, and of the end of the day. Nothing
-- is where the day goes on no more.
abbrev pub to_come : Setup → ℕ → ℕ → Bool → List Event
to_come S end t true = seconds_from S t (end - t) ++ end_events S end (world_at S end)
to_come S end t false = []

-- in how many pieces: one for each second, and one for the end
abbrev pub pieces_left : ℕ → ℕ → Bool → ℕ
pieces_left end t true = end - t + 1
pieces_left end t false = 0
