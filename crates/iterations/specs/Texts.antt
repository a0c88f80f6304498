-- The texts of an iteration, and the end of the report.
use Rattle.std.specs.{Fmt.signed_decimal, Prelude.ℕ, Prelude.codes, Prelude.decimal, Prelude.List, Prelude.◌++◌, Prelude.length, Prelude.ℤ}
use Rattle.events.specs.{Lines.event_lines, declared.event.Book.Book, declared.event.Event.Event}
use Rattle.event_handler.specs.Counts.{stuck_count}
use Rattle.scoring.specs.Score.{total}

-- the events of an iteration: a line with its number, and a line for each event
unfoldable pub events_text : ℕ → List Event → Book → List ℕ
events_text iteration events book = codes "iteration," ++ decimal iteration ++ codes "\n" ++ event_lines events book

-- the report of an iteration: its number, how many events, how many of stuck persons, and the sum of the scores in micro-utils
unfoldable pub iteration_counts : ℕ → ℕ → ℕ → ℤ → List ℕ
iteration_counts iteration events stuck sum =
    codes "iteration," ++ decimal iteration ++ codes "," ++ decimal events ++ codes "," ++ decimal stuck ++ codes "," ++ signed_decimal sum
    ++ codes "\n"

-- the same of events and scores
abbrev pub iteration_line : ℕ → List Event → List ℤ → List ℕ
iteration_line iteration events scores = iteration_counts iteration (length events) (stuck_count events) (total scores)

-- the end of the report: the number of the last iteration
unfoldable pub done_line : ℕ → List ℕ
done_line last = codes "done," ++ decimal last ++ codes "\n"
