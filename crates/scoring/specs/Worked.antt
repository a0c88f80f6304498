-- Worked days, each told by its events.
use Rattle.std.specs.Prelude.{ℕ, List, [], ◌∷◌, ◌++◌, None, Some, pos, negsuc}
use Rattle.events.specs.declared.event.{Event.Event, Mode.Mode, More.More, Word.Word}
use Rattle.events.specs.declared.event.Mode.TheVariants as mode
use Rattle.events.specs.declared.event.More.TheVariants as more
use Rattle.events.specs.declared.event.Word.TheVariants as word
use Rattle.scoring.specs.{Points.Point, Tables.ScoringRows, declared.table.ModeScore.ModeScore, declared.table.Table.Table}

-- home and work, as the activities of a day
abbrev pub home : ℕ
home = 0

abbrev pub work : ℕ
work = 1

-- an event of the person in a second
abbrev pub event : ℕ → Word → More → Event
event second what more = record {
  key = record { second = second; phase = 0; number = 0; index = 0 };
  word = what;
  person = Some 0;
  vehicle = None;
  link = None;
  more = more;
}

-- an activity ends and a leg departs; a leg arrives and an activity starts
abbrev pub leaves : ℕ → ℕ → Mode → List Event
leaves second kind by = event second word.ActEnd (more.Kind kind) ∷ event second word.Departure (more.Mode by) ∷ []

abbrev pub arrives : ℕ → Mode → ℕ → List Event
arrives second by kind = event second word.Arrival (more.Mode by) ∷ event second word.ActStart (more.Kind kind) ∷ []

-- each second of a leg costs 1,666 micro-utils, by any mode
abbrev pub usual_mode : ModeScore
usual_mode = record { constant = pos 0; per_second = negsuc 1665 }

-- a second of lateness costs 5,000 and being stuck 100,000,000 micro-utils
abbrev pub by_tables : List Table → ScoringRows
by_tables tables = record {
  tables = tables;
  modes = usual_mode ∷ usual_mode ∷ usual_mode ∷ usual_mode ∷ usual_mode ∷ [];
  late_per_second = negsuc 4999;
  stuck = negsuc 99999999;
}

abbrev pub no_tables : ScoringRows
no_tables = by_tables []

-- a walk of 50 seconds to work, and a drive of 11 seconds; in traffic other words are told beside the five
abbrev pub walk : List Event
walk = leaves 100 home mode.Walk ++ event 150 word.Travelled (more.Seconds 50) ∷ arrives 150 mode.Walk work

abbrev pub drive : List Event
drive = leaves 100 home mode.Car ++ event 101 word.PersonEntersVehicle more.Nothing ∷ arrives 111 mode.Car work

-- of two passengers the first finds a seat, and the second waits until the day is over
abbrev pub passenger : List Event
passenger = leaves 100 home mode.Pt ++ arrives 242 mode.Pt work

abbrev pub left_behind : List Event
left_behind = leaves 100 home mode.Pt ++ event 108000 word.StuckAndAbort (more.Mode mode.Pt) ∷ []

-- points that climb, and points that fall
abbrev pub home_points : List Point
home_points = (0, negsuc 19999999) ∷ (43200, pos 60000000) ∷ (86400, pos 80000000) ∷ []

abbrev pub work_points : List Point
work_points = (0, negsuc 19999999) ∷ (28800, pos 60000000) ∷ []

abbrev pub falling_points : List Point
falling_points = (0, pos 10) ∷ (3, pos 0) ∷ []

abbrev pub home_table : Table
home_table = record { kind = home; points = home_points; latest = None }

abbrev pub work_table : Table
work_table = record { kind = work; points = work_points; latest = None }

-- the same, where work begins late behind 28,800
abbrev pub strict_table : Table
strict_table = record { kind = work; points = work_points; latest = Some 28800 }

abbrev pub two_tables : ScoringRows
two_tables = by_tables (home_table ∷ work_table ∷ [])

abbrev pub strict_tables : ScoringRows
strict_tables = by_tables (home_table ∷ strict_table ∷ [])

-- to work in the morning and home in the afternoon, by car
abbrev pub commute : List Event
commute = leaves 28800 home mode.Car ++ arrives 28811 mode.Car work ++ leaves 57600 work mode.Car ++ arrives 57611 mode.Car home

-- only there, and there and back, where the drive home has no end
abbrev pub to_work : List Event
to_work = leaves 28800 home mode.Car ++ arrives 28811 mode.Car work

abbrev pub stuck_in_the_evening : List Event
stuck_in_the_evening =
    leaves 28800 home mode.Car ++ arrives 28811 mode.Car work ++ leaves 57600 work mode.Car ++ event 108000 word.StuckAndAbort (more.Mode mode.Car) ∷ []
