-- What is read of signals.csv, as the definitions see it.
use Rattle.std.specs.Prelude.{◌≡◌, ℕ, true, length, Option, None, Some, Result, Ok, Err}
use Rattle.std.specs.List.{list_all}
use Rattle.edge_files.specs.declared.reasons.Reason.{Reason}
use Rattle.signals.specs.{Rows.Seen, Signals.SignalRows, Signals.is_among, declared.lists.Signals.Signals, declared.signals_read.SignalsRead.SignalsRead}

-- the signals of all links, and the conflicts
abbrev pub signal_view : Signals → SignalRows
signal_view signals = record { greens = signals.greens; conflicts = signals.conflicts }

-- what the rows so far give
abbrev pub seen_of : SignalsRead → Seen
seen_of read = record { signals = read.signals.items; conflicts = read.conflicts.items }

-- one more row is read, or refused for this reason
abbrev pub Reads : Result SignalsRead Reason → Option Reason → Seen → Type 0
Reads (Ok read) reason seen = (reason ≡ None) × (seen_of read ≡ seen)
Reads (Err why) reason seen = reason ≡ Some why

-- there is a place for the signal of each of so many links, and the conflicts are of these
pub record AreSeen (links : ℕ) (seen : Seen) : Type 0 where
  pub each : length seen.signals ≡ links
  pub there : list_all (is_among links) seen.conflicts ≡ true

-- what is read is such
abbrev pub ReadSeen : ℕ → Result SignalsRead Reason → Type 0
ReadSeen links (Ok read) = AreSeen links (seen_of read)
ReadSeen links (Err why) = Unit {0}
