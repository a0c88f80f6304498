-- Pieces of the events of a day.
use Rattle.std.specs.Prelude.{ℕ, List, []}
use Rattle.events.specs.declared.event.Event.{Event}
use Rattle.event_pipe.specs.declared.pieces.Piece.{Piece}

-- what a piece has
abbrev pub events_of : Piece → List Event
events_of x = x.events

-- with which the ring of partition p begins: a piece of it with no events
abbrev pub label : ℕ → Piece
label p = record { partition = p; events = [] }
