use Rattle.std.{proofs.Common.◌≡◌, proofs.Common.map, proofs.Common.take, specs.Prelude.vec_len, specs.Prelude.vec_capacity}
use Rattle.event_pipe.specs.{Pieces.events_of, Rings.next_pieces, Rings.AreTaken}
use Rattle.event_pipe.proofs.consumers.take_next.Given as goal

abbrev pub invariant-loop-number : goal.invariant-loop-number
invariant-loop-number g l = record {
  taken : AreTaken g.P.Protocol.allows l.number l.initial.rings l.rings;
  count : vec_len l.lists ≡ l.number;
  room : vec_capacity l.lists ≡ vec_capacity l.initial.lists;
  lists : l.lists.items ≡ map events_of (take l.number (next_pieces l.initial.rings));
}
