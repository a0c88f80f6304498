use Rattle.scoring.specs.Tables.{scoring_rows}
use Rattle.event_writer.proofs.Streaming.{streaming_first, comes_of, fewer_of, piece_named, piece_handled, streaming_more, streaming_failed, streaming_wanting}
use Rattle.event_writer.proofs.writing.stream_events.Goals as goal

pub pieces-init : goal.pieces-init
pieces-init g c = record {
  ready = c.requires.ready;
  streaming = streaming_first (scoring_rows c.args.tables.now) c.args.book.now (g.S.EventSource.rest c.args.source.now) c.args.handler
      (g.O.Outputs.written c.args.outputs.now) (g.O.Outputs.faults c.args.outputs.now) c.requires.takes.new;
}

pub stream_piece-requires-clause-named : goal.stream_piece-requires-clause-named
stream_piece-requires-clause-named g c =
    piece_named _ _ _ _ _ _ _ _ _ _ _ _ c.pieces.invariant.streaming
    (comes_of _ _ _ _ _ c.in-Some.is c.in-Ok.ensures.some c.deref.ensures.value) c.requires.takes.named

pub stream_piece-requires-clause-handled : goal.stream_piece-requires-clause-handled
stream_piece-requires-clause-handled g c = (
  c.pieces.invariant.streaming.taken,
  g.S.EventSource.rest c.next_piece.new.self,
  c.pieces.invariant.streaming.handled,
  piece_handled _ _ _ _ _ _ _ _ _ _ _ _ c.pieces.invariant.streaming
      (comes_of _ _ _ _ _ c.in-Some.is c.in-Ok.ensures.some c.deref.ensures.value) c.requires.takes.all,
)

pub pieces-preserved : goal.pieces-preserved
pieces-preserved g c =
    let h = c.pieces.invariant.streaming in
    let comes = comes_of _ _ _ _ _ c.in-Some.is c.in-Ok.ensures.some c.deref.ensures.value in
    record {
      ready = c.in-Ok.ensures.ready;
      streaming = streaming_more _ _ _ _ _ _ _ _ _ _ _ _ h comes _ _ _ _ c.in-Ok-stream_piece.ensures.written
          (c.in-Ok-stream_piece.ensures.handled h.taken (g.S.EventSource.rest c.next_piece.new.self) h.handled
          (piece_handled _ _ _ _ _ _ _ _ _ _ _ _ h comes c.requires.takes.all))
          c.in-Ok-stream_piece.ensures.kinds c.in-Ok-stream_piece.ensures.links;
    }

pub pieces-smaller : goal.pieces-smaller
pieces-smaller g c = fewer_of _ _ _ _ c.in-Some.is c.in-Ok.ensures.fewer

pub returns-in-Err : goal.returns-in-Err
returns-in-Err g c = record {
  written = streaming_wanting _ _ _ _ _ _ _ _ _ _ c.pieces.invariant.streaming;
  seen = tt;
  links = tt;
}

pub returns-in-Err-stream_piece : goal.returns-in-Err-stream_piece
returns-in-Err-stream_piece g c = record {
  written = streaming_failed _ _ _ _ _ _ _ _ _ _ _ _ c.pieces.invariant.streaming
      (comes_of _ _ _ _ _ c.in-Some.is c.in-Ok.ensures.some c.deref.ensures.value) _ _ _ c.in-Err-stream_piece.ensures.written;
  seen = tt;
  links = tt;
}
