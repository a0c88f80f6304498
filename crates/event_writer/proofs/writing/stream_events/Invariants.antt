use Rattle.scoring.specs.Tables.{scoring_rows}
use Rattle.event_writer.proofs.Streaming.{IsStreaming}
use Rattle.event_writer.proofs.writing.stream_events.Given as goal

abbrev pub invariant-pieces : goal.invariant-pieces
invariant-pieces g l = record {
  ready : g.S.EventSource.ready l.source;
  streaming : IsStreaming (scoring_rows l.tables) l.book (g.S.EventSource.rest l.initial.source) (g.S.EventSource.rest l.source)
      l.initial.handler l.handler (g.O.Outputs.written l.initial.outputs) (g.O.Outputs.written l.outputs)
      (g.O.Outputs.faults l.initial.outputs) (g.O.Outputs.faults l.outputs);
}

abbrev pub decreases-pieces : goal.decreases-pieces
decreases-pieces g l = g.S.EventSource.pieces l.source
