use Rattle.collected_day.specs.Streams.{told_in_span}
use Rattle.collected_day.proofs.day.stream_collected.Given as goal

abbrev pub ghosts-stream_over : goal.ghosts-stream_over
ghosts-stream_over g a = record {
  told_in_spans = told_in_span (g.T.DayPart.day a.run.now) (g.T.DayPart.owner a.run.now) (g.T.Part.net a.run.now).end;
}
