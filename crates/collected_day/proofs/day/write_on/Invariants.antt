use Rattle.std.proofs.Common.{◌-◌, true}
use Rattle.event_writer.proofs.Streaming.{IsStreaming}
use Rattle.scoring.specs.Tables.{scoring_rows}
use Rattle.streamed_day.specs.Coming.{to_come}
use Rattle.town.specs.Views.{setup}
use Rattle.traffic.specs.Day as traffic_day
use Rattle.collected_day.specs.{Spans.IsUnderWay, Taking.IsTaking}
use Rattle.collected_day.proofs.day.write_on.Given as goal

abbrev pub invariant-loop-progress : goal.invariant-loop-progress
invariant-loop-progress g l = record {
  under_way : IsUnderWay g.T.Part.net g.T.Part.borders g.T.Part.nothing g.T.Part.see g.T.Part.stands g.T.Part.spent g.T.Part.right l.run
      l.progress.partitions.second l.progress.partitions.running;
  taking : IsTaking g.S.Stream.told_in_spans (g.T.DayPart.day l.run) (g.T.DayPart.owner l.run) (g.T.Part.net l.run).end
      l.progress.partitions.second l.progress.taking;
  streaming : IsStreaming (scoring_rows l.tables) l.book (traffic_day.day (setup (g.T.DayPart.day l.run)))
      (to_come (setup (g.T.DayPart.day l.run)) (g.T.Part.net l.run).end l.progress.taking.second true)
      l.initial.progress.taking.handler l.progress.taking.handler (g.O.Outputs.written l.initial.outputs)
      (g.O.Outputs.written l.outputs) (g.O.Outputs.faults l.initial.outputs) (g.O.Outputs.faults l.outputs);
}

abbrev pub decreases-loop-progress : goal.decreases-loop-progress
decreases-loop-progress g l = (g.T.Part.net l.run).end - l.progress.partitions.second
