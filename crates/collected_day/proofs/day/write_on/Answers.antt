use Rattle.std.proofs.{Common.ℕ, Common.◌<◌, Common.true, Common.arith, Common.sym, Common.◌∙◌, Common.ap, Common.subst, lemmas.Result.IfOk-weaker}
use Rattle.event_writer.proofs.Streaming.{IsStreaming}
use Rattle.scoring.specs.Tables.{scoring_rows}
use Rattle.step_core.specs.Nets.{Net}
use Rattle.streamed_day.{proofs.Coming.end_in, specs.Coming.to_come}
use Rattle.town.specs.Views.{setup}
use Rattle.traffic.specs.Day as traffic_day
use Rattle.collected_day.{specs.Spans.IsUnderWay, specs.Taking.IsTaking, proofs.Due.due_next, proofs.Together.at_end}
use Rattle.collected_day.proofs.Writing.{begins, as_written, span_due, span_failed, streams_on, end_left, end_due, end_written, end_seen}
use Rattle.collected_day.proofs.day.write_on.Goals as goal

pub loop-progress-init : goal.loop-progress-init
loop-progress-init g c =
    let run = c.args.run.now in
    let day = g.T.DayPart.day run in
    let owner = g.T.DayPart.owner run in
    let end = (g.T.Part.net run).end in
    let met = g.met.T.DayPart g.world.𝓛 g.world.𝓜 g.world.𝓡 ((λ s x. x), (λ x. x), (λ x. x), λ x. x) in
    let x = c.args.progress in
    record {
      under_way = subst (λ (t : ℕ). IsUnderWay g.T.Part.net g.T.Part.borders g.T.Part.nothing g.T.Part.see g.T.Part.stands g.T.Part.spent
          g.T.Part.right run t x.partitions.running) (sym c.requires.first.0) c.requires.under_way;
      taking = subst (λ (t : ℕ). IsTaking g.S.Stream.told_in_spans day owner end t x.taking) (sym c.requires.first.0) c.requires.taking;
      streaming = subst (λ (w : ℕ). IsStreaming (scoring_rows c.args.tables.now) c.args.book.now (traffic_day.day (setup day))
          (to_come (setup day) end w true) x.taking.handler x.taking.handler (g.O.Outputs.written c.args.outputs.now)
          (g.O.Outputs.written c.args.outputs.now) (g.O.Outputs.faults c.args.outputs.now) (g.O.Outputs.faults c.args.outputs.now))
          (sym c.requires.first.1)
          (begins (setup day) end (scoring_rows c.args.tables.now) c.args.book.now x.taking.handler
          (g.O.Outputs.written c.args.outputs.now) (g.O.Outputs.faults c.args.outputs.now)
          (ap (λ (N : Net). N.end) (met.nets run) ∙ end_in day) c.requires.takes.new);
    }

pub go_on-requires-clause-named : goal.go_on-requires-clause-named
go_on-requires-clause-named g c κs within =
    let i = c.loop-progress.invariant in
    (span_due i.taking i.under_way.within i.streaming c.requires.takes.named c.requires.takes.all).0

pub go_on-requires-clause-can : goal.go_on-requires-clause-can
go_on-requires-clause-can g c κs within =
    let i = c.loop-progress.invariant in
    (span_due i.taking i.under_way.within i.streaming c.requires.takes.named c.requires.takes.all).1

pub returns-in-Err : goal.returns-in-Err
returns-in-Err g c =
    let i = c.loop-progress.invariant in
    record {
      written = span_failed i.taking i.under_way.within i.streaming
          (as_written (c.deref.ensures.value ∙ c.in-Ok.ensures.2.text) c.in-Err.ensures);
      seen = tt;
      links = tt;
    }

pub loop-progress-preserved : goal.loop-progress-preserved
loop-progress-preserved g c =
    let run = c.args.run.now in
    let end = (g.T.Part.net run).end in
    let i = c.loop-progress.invariant in
    let t = c.loop-progress.progress.partitions.second in
    let later = c.in-Ok.later in
    let gone = c.in-Ok.ensures in
    let early : t < end = (let e = c.end.ensures in let lt = c.loop-progress-test.true in omega (arith, e, lt)) in
    record {
      under_way = gone.0;
      taking = due_next g.S.Stream.told_in_spans (g.T.DayPart.day run) (g.T.DayPart.owner run) end t later.partitions.second later.taking
          gone.2.taking gone.2.second early gone.1;
      streaming = streams_on i.taking i.under_way.within i.streaming later.taking c.requires.takes.all gone.2
          (as_written c.deref.ensures.value c.in-Ok-write_text.ensures);
    }

pub write_due-requires : goal.write_due-requires
write_due-requires g c =
    let run = c.args.run.now in
    let i = c.loop-progress.invariant in
    let due = span_due i.taking i.under_way.within i.streaming c.requires.takes.named c.requires.takes.all in
    record { due = (g.T.DayPart.day run, g.T.DayPart.owner run, (g.T.Part.net run).end, i.taking, due.0, due.1) }

pub returns-in-Err-write_due : goal.returns-in-Err-write_due
returns-in-Err-write_due g c =
    let i = c.loop-progress.invariant in
    record {
      written = span_failed i.taking i.under_way.within i.streaming (c.in-Err-write_due.ensures.written _ _ _ i.taking);
      seen = tt;
      links = tt;
    }

pub write_end-requires-clause-running : goal.write_end-requires-clause-running
write_end-requires-clause-running g c κs within =
    let over = c.loop-progress-test.false in
    let end = c.end.ensures in
    at_end g.T.Part.net g.T.Part.borders g.T.Part.nothing g.T.Part.see g.T.Part.stands g.T.Part.spent g.T.Part.right c.args.run.now
    c.loop-progress.progress.partitions.second c.loop-progress.progress.partitions.running c.loop-progress.invariant.under_way
    (omega (arith, over, end))

pub write_end-requires-clause-named : goal.write_end-requires-clause-named
write_end-requires-clause-named g c κs within =
    let i = c.loop-progress.invariant in
    let due = c.in-Ok-write_due.ensures in
    let left = end_left i.taking i.under_way.within i.streaming c.end.ensures c.loop-progress-test.false c.requires.takes.all
    (due.written _ _ _ i.taking) (due.handled _ _ _ i.taking) in
    (end_due _ _ left c.requires.takes.named c.requires.takes.all).0

pub write_end-requires-clause-can : goal.write_end-requires-clause-can
write_end-requires-clause-can g c κs within =
    let i = c.loop-progress.invariant in
    let due = c.in-Ok-write_due.ensures in
    let left = end_left i.taking i.under_way.within i.streaming c.end.ensures c.loop-progress-test.false c.requires.takes.all
    (due.written _ _ _ i.taking) (due.handled _ _ _ i.taking) in
    (end_due _ _ left c.requires.takes.named c.requires.takes.all).1

pub returns : goal.returns
returns g c =
    let i = c.loop-progress.invariant in
    let due = c.in-Ok-write_due.ensures in
    let left = end_left i.taking i.under_way.within i.streaming c.end.ensures c.loop-progress-test.false c.requires.takes.all
    (due.written _ _ _ i.taking) (due.handled _ _ _ i.taking) in
    record {
      written = end_written _ _ left c.write_end.result c.write_end.ensures.written;
      seen = IfOk-weaker c.write_end.result _ _ (λ seen more. end_seen _ _ left seen c.requires.takes.all more) c.write_end.ensures.seen;
      links = IfOk-weaker c.write_end.result _ _ (λ seen links. links ∙ left.links) c.write_end.ensures.links;
    }
