use Rattle.std.proofs.Common.{◌<◌, arith, sym, ap, is_some}
use Rattle.town.specs.Views.{setup}
use Rattle.streamed_day.proofs.{Coming.second_piece, Coming.end_piece, Views.all_ran}
use Rattle.streamed_day.proofs.day.StreamedDayEventSource.next_piece.Goals as goal

pub returns-then-self-end-clause-some : goal.returns-then-self-end-clause-some
returns-then-self-end-clause-some g c =
    let run = c.args.self.now.run.now in
    end_piece (setup (g.T.DayPart.day run)) (g.T.Part.net run).end c.args.self.now.second c.args.self.now.second
    c.in_ok-piece.piece.items (is_some c.args.self.now.core) (is_some c.take.new.self) (ap is_some (sym c.in-Some.ensures.value))
    (ap is_some c.in-Some.ensures.after) (omega (arith, c.end.ensures, c.if-self-end.true)) c.in_ok-piece.ensures

pub last_second-requires-clause-running : goal.last_second-requires-clause-running
last_second-requires-clause-running g c =
    let run = c.args.self.now.run.now in (
      c.args.self.now.second,
      all_ran g.T.Part.nothing (g.T.Part.net run) (g.T.Part.borders run) g.T.Part.see (g.T.Part.stands run) g.T.Part.spent
          (g.T.Part.right run)
          c.args.self.now.second c.loop-number.number _ _ _ _ _ c.loop-number.invariant.core c.loop-number.invariant.round
          (omega (arith, c.count-number-end.ensures, c.loop-number-test.false)) (omega (arith, c.end.ensures, c.if-self-end.false)),
    )

pub returns-clause-some : goal.returns-clause-some
returns-clause-some g c =
    let run = c.args.self.now.run.now in
    let early : c.args.self.now.second < (g.T.Part.net run).end = omega (arith, c.end.ensures, c.if-self-end.false) in
    second_piece (setup (g.T.DayPart.day run)) (g.T.Part.net run).end c.args.self.now.second c.in_ok-piece-2.piece.items
    (is_some c.args.self.now.core) (ap is_some (sym c.in-Some.ensures.value)) early
    (c.in_ok-piece-2.ensures c.args.self.now.second
    (all_ran g.T.Part.nothing (g.T.Part.net run) (g.T.Part.borders run) g.T.Part.see (g.T.Part.stands run) g.T.Part.spent
    (g.T.Part.right run)
    c.args.self.now.second c.loop-number.number _ _ _ _ _ c.loop-number.invariant.core c.loop-number.invariant.round
    (omega (arith, c.count-number-end.ensures, c.loop-number-test.false)) early))
