use Rattle.std.proofs.Common.{subst}
use Rattle.scoring.specs.Tables.{scoring_rows}
use Rattle.collected_day.specs.Jobs.{CanBeDone}
use Rattle.collected_day.proofs.jobs.outcome_of.Goals as goal

pub take_due-requires : goal.take_due-requires
take_due-requires g c =
    let run = c.args.run.now in
    let can = subst
    (CanBeDone g.T.Part.net g.T.Part.borders g.T.Part.nothing g.T.Part.see g.T.Part.stands g.T.Part.spent g.T.Part.right run
    g.S.Stream.told_in_spans (g.T.DayPart.day run) (g.T.DayPart.owner run) c.args.second (scoring_rows c.args.tables.now) c.args.book.now)
    c.in-Take.is c.requires in
    record { due = (g.T.DayPart.day run, g.T.DayPart.owner run, (g.T.Part.net run).end, can.0, can.1, can.2) }
