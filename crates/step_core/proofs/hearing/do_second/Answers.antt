use Rattle.std.proofs.Common.{◌∙◌, ap, sym}
use Rattle.step_core.proofs.Seconds.{has_exchanged, sent_then, when_done}
use Rattle.step_core.proofs.hearing.do_second.Goals as goal

pub returns-clause-exchanged : goal.returns-clause-exchanged
returns-clause-exchanged g c =
    let run = c.args.run.now in
    let view = g.T.Part.see c.hear.new.part in
    let made = (g.T.Part.see c.second.new.self).outbox in
    let number = c.hear.ensures.number ∙ c.requires.at.number in
    let seconds = c.hear.ensures.seconds ∙ c.requires.at.seconds in
    let good = when_done c.second.result (sym c.is_err.ensures.value ∙ c.if-is_err.false) c.second.ensures.sent in
    has_exchanged g.T.Part.nothing (g.T.Part.right run) c.args.second c.args.number c.args.borders.now c.args.wheels.now c.requires.ready
    c.index-wheels-number.result c.hear.new.wheel c.hear.ensures.taken c.send.new.wheels made
    (g.T.Part.see c.send.new.part).outbox
    (sent_then g.T.Part.nothing (g.T.Part.right run) c.args.number c.args.second view.number view.seconds c.args.borders.now
    (g.T.Part.borders run view.number) made number seconds (ap (g.T.Part.borders run) number ∙ sym c.requires.rows) good)
    c.send.ensures.sent
