use Rattle.divided_day.proofs.Whole.{own_net_sound, own_borders_sound}
use Rattle.divided_day.proofs.days.divided_day.Goals as goal

pub new-requires-clause-net : goal.new-requires-clause-net
new-requires-clause-net g c =
    let run = c.args.run.now in
    own_net_sound (g.T.DayPart.day run) (g.T.DayPart.owner run) c.requires.given _ (g.met.T.DayPart.nets run)

pub new-requires-clause-borders : goal.new-requires-clause-borders
new-requires-clause-borders g c =
    let run = c.args.run.now in
    λ p lt. own_borders_sound (g.T.DayPart.day run) (g.T.DayPart.owner run) c.requires.given _ p _ (g.met.T.DayPart.nets run)
    (g.met.T.DayPart.neighbours run p)
