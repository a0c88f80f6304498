use Rattle.std.proofs.Common.{◌∙◌, ap}
use Rattle.town.specs.Views.{setup}
use Rattle.step_core.specs.Nets.{Net}
use Rattle.divided_day.proofs.Whole.{own_net_sound, own_borders_sound}
use Rattle.streamed_day.proofs.Coming.{day_comes, end_in}
use Rattle.streamed_day.proofs.day.StreamedDay.new.Goals as goal

pub new-requires-clause-net : goal.new-requires-clause-net
new-requires-clause-net g c =
    let run = c.args.run.now in
    own_net_sound (g.T.DayPart.day run) (g.T.DayPart.owner run) c.requires.given _ (g.met.T.DayPart.nets run)

pub new-requires-clause-borders : goal.new-requires-clause-borders
new-requires-clause-borders g c =
    let run = c.args.run.now in
    λ p lt. own_borders_sound (g.T.DayPart.day run) (g.T.DayPart.owner run) c.requires.given _ p _ (g.met.T.DayPart.nets run)
    (g.met.T.DayPart.neighbours run p)

pub returns-clause-rest : goal.returns-clause-rest
returns-clause-rest g c =
    let run = c.args.run.now in
    day_comes (setup (g.T.DayPart.day run)) (g.T.Part.net run).end
    (ap (λ (N : Net). N.end) (g.met.T.DayPart.nets run) ∙ end_in (g.T.DayPart.day run))
