use Rattle.divided_day.proofs.Whole.{own_net_sound, own_borders_sound}
use Rattle.parted_day.proofs.threads.threaded_day.Goals as goal

pub run_day-requires-clause-net : goal.run_day-requires-clause-net
run_day-requires-clause-net g c κs within =
    let run = c.args.run.now in
    let met = g.met.T.DayPart g.world.𝓛 g.world.𝓜 g.world.𝓡 ((λ s x. x), (λ x. x), (λ x. x), λ x. x) in
    own_net_sound (g.T.DayPart.day run) (g.T.DayPart.owner run) c.requires.given _ (met.nets run)

pub run_day-requires-clause-borders : goal.run_day-requires-clause-borders
run_day-requires-clause-borders g c κs within =
    let run = c.args.run.now in
    let met = g.met.T.DayPart g.world.𝓛 g.world.𝓜 g.world.𝓡 ((λ s x. x), (λ x. x), (λ x. x), λ x. x) in
    λ p lt. own_borders_sound (g.T.DayPart.day run) (g.T.DayPart.owner run) c.requires.given _ p _ (met.nets run)
    (met.neighbours run p)
