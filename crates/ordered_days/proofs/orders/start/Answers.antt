use Rattle.std.proofs.Common.{sym, subst, subst₂, List}
use Rattle.step_core.specs.{Nets.Net, Nets.IsNet, Nets.AreBorders, declared.part.Border.Border}
use Rattle.divided_day.proofs.Whole.{net_sound, borders_sound}
use Rattle.ordered_days.proofs.orders.start.Goals as goal

pub new-requires-clause-net : goal.new-requires-clause-net
new-requires-clause-net g c =
    let run = c.args.run.now in
    subst IsNet (sym (g.met.T.DayPart.nets run)) (net_sound (g.T.DayPart.day run) (g.T.DayPart.owner run) c.requires.given)

pub new-requires-clause-borders : goal.new-requires-clause-borders
new-requires-clause-borders g c =
    let run = c.args.run.now in
    λ p lt.
    subst₂ (λ (N : Net) (rows : List Border). AreBorders N p rows) (sym (g.met.T.DayPart.nets run)) (sym (g.met.T.DayPart.neighbours run p))
    (borders_sound (g.T.DayPart.day run) (g.T.DayPart.owner run) c.requires.given p)
