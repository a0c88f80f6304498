use Rattle.std.proofs.Common.{sym, subst, subst₂, List}
use Rattle.step_core.specs.{Nets.Net, Nets.IsNet, Nets.AreBorders, declared.part.Border.Border}
use Rattle.divided_day.proofs.Whole.{net_sound, borders_sound}
use Rattle.ordered_days.proofs.orders.one_alone.Goals as goal

pub alone-requires-clause-net : goal.alone-requires-clause-net
alone-requires-clause-net g c κs within =
    let run = c.args.run.now in
    subst IsNet (sym (g.met.T.DayPart.nets run)) (net_sound (g.T.DayPart.day run) (g.T.DayPart.owner run) c.requires.given)

pub alone-requires-clause-borders : goal.alone-requires-clause-borders
alone-requires-clause-borders g c κs within =
    let run = c.args.run.now in
    λ p lt.
    subst₂ (λ (N : Net) (rows : List Border). AreBorders N p rows) (sym (g.met.T.DayPart.nets run)) (sym (g.met.T.DayPart.neighbours run p))
    (borders_sound (g.T.DayPart.day run) (g.T.DayPart.owner run) c.requires.given p)
