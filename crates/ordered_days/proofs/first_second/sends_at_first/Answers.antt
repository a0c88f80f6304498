use Rattle.std.proofs.Common.{arith, sym, subst, subst₂, List}
use Rattle.step_core.specs.{Nets.Net, Nets.IsNet, Nets.AreBorders, declared.part.Border.Border}
use Rattle.divided_day.proofs.Whole.{net_sound, borders_sound}
use Rattle.ordered_days.proofs.Firsts.{heard_at_first, places_at_first, gone_at_first}
use Rattle.ordered_days.proofs.first_second.sends_at_first.Goals as goal

pub second-requires-clause-stands : goal.second-requires-clause-stands
second-requires-clause-stands g c = c.in-Ok.ensures.holds

pub second-requires-clause-before_end : goal.second-requires-clause-before_end
second-requires-clause-before_end g c =
    let first = c.in-Ok.ensures.seconds in
    let some = c.requires.some in
    omega arith

pub second-requires-clause-heard : goal.second-requires-clause-heard
second-requires-clause-heard g c =
    let run = c.args.run.now in
    let p = c.args.number in
    heard_at_first g.T.Part.nothing g.T.Part.see (g.T.Part.stands run) (g.T.Part.borders run) p _ c.in-Ok.ensures (g.T.Part.right run)
    (g.T.Part.net run)
    (subst IsNet (sym (g.met.T.DayPart.nets run)) (net_sound (g.T.DayPart.day run) (g.T.DayPart.owner run) c.requires.given))
    (subst₂ (λ (N : Net) (rows : List Border). AreBorders N p rows) (sym (g.met.T.DayPart.nets run))
    (sym (g.met.T.DayPart.neighbours run p))
    (borders_sound (g.T.DayPart.day run) (g.T.DayPart.owner run) c.requires.given p))

pub second-requires-clause-places : goal.second-requires-clause-places
second-requires-clause-places g c =
    let run = c.args.run.now in
    places_at_first g.T.Part.nothing g.T.Part.see (g.T.Part.stands run) (g.T.Part.borders run) c.args.number _ c.in-Ok.ensures

pub second-requires-clause-gone : goal.second-requires-clause-gone
second-requires-clause-gone g c =
    let run = c.args.run.now in
    gone_at_first g.T.Part.nothing g.T.Part.see (g.T.Part.stands run) (g.T.Part.borders run) c.args.number _ c.in-Ok.ensures
