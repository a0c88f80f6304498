use Rattle.std.proofs.Common.{ap}
use Rattle.step_core.specs.Nets.{Net}
use Rattle.law_in_range.proofs.Dawn.{day_in_book}
use Rattle.divided_day.proofs.Whole.{can_merge, merged_day}
use Rattle.divided_day.proofs.days.merged_events.Goals as goal

pub merge-requires : goal.merge-requires
merge-requires g c =
    let run = c.args.run.now in
    can_merge (g.T.DayPart.day run) (g.T.DayPart.owner run) c.requires.given (g.T.Part.net run).parts c.in_ok-lists.lists.items
    (ap (λ (N : Net). N.parts) (g.met.T.DayPart.nets run)) c.in_ok-lists.ensures

pub returns-clause-events : goal.returns-clause-events
returns-clause-events g c =
    let run = c.args.run.now in
    merged_day (g.T.DayPart.day run) (g.T.DayPart.owner run) c.requires.given
    (g.T.Part.net run).parts c.in_ok-lists.lists.items c.in_ok-events.events.items
    (ap (λ (N : Net). N.parts) (g.met.T.DayPart.nets run)) c.in_ok-lists.ensures c.in_ok-events.ensures

pub returns-clause-named : goal.returns-clause-named
returns-clause-named g c =
    let run = c.args.run.now in
    day_in_book (g.T.DayPart.day run) c.in_ok-events.events.items c.requires.given
    (merged_day (g.T.DayPart.day run) (g.T.DayPart.owner run) c.requires.given
    (g.T.Part.net run).parts c.in_ok-lists.lists.items c.in_ok-events.events.items
    (ap (λ (N : Net). N.parts) (g.met.T.DayPart.nets run)) c.in_ok-lists.ensures c.in_ok-events.ensures)
