use Rattle.std.proofs.Common.{ap}
use Rattle.step_core.specs.Nets.{Net}
use Rattle.streamed_day.proofs.{Merged.can_merge_second, Merged.merged_second, Views.running_each, Views.round_can_tell, Views.round_told}
use Rattle.streamed_day.proofs.pieces.last_second.Goals as goal

pub told_by-requires-clause-can : goal.told_by-requires-clause-can
told_by-requires-clause-can g c =
    let run = c.args.run.now in
    let h = c.requires.running.1 in
    round_can_tell g.T.Part.nothing (g.T.Part.net run) (g.T.Part.borders run) g.T.Part.see (g.T.Part.stands run) c.args.core.now.parts.items
    c.parts.result.now c.parts.ensures h.core.many c.requires.running.0
    (running_each g.T.Part.nothing (g.T.Part.net run) (g.T.Part.borders run) g.T.Part.see (g.T.Part.stands run) g.T.Part.spent
    (g.T.Part.right run)
    _ _ _ _ _ _ h)

pub merge-requires : goal.merge-requires
merge-requires g c =
    let run = c.args.run.now in
    let h = c.requires.running.1 in
    let second = c.requires.running.0 in
    can_merge_second (g.T.DayPart.day run) (g.T.DayPart.owner run) c.requires.given second (g.T.Part.net run).parts
    c.in_ok-lists.lists.items
    (ap (λ (N : Net). N.parts) (g.met.T.DayPart.nets run))
    (round_told g.T.Part.nothing (g.T.Part.net run) (g.T.Part.borders run) g.T.Part.see (g.T.Part.stands run) c.args.core.now.parts.items
    c.parts.result.now c.parts.ensures h.core.many second
    (running_each g.T.Part.nothing (g.T.Part.net run) (g.T.Part.borders run) g.T.Part.see (g.T.Part.stands run) g.T.Part.spent
    (g.T.Part.right run)
    _ _ _ _ _ _ h)
    (g.T.DayPart.day run) (g.T.DayPart.owner run) c.in_ok-lists.lists.items c.in_ok-lists.ensures)

pub returns : goal.returns
returns g c = λ second h.
    let run = c.args.run.now in
    merged_second (g.T.DayPart.day run) (g.T.DayPart.owner run) c.requires.given second (g.T.Part.net run).parts c.in_ok-lists.lists.items
    c.in_ok-events.events.items (ap (λ (N : Net). N.parts) (g.met.T.DayPart.nets run))
    (round_told g.T.Part.nothing (g.T.Part.net run) (g.T.Part.borders run) g.T.Part.see (g.T.Part.stands run) c.args.core.now.parts.items
    c.parts.result.now c.parts.ensures h.core.many second
    (running_each g.T.Part.nothing (g.T.Part.net run) (g.T.Part.borders run) g.T.Part.see (g.T.Part.stands run) g.T.Part.spent
    (g.T.Part.right run)
    _ _ _ _ _ _ h)
    (g.T.DayPart.day run) (g.T.DayPart.owner run) c.in_ok-lists.lists.items c.in_ok-lists.ensures)
    c.in_ok-events.ensures
