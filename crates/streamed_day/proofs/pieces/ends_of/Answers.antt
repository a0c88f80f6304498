use Rattle.std.proofs.Common.{◌∙◌, ap, refl}
use Rattle.step_core.specs.Nets.{Net}
use Rattle.streamed_day.proofs.{Coming.end_in, Merged.can_merge_ends, Merged.merged_ends, Views.all_at_end, Views.end_told}
use Rattle.streamed_day.proofs.pieces.ends_of.Goals as goal

pub ends_told_by-requires-clause-ended : goal.ends_told_by-requires-clause-ended
ends_told_by-requires-clause-ended g c =
    let run = c.args.run.now in
    all_at_end g.T.Part.nothing (g.T.Part.net run) (g.T.Part.borders run) g.T.Part.see (g.T.Part.stands run) c.args.parts.items
    c.args.parts.items refl
    c.requires.count c.requires.ended

pub merge-requires : goal.merge-requires
merge-requires g c =
    let run = c.args.run.now in
    can_merge_ends (g.T.DayPart.day run) (g.T.DayPart.owner run) c.requires.given (g.T.Part.net run).parts c.in_ok-lists.lists.items
    (ap (λ (N : Net). N.parts) (g.met.T.DayPart.nets run))
    (end_told g.T.Part.nothing (g.T.Part.net run) (g.T.Part.borders run) g.T.Part.see (g.T.Part.stands run) c.args.parts.items
    c.args.parts.items refl
    c.requires.count c.requires.ended (g.T.DayPart.day run) (g.T.DayPart.owner run) c.in_ok-lists.lists.items c.in_ok-lists.ensures)

pub returns : goal.returns
returns g c =
    let run = c.args.run.now in
    merged_ends (g.T.DayPart.day run) (g.T.DayPart.owner run) c.requires.given (g.T.Part.net run).end (g.T.Part.net run).parts
    c.in_ok-lists.lists.items c.in_ok-events.events.items
    (ap (λ (N : Net). N.end) (g.met.T.DayPart.nets run) ∙ end_in (g.T.DayPart.day run))
    (ap (λ (N : Net). N.parts) (g.met.T.DayPart.nets run))
    (end_told g.T.Part.nothing (g.T.Part.net run) (g.T.Part.borders run) g.T.Part.see (g.T.Part.stands run) c.args.parts.items
    c.args.parts.items refl
    c.requires.count c.requires.ended (g.T.DayPart.day run) (g.T.DayPart.owner run) c.in_ok-lists.lists.items c.in_ok-lists.ensures)
    c.in_ok-events.ensures
