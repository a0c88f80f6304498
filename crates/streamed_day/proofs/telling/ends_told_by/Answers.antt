use Rattle.std.proofs.Common.{◌∙◌, length, rules}
use Rattle.std.proofs.lemmas.Iterator.{Adapters.YieldsList-from_vec, Consumers.YieldsList-turn, Consumers.YieldsList-end}
use Rattle.divided_day.specs.Days.{told_in, end_told_in}
use Rattle.streamed_day.{proofs.Views.end_there, proofs.Views.lists_more, proofs.Views.rest_at_end, proofs.Views.all_mapped, specs.Telling.told_at_end}
use Rattle.streamed_day.proofs.telling.ends_told_by.Goals as goal

pub finish-requires-clause-there : goal.finish-requires-clause-there
finish-requires-clause-there g c =
    let run = c.args.run.now in
    let turn = YieldsList-turn (YieldsList-from_vec {s = c.into_iter-part-iterator.result} c.args.parts.items (search rules) (search rules))
    c.loop-part.yielded c.loop-part.part-iterator c.loop-part.yielded_by c.next.result c.next.new.self c.in-Some.part c.in-Some.is
    c.next.ensures.steps in
    (end_there g.T.Part.nothing (g.T.Part.net run) (g.T.Part.borders run) g.T.Part.see (g.T.Part.stands run) c.args.parts.items
    (length c.loop-part.yielded) c.in-Some.part c.requires.ended turn.0 turn.1).there

pub finish-requires-clause-at : goal.finish-requires-clause-at
finish-requires-clause-at g c =
    let run = c.args.run.now in
    let turn = YieldsList-turn (YieldsList-from_vec {s = c.into_iter-part-iterator.result} c.args.parts.items (search rules) (search rules))
    c.loop-part.yielded c.loop-part.part-iterator c.loop-part.yielded_by c.next.result c.next.new.self c.in-Some.part c.in-Some.is
    c.next.ensures.steps in
    (end_there g.T.Part.nothing (g.T.Part.net run) (g.T.Part.borders run) g.T.Part.see (g.T.Part.stands run) c.args.parts.items
    (length c.loop-part.yielded) c.in-Some.part c.requires.ended turn.0 turn.1).at

pub loop-part-preserved : goal.loop-part-preserved
loop-part-preserved g c =
    let run = c.args.run.now in
    let day = g.T.DayPart.day run in
    let owner = g.T.DayPart.owner run in
    let n = (g.T.Part.see c.in-Some.part).number in
    lists_more (λ x. told_at_end day owner (g.T.Part.see x)) c.loop-part.lists.items c.push.new.self.items c.loop-part.yielded
    c.in-Some.part c.in_ok-finish.field-0 c.loop-part.invariant c.in_ok-push.ensures.items
    (rest_at_end (g.T.DayPart.streams run) (end_told_in day owner n) (told_in day owner n) c.in_ok-finish.field-0 c.requires.streams
    c.in_ok-finish.ensures)

pub returns : goal.returns
returns g c =
    let run = c.args.run.now in
    let end = YieldsList-end (YieldsList-from_vec {s = c.into_iter-part-iterator.result} c.args.parts.items (search rules) (search rules))
    c.loop-part.yielded c.loop-part.part-iterator c.loop-part.yielded_by c.next.result c.next.new.self c.in-None.is c.next.ensures.steps in
    c.loop-part.invariant
    ∙ all_mapped (λ x. told_at_end (g.T.DayPart.day run) (g.T.DayPart.owner run) (g.T.Part.see x)) c.loop-part.yielded
    c.args.parts.items end.0
