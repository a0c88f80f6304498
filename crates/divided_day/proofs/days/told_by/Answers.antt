use Rattle.std.proofs.Common.{◌∙◌, ap, length, map, rules}
use Rattle.std.proofs.lemmas.Iterator.{Adapters.YieldsList-from_vec, Consumers.YieldsList-turn, Consumers.YieldsList-end}
use Rattle.traffic.specs.Lists.{below}
use Rattle.divided_day.specs.Days.{told_in, end_told_in}
use Rattle.divided_day.proofs.Telling.{all_at_end, told_more, part_there, own_there, number_there}
use Rattle.divided_day.proofs.days.told_by.Goals as goal

pub finish-requires-clause-there : goal.finish-requires-clause-there
finish-requires-clause-there g c =
    let run = c.args.run.now in
    let turn = YieldsList-turn (YieldsList-from_vec {s = c.into_iter-part-iterator.result} c.args.parts.items (search rules) (search rules))
    c.loop-part.yielded c.loop-part.part-iterator c.loop-part.yielded_by c.next.result c.next.new.self c.in-Some.part c.in-Some.is
    c.next.ensures.steps in
    number_there g.T.Part.nothing g.T.Part.see (g.T.Part.stands run) (g.T.Part.net run).end
    (λ p. length (g.T.Part.borders run p)) c.args.parts.items
    (g.T.Part.net run).parts (length c.loop-part.yielded) c.in-Some.part c.requires.count c.requires.ended turn.0 turn.1

pub finish-requires-clause-at : goal.finish-requires-clause-at
finish-requires-clause-at g c =
    let run = c.args.run.now in
    let turn = YieldsList-turn (YieldsList-from_vec {s = c.into_iter-part-iterator.result} c.args.parts.items (search rules) (search rules))
    c.loop-part.yielded c.loop-part.part-iterator c.loop-part.yielded_by c.next.result c.next.new.self c.in-Some.part c.in-Some.is
    c.next.ensures.steps in
    own_there g.T.Part.nothing g.T.Part.see (g.T.Part.stands run) (g.T.Part.net run).end
    (λ p. length (g.T.Part.borders run p)) c.args.parts.items
    (g.T.Part.net run).parts (length c.loop-part.yielded) c.in-Some.part c.requires.count c.requires.ended turn.0 turn.1

pub loop-part-preserved : goal.loop-part-preserved
loop-part-preserved g c =
    let run = c.args.run.now in
    let turn = YieldsList-turn (YieldsList-from_vec {s = c.into_iter-part-iterator.result} c.args.parts.items (search rules) (search rules))
    c.loop-part.yielded c.loop-part.part-iterator c.loop-part.yielded_by c.next.result c.next.new.self c.in-Some.part c.in-Some.is
    c.next.ensures.steps in
    let there = part_there g.T.Part.nothing g.T.Part.see (g.T.Part.stands run) (g.T.Part.net run).end
    (λ p. length (g.T.Part.borders run p)) c.args.parts.items
    (g.T.Part.net run).parts (length c.loop-part.yielded) c.in-Some.part c.requires.count c.requires.ended turn.0 turn.1 in
    let n = (g.T.Part.see c.in-Some.part).number in
    let all = told_in (g.T.DayPart.day run) (g.T.DayPart.owner run) in
    told_more all c.loop-part.lists.items c.push.new.self.items c.loop-part.yielded
    c.in_ok-finish.field-0 c.in-Some.part c.loop-part.invariant c.in_ok-push.ensures.items
    (all_at_end (g.T.DayPart.streams run) (end_told_in (g.T.DayPart.day run) (g.T.DayPart.owner run) n) (all n) c.in_ok-finish.field-0
    c.requires.stays c.in_ok-finish.ensures ∙ ap all there.number)

pub returns : goal.returns
returns g c =
    let run = c.args.run.now in
    let end = YieldsList-end (YieldsList-from_vec {s = c.into_iter-part-iterator.result} c.args.parts.items (search rules) (search rules))
    c.loop-part.yielded c.loop-part.part-iterator c.loop-part.yielded_by c.next.result c.next.new.self c.in-None.is c.next.ensures.steps in
    c.loop-part.invariant ∙ ap (λ n. map (told_in (g.T.DayPart.day run) (g.T.DayPart.owner run)) (below n)) (end.1 ∙ c.requires.count)
