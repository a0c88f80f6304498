use Rattle.std.proofs.Common.{arith, refl, ◌∙◌, ap}
use Rattle.divided_day.proofs.Whole.{own_net_sound, own_borders_sound}
use Rattle.step_core.specs.Nets.{Net}
use Rattle.collected_day.proofs.Due.{first_taking}
use Rattle.collected_day.proofs.day.begin.Goals as goal

pub of-requires-clause-some : goal.of-requires-clause-some
of-requires-clause-some g c κs within =
    let run = c.args.run.now in
    let met = g.met.T.DayPart in
    let parts = ap (λ (N : Net). N.parts) (met.nets run) in
    let some = (g.T.DayPart.owner run).some in
    omega (arith, parts, some)

pub of-requires-clause-net : goal.of-requires-clause-net
of-requires-clause-net g c κs within =
    let run = c.args.run.now in
    let met = g.met.T.DayPart in
    own_net_sound (g.T.DayPart.day run) (g.T.DayPart.owner run) c.requires.given _ (met.nets run)

pub of-requires-clause-borders : goal.of-requires-clause-borders
of-requires-clause-borders g c κs within =
    let run = c.args.run.now in
    let met = g.met.T.DayPart in
    λ p lt. own_borders_sound (g.T.DayPart.day run) (g.T.DayPart.owner run) c.requires.given _ p _ (met.nets run)
    (met.neighbours run p)

pub returns-clause-taking : goal.returns-clause-taking
returns-clause-taking g c =
    let run = c.args.run.now in
    let met = g.met.T.DayPart in
    first_taking g.S.Stream.told_in_spans (g.T.DayPart.day run) (g.T.DayPart.owner run) (g.T.Part.net run).end _ c.requires.given
    c.requires.told (c.in_ok-senders.ensures.parts_count ∙ c.count.ensures ∙ ap (λ (N : Net). N.parts) (met.nets run))
    (λ p lt. c.in_ok-senders.ensures.label_gathered p
    (let count = c.count.ensures in let parts = ap (λ (N : Net). N.parts) (met.nets run) in omega (arith, count, parts, lt)))
    refl
