use Rattle.std.proofs.Common.{sym, ◌∙◌, arith}
use Rattle.car_routes.proofs.Wanting.{wants_one, put_down, nothing_put}
use Rattle.car_routes.proofs.wanted.want_leg.Goals as goal

pub want-requires : goal.want-requires
want-requires c = omega (arith, c.in-Some.ensures.inside.0, c.requires.nodes)

pub returns-in_ok-want : goal.returns-in_ok-want
returns-in_ok-want c =
    put_down c.args.adjacency.now.nodes _ c.in-Some.from c.in-Some.to c.args.targets.now c.want.new.targets (sym c.in-Some.ensures.pair)
    (wants_one c.args.adjacency.now.nodes c.in-Some.from c.in-Some.to c.args.targets.now c.want.new.targets
    (omega (arith, c.in-Some.ensures.inside.0, c.requires.nodes)) c.in-Some.ensures.inside.1 c.in_ok-want.ensures)

pub returns-in_default : goal.returns-in_default
returns-in_default c = nothing_put _ _ _ (sym c.wanted.ensures.pair ∙ c.in_default.is)
