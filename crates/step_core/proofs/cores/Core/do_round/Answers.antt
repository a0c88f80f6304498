use Rattle.std.proofs.Common.{arith, sym, ap, ◌∙◌, subst}
use Rattle.step_core.specs.{Cores.done_at, Cores.number_in_round, Nets.MayStep}
use Rattle.step_core.proofs.Together.{each_at, to_and_fro, may_in_round, round_over}
use Rattle.step_core.proofs.cores.Core.do_round.Goals as goal

pub advance-requires-clause-may : goal.advance-requires-clause-may
advance-requires-clause-may g c =
    let N = g.T.Part.net c.args.run.now in
    let order = to_and_fro N.parts c.args.second in
    let done = c.loop-stepped.self.done.items in
    let i = c.loop-stepped.invariant in
    let lt = c.loop-stepped-test.true in
    subst (λ p. MayStep N p (done_at done))
    (sym (c.number_in_round-number.ensures ∙ ap (λ n. number_in_round n c.args.second c.loop-stepped.stepped) c.count-count.ensures))
    (may_in_round (number_in_round N.parts c.args.second) N c.loop-stepped.stepped c.args.second done c.loop-stepped.self.stopped.items
    i.core.net order i.round (omega arith) c.requires.before_end)

pub returns-clause-at : goal.returns-clause-at
returns-clause-at g c =
    let N = g.T.Part.net c.args.run.now in
    round_over (number_in_round N.parts c.args.second) N.parts c.loop-stepped.stepped c.args.second c.loop-stepped.self.done.items
    c.loop-stepped.self.stopped.items (to_and_fro N.parts c.args.second) (omega (arith, c.count-count.ensures, c.loop-stepped-test.false))
    c.loop-stepped.invariant.round

pub returns-clause-each : goal.returns-clause-each
returns-clause-each g c =
    each_at _ (g.T.Part.net c.args.run.now) (g.T.Part.borders c.args.run.now) _ _ _ _ _ _ _ _ _ _ c.loop-stepped.invariant.core (returns-clause-at g c)
