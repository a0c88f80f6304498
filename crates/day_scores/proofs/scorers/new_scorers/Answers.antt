use Rattle.day_scores.proofs.Standing.{stand-push, kinds-push}
use Rattle.day_scores.proofs.scorers.new_scorers.Goals as goal

pub loop-kind-preserved : goal.loop-kind-preserved
loop-kind-preserved c =
    let pushed = c.in_ok-push.ensures.items in
    rw pushed (
      kinds-push c.loop-kind.scorers.items c.new.result c.args.kinds.now c.loop-kind.kind-index 0 c.loop-kind-test.true c.new.ensures.kind c.loop-kind.invariant.0,
      λ scoring. stand-push scoring c.loop-kind.scorers.items c.new.result (c.loop-kind.invariant.1 scoring) (c.new.ensures.stands scoring),
    )
