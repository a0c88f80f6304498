use Rattle.std.proofs.Common.{refl, arith}
use Rattle.iterations.proofs.PlanLines.{persons_step}
use Rattle.iterations.proofs.ends.push_persons.Goals as goal

pub loop-place-preserved : goal.loop-place-preserved
loop-place-preserved c =
    persons_step c.args.town.now.book c.args.first c.loop-place.place _ c.args.memories.now c.index-memories-place.result c.loop-place.text.items
    c.push_own.new.text.items _ (omega (arith, c.loop-place-test.true)) c.index-memories-place.is refl c.in_ok-push_own.ensures c.loop-place.invariant
