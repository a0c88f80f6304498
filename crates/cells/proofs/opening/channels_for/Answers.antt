use Rattle.std.proofs.Common.{refl}
use Rattle.cells.proofs.Channels.{push_two}
use Rattle.cells.proofs.opening.channels_for.Goals as goal

pub loop-i-preserved : goal.loop-i-preserved
loop-i-preserved c =
    push_two c.args.pairs.now c.loop-i.i c.loop-i-test.true c.loop-i.channels.items c.push.new.self.items _ _ _
    c.loop-i.invariant c.in_ok-push.ensures.items c.in_ok-push-2.ensures.items refl refl
