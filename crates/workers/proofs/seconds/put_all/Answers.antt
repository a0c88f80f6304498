use Rattle.std.proofs.Common.{arith, ap, length}
use Rattle.workers.proofs.Exchanging.{may_give, gave}
use Rattle.workers.proofs.seconds.put_all.Goals as goal

pub put-requires-clause-right : goal.put-requires-clause-right
put-requires-clause-right g c κs within = let n = ap length c.neighbours-k-end.ensures in let lt = c.loop-k-test.true in
    let m = c.requires.port.as_many in
    may_give g.T.Part.nothing g.T.Part.see g.T.Part.stands g.T.Part.right c.args.board.now c.args.port.now c.args.part.now c.loop-k.k
    c.loop-k.port c.loop-k.part c.take_out-parcel.result c.loop-k.invariant (omega arith) c.take_out-parcel.ensures.parcel
    (c.requires.sent c.loop-k.k (omega arith))

pub loop-k-preserved : goal.loop-k-preserved
loop-k-preserved g c = let p = c.put.ensures in let o = c.take_out-parcel.ensures in
    let n = ap length c.neighbours-k-end.ensures in let lt = c.loop-k-test.true in let m = c.requires.port.as_many in
    gave g.T.Part.nothing g.T.Part.see g.T.Part.stands g.T.Part.right c.args.board.now c.args.port.now c.args.part.now c.loop-k.k
    c.loop-k.port c.put.new.self c.loop-k.part c.take_out-parcel.new.part c.take_out-parcel.result c.loop-k.invariant
    (omega arith) p.port p.same p.held p.counts o.outbox o.inbox o.number o.seconds o.stands
