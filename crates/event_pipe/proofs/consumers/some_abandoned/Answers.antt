use Rattle.std.proofs.{Common.get_or, Common.arith, lemmas.List.get_or_default}
use Rattle.event_pipe.proofs.Rings.{looked_set}
use Rattle.event_pipe.proofs.consumers.some_abandoned.Goals as goal

pub returns-then-is_abandoned : goal.returns-then-is_abandoned
returns-then-is_abandoned g c =
    looked_set c.args.rings.now c.loop-place.rings c.loop-place.place
    (get_or c.loop-place.rings c.loop-place.place c.index-rings-place.result) c.is_abandoned.new.self c.loop-place.invariant
    (omega arith) (get_or_default c.loop-place.rings c.loop-place.place c.index-rings-place.result
    (get_or c.loop-place.rings c.loop-place.place c.index-rings-place.result) (omega arith))
    c.is_abandoned.ensures

pub loop-place-preserved : goal.loop-place-preserved
loop-place-preserved g c =
    looked_set c.args.rings.now c.loop-place.rings c.loop-place.place
    (get_or c.loop-place.rings c.loop-place.place c.index-rings-place.result) c.is_abandoned.new.self c.loop-place.invariant
    (omega arith) (get_or_default c.loop-place.rings c.loop-place.place c.index-rings-place.result
    (get_or c.loop-place.rings c.loop-place.place c.index-rings-place.result) (omega arith))
    c.is_abandoned.ensures
