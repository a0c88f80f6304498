use Rattle.std.proofs.{Common.get_or, Common.arith, lemmas.List.get_or_default}
use Rattle.event_pipe.proofs.Rings.{looked_set, waits_set, short_set}
use Rattle.event_pipe.proofs.consumers.first_short.Goals as goal

pub returns-then-is_empty-clause-looked : goal.returns-then-is_empty-clause-looked
returns-then-is_empty-clause-looked g c =
    looked_set c.args.rings.now c.loop-place.rings c.loop-place.place
    (get_or c.loop-place.rings c.loop-place.place c.index-rings-place.result) c.is_empty.new.self c.loop-place.invariant.0
    (omega arith) (get_or_default c.loop-place.rings c.loop-place.place c.index-rings-place.result
    (get_or c.loop-place.rings c.loop-place.place c.index-rings-place.result) (omega arith))
    c.is_empty.ensures.looked

pub returns-then-is_empty-clause-some : goal.returns-then-is_empty-clause-some
returns-then-is_empty-clause-some g c =
    short_set c.loop-place.rings c.loop-place.place c.is_empty.new.self (omega arith) c.loop-place.invariant.1
    (c.is_empty.ensures.value.0 c.if-is_empty.true)

pub loop-place-preserved : goal.loop-place-preserved
loop-place-preserved g c = (
  looked_set c.args.rings.now c.loop-place.rings c.loop-place.place
      (get_or c.loop-place.rings c.loop-place.place c.index-rings-place.result) c.is_empty.new.self c.loop-place.invariant.0 (omega arith)
      (get_or_default c.loop-place.rings c.loop-place.place c.index-rings-place.result
      (get_or c.loop-place.rings c.loop-place.place c.index-rings-place.result) (omega arith))
      c.is_empty.ensures.looked,
  waits_set c.loop-place.rings c.loop-place.place c.is_empty.new.self (omega arith) c.loop-place.invariant.1
      (let own = c.is_empty.ensures.value in let full = c.if-is_empty.false in grind (arith, own, full)),
)
