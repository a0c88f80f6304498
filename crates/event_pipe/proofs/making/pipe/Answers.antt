use Rattle.std.proofs.{Common.◌∙◌, Common.length, Common.sym, Common.ap, Common.arith, Common.subst₂, lemmas.List.length_push}
use Rattle.event_pipe.proofs.Made.{AreMade, made_more, made_pipe, made_count}
use Rattle.event_pipe.proofs.making.pipe.Goals as goal

pub loop-partition-preserved : goal.loop-partition-preserved
loop-partition-preserved g c =
    let held = c.loop-partition.invariant in
    let long = ap length c.in_ok-push.ensures.items ∙ length_push c.loop-partition.senders.items c.in_ok-sender.sender in (
      (let n = held.0 in omega (arith, long, n)),
      subst₂ (λ ss rs. AreMade c.args.room 0 ss rs) (sym c.in_ok-push.ensures.items) (sym c.in_ok-push-2.ensures.items)
          (made_more c.args.room 0 c.loop-partition.partition c.loop-partition.senders.items c.loop-partition.rings.items
          c.in_ok-sender.sender c.in_ok-sender.ring held.1
          (let n = held.0 in omega (arith, n)) c.in_ok-sender.ensures),
    )

pub invariant_of-result : goal.invariant_of-result
invariant_of-result g c =
    let held = c.loop-partition.invariant in
    let long = made_count c.args.room 0 c.loop-partition.senders.items c.loop-partition.rings.items held.1 in
    let few = c.requires.few_parts in
    let n = held.0 in
    record { few = omega (arith, long, n, few) }

pub returns : goal.returns
returns g c =
    let held = c.loop-partition.invariant in
    made_pipe c.args.parts c.args.room c.loop-partition.senders.items _ (held.0 ∙ omega arith) held.1
