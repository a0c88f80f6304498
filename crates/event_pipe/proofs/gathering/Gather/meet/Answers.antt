use Rattle.std.proofs.Common.{◌≤◌, ◌+◌, length, subst, sym}
use Rattle.rtrb.specs.Ring.{known_free, producer_capacity}
use Rattle.event_pipe.proofs.{Calls.met_at, Calls.held_at, Rings.looked_start, Rings.looked_set}
use Rattle.event_pipe.proofs.gathering.Gather.meet.Goals as goal

pub returns-clause-met : goal.returns-clause-met
returns-clause-met g c =
    let rings = c.args.self.now.rings.items in
    let after = c.know_all.new.ring in
    let b = c.requires.1.0 in
    let own = held_at rings c.args.partition after b in
    record {
      all_sent = met_at rings c.args.partition after _ b c.know_all.ensures.items;
      all_free = subst (λ l. producer_capacity c.know_all.new.producer ≤ known_free c.know_all.new.producer + length l)
          (sym own) c.know_all.ensures.places;
    }

pub returns-clause-as_before : goal.returns-clause-as_before
returns-clause-as_before g c =
    let rings = c.args.self.now.rings.items in
    let looked = looked_set rings rings c.args.partition c.index_mut-ring.result.now c.know_all.new.ring (looked_start rings)
    c.requires.1.0 c.index_mut-ring.ensures.value c.know_all.ensures.ring in
    record { count = looked.count; same = looked.same; more = looked.more }
