use Rattle.std.proofs.Common.{subst, sym}
use Rattle.event_pipe.{proofs.Rings.written_over, specs.Rings.AreLooked}
use Rattle.event_pipe.proofs.gathering.Gather.is_abandoned.Goals as goal

pub returns-clause-as_before : goal.returns-clause-as_before
returns-clause-as_before g c =
    let before = c.args.self.now.rings in
    let looked : AreLooked before.items c.some_abandoned.new.rings =
    subst (λ l. AreLooked l c.some_abandoned.new.rings) c.deref_mut.ensures.value c.some_abandoned.ensures in
    let same = written_over before.items c.some_abandoned.new.rings before.len before.ok.0 looked.count in
    let there = subst (λ l. AreLooked before.items l) (sym same) looked in
    record { count = there.count; same = there.same; more = there.more }

pub returns-clause-senders : goal.returns-clause-senders
returns-clause-senders g c =
    let before = c.args.self.now.rings in
    let looked : AreLooked before.items c.some_abandoned.new.rings =
    subst (λ l. AreLooked l c.some_abandoned.new.rings) c.deref_mut.ensures.value c.some_abandoned.ensures in
    let same = written_over before.items c.some_abandoned.new.rings before.len before.ok.0 looked.count in
    let there = subst (λ l. AreLooked before.items l) (sym same) looked in
    λ p s own. (own.0, there.ends p s.producer own.1)
