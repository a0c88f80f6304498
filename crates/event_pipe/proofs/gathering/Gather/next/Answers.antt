use Rattle.std.proofs.Common.{◌<◌, ◌∙◌, ◌∷◌, ◌++◌, length, map, get_or, take, drop, subst, sym, ap, arith}
use mathlib.Core.List.{IsPrefix}
use Rattle.event_pipe.{proofs.Calls.taken_each, proofs.Rings.written_over, proofs.Rings.prefix_of_none, proofs.Rings.next_count, specs.Pieces.events_of}
use Rattle.event_pipe.specs.Rings.{popped, waiting, next_pieces, IsEndOf, AreLooked, AllWait, IsFirstShort, AreTaken}
use Rattle.event_pipe.proofs.gathering.Gather.next.Goals as goal

pub returns-in-Some-clause-gathers : goal.returns-in-Some-clause-gathers
returns-in-Some-clause-gathers g c =
    let before = c.args.self.now.rings in
    let rings = c.first_short.new.rings in
    let looked : AreLooked before.items rings =
    subst (λ l. AreLooked l c.first_short.new.rings) c.deref_mut.ensures.value c.first_short.ensures.looked in
    let some : IsFirstShort rings c.in-Some.partition = c.in-Some.ensures.some in
    let same = written_over before.items rings before.len before.ok.0 looked.count in
    let there = subst (λ l. AreLooked before.items l) (sym same) looked in (
      (let n = looked.count in let b = some.is_ring in omega (arith, n, b)),
      prefix_of_none (waiting before.items c.in-Some.partition)
          (subst (λ l. IsPrefix (waiting before.items c.in-Some.partition) l) some.short (looked.more c.in-Some.partition)),
      ap (λ l. waiting l c.in-Some.partition) same ∙ some.short,
      (λ q b. subst (λ l. 0 < length (waiting l q)) (sym same) (some.first q b)),
      record { count = there.count; same = there.same; more = there.more },
    )

pub returns-in-Some-clause-senders : goal.returns-in-Some-clause-senders
returns-in-Some-clause-senders g c =
    let before = c.args.self.now.rings in
    let looked : AreLooked before.items c.first_short.new.rings =
    subst (λ l. AreLooked l c.first_short.new.rings) c.deref_mut.ensures.value c.first_short.ensures.looked in
    let same = written_over before.items c.first_short.new.rings before.len before.ok.0 looked.count in
    let there = subst (λ l. AreLooked before.items l) (sym same) looked in
    λ p s own. (own.0, there.ends p s.producer own.1)

pub returns-in-Ok-clause-gathers : goal.returns-in-Ok-clause-gathers
returns-in-Ok-clause-gathers g c =
    let before = c.args.self.now.rings in
    let rings = c.first_short.new.rings in
    let after = c.take_next.new.rings in
    let allows = g.P.Protocol.allows in
    let looked : AreLooked before.items rings = subst (λ l. AreLooked l rings) c.deref_mut.ensures.value c.first_short.ensures.looked in
    let wait : AllWait rings = c.in_default.ensures.none in
    let same = written_over before.items rings before.len before.ok.0 looked.count in
    let taken : AreTaken allows (length rings) rings after =
    subst (λ l. AreTaken allows (length l) l after) (c.deref_mut-in-Ok.ensures.value ∙ same) c.take_next.ensures.taken in
    let long = ap length (sym same) in
    let over = written_over (take before.len (rings ++ drop (length rings) before.items)) after before.len
    (before.ok.0 ∙ sym looked.count ∙ long) (taken.count ∙ long) in
    let each = taken_each allows before.items rings after looked wait taken in (
      next_pieces rings,
      record {
        count = next_count rings wait ∙ looked.count;
        each = λ p d b. ap (λ l. popped l p) over ∙ (each p d b).0;
        were_held = λ p d b. subst (λ l. IsPrefix (waiting before.items p) (get_or (next_pieces rings) p d ∷ waiting l p)) (sym over)
            (each p d b).1;
        allowed = λ p d b. (each p d b).2;
      },
      c.take_next.ensures.lists ∙ ap (λ l. map events_of (next_pieces l)) (c.deref_mut-in-Ok.ensures.value ∙ same),
    )

pub returns-in-Ok-clause-senders : goal.returns-in-Ok-clause-senders
returns-in-Ok-clause-senders g c =
    let before = c.args.self.now.rings in
    let rings = c.first_short.new.rings in
    let after = c.take_next.new.rings in
    let allows = g.P.Protocol.allows in
    let looked : AreLooked before.items rings = subst (λ l. AreLooked l rings) c.deref_mut.ensures.value c.first_short.ensures.looked in
    let same = written_over before.items rings before.len before.ok.0 looked.count in
    let taken : AreTaken allows (length rings) rings after =
    subst (λ l. AreTaken allows (length l) l after) (c.deref_mut-in-Ok.ensures.value ∙ same) c.take_next.ensures.taken in
    let long = ap length (sym same) in
    let over = written_over (take before.len (rings ++ drop (length rings) before.items)) after before.len
    (before.ok.0 ∙ sym looked.count ∙ long) (taken.count ∙ long) in
    λ p s own. (own.0, subst (λ l. IsEndOf l p s.producer) (sym over) (taken.ends p s.producer (looked.ends p s.producer own.1)))

pub returns-in-Err-clause-as_before : goal.returns-in-Err-clause-as_before
returns-in-Err-clause-as_before g c =
    let before = c.args.self.now.rings in
    let looked : AreLooked before.items c.first_short.new.rings =
    subst (λ l. AreLooked l c.first_short.new.rings) c.deref_mut.ensures.value c.first_short.ensures.looked in
    let same = written_over before.items c.first_short.new.rings before.len before.ok.0 looked.count in
    let there = subst (λ l. AreLooked before.items l) (sym same) looked in
    record { count = there.count; same = there.same; more = there.more }

pub returns-in-Err-clause-senders : goal.returns-in-Err-clause-senders
returns-in-Err-clause-senders g c =
    let before = c.args.self.now.rings in
    let looked : AreLooked before.items c.first_short.new.rings =
    subst (λ l. AreLooked l c.first_short.new.rings) c.deref_mut.ensures.value c.first_short.ensures.looked in
    let same = written_over before.items c.first_short.new.rings before.len before.ok.0 looked.count in
    let there = subst (λ l. AreLooked before.items l) (sym same) looked in
    λ p s own. (own.0, there.ends p s.producer own.1)
