use Rattle.std.proofs.Common.{◌∙◌, ◌+◌, ◌++◌, List, [], ◌∷◌, ap, get_or, arith, map}
use Rattle.std.proofs.lemmas.List.{get_or_default}
use Rattle.events.specs.declared.event.Event.{Event}
use Rattle.rtrb.specs.Ring.{known_items}
use Rattle.event_pipe.proofs.Rings.{taken_set, taken_next, next_count, take_whole, next_more}
use Rattle.event_pipe.specs.{Pieces.events_of, Rings.next_pieces, declared.pieces.Piece.Piece}
use Rattle.event_pipe.proofs.consumers.take_next.Goals as goal

pub loop-number-preserved : goal.loop-number-preserved
loop-number-preserved g c =
    let held = c.loop-number.invariant in
    let i = c.loop-number.number in
    let first = c.args.rings.now in
    let here = get_or c.loop-number.rings i c.index-rings-number.result in
    let there = get_or_default c.loop-number.rings i c.index-rings-number.result here (omega arith) in
    let x = c.pop_known-partition.result in
    let popped = c.pop_known-partition.ensures in
    let gone = c.push_reserved.ensures in
    record {
      taken = taken_set g.P.Protocol.allows first c.loop-number.rings i here c.pop_known-partition.new.self x held.taken (omega arith) there
          popped.ring popped.received.0 popped.received.1 popped.allowed;
      count = gone.len ∙ ap (λ n. n + 1) held.count;
      room = gone.capacity ∙ held.room;
      lists = gone.items ∙ ap (λ (l : List (List Event)). l ++ events_of x ∷ []) held.lists
          ∙ next_more events_of first c.requires.waiting i x (known_items c.pop_known-partition.new.self) (omega arith)
          (taken_next g.P.Protocol.allows first c.loop-number.rings i here (known_items c.pop_known-partition.new.self) x held.taken (omega arith) there
          popped.received.1);
    }

pub returns-clause-lists : goal.returns-clause-lists
returns-clause-lists g c =
    let held = c.loop-number.invariant in
    let n = next_count c.args.rings.now c.requires.waiting in
    held.lists
    ∙ ap (λ (l : List Piece). map events_of l) (take_whole (next_pieces c.args.rings.now) c.loop-number.number (omega (arith, n)))
